-- How far paths that edges have become are bent.
use Rattle.std.specs.Prelude.{ℕ, ◌≡◌, ◌+◌, ◌<◌, ◌≤◌, ◌^◌, List, length}
use Rattle.mesh_plane.specs.Bounds.{IsSafe}
use Rattle.mesh_plane.specs.Plane.{Point, Edge}
use Rattle.mesh_lattice.specs.Split.{AreClear}
use Rattle.mesh_points.specs.Edges.{edge_at}
use Rattle.mesh_points.specs.Points.{point_at}
use Rattle.mesh_paths.specs.declared.paths.Paths.{Paths}
use Rattle.mesh_paths.specs.Paths.{edge_of, ends_of, ArePaths, IsPieceOf}
use Rattle.mesh_paths.specs.Stops.{count_of, pieces_of, point_of}
use Rattle.mesh_paths.specs.declared.paths.Piece.{Piece}
use Rattle.mesh_check.specs.Heights.{IsNearLine, IsPathAlong, LeadsAway}

-- all points have coordinates below 2^30 in size
abbrev pub ArePointsSmall : List Point → Type 0
ArePointsSmall ps = (k : ℕ) → k < length ps → IsSafe (2 ^ 30) (point_at ps k)

-- the edge that a path began as
abbrev pub line_of : Paths → ℕ → Edge
line_of p k = ends_of (edge_at p.edges.items k)

-- all stops of a path lie at most so many units beside the line of its edge
abbrev pub IsBentBy : Paths → ℕ → ℕ → Type 0
IsBentBy p path units =
    (i : ℕ) → i ≤ pieces_of p.stops path → IsNearLine units (line_of p path) (point_of p.stops path i)

-- each path leads along its edge
abbrev pub PathsGoAlong : Type 0
PathsGoAlong =
    (p : Paths) (k units : ℕ) → ArePaths p → k < count_of p.stops → IsBentBy p k units
    → IsPathAlong units (line_of p k) (point_of p.stops k) (pieces_of p.stops k)

-- a path leads more than so many units away from the line of another one, from a place on
abbrev pub LeadsAwayFrom : Paths → ℕ → ℕ → ℕ → ℕ → Type 0
LeadsAwayFrom p k units j place = LeadsAway units (line_of p k) (point_of p.stops j) (pieces_of p.stops j) place

-- two paths lead apart from a stop of both, which stands at these places of them
pub record LeadApart (p : Paths) (j k first second j_units k_units : ℕ) : Type 0 where
  pub first_place : first ≤ pieces_of p.stops j
  pub second_place : second ≤ pieces_of p.stops k
  pub same : point_of p.stops j first ≡ point_of p.stops k second
  pub first_leads : LeadsAwayFrom p k (k_units + (j_units + j_units)) j first
  pub second_leads : LeadsAwayFrom p j (j_units + (k_units + k_units)) k second

-- any two pieces of two paths are clear of each other
abbrev pub AreClearPaths : Paths → ℕ → ℕ → Type 0
AreClearPaths p j k =
    (a b : Piece) → IsPieceOf p a → IsPieceOf p b → a.path ≡ j → b.path ≡ k → AreClear (edge_of p a) (edge_of p b)

-- so paths that lead apart from a stop of both are clear of each other
abbrev pub LeadingApartIsClear : Type 0
LeadingApartIsClear =
    (p : Paths) (j k first second j_units k_units : ℕ) → ArePaths p → j < count_of p.stops → k < count_of p.stops
    → IsBentBy p j j_units → IsBentBy p k k_units → LeadApart p j k first second j_units k_units → AreClearPaths p j k
