-- When paths are clear of each other: by edges that stay clear, by lines beside which they lie, and each of itself.
use Rattle.std.specs.Prelude.{ℕ, ◌+◌, ◌<◌, ◌≤◌, ◌⊎◌, ◌<ℤ◌, neg_ℤ}
use Rattle.mesh_plane.specs.Plane.{Edge, turn}
use Rattle.mesh_lattice.specs.Split.{AreClear}
use Rattle.mesh_pairs.specs.Pairs.{StayClear}
use Rattle.mesh_paths.specs.declared.paths.Paths.{Paths}
use Rattle.mesh_paths.specs.declared.paths.Piece.{Piece}
use Rattle.mesh_paths.specs.Paths.{edge_of, ArePaths}
use Rattle.mesh_paths.specs.Stops.{count_of, pieces_of, point_of}
use Rattle.mesh_check.specs.declared.comparing.Stretch.{Stretch}
use Rattle.mesh_check.specs.Bent.{line_of, AreClearPaths, IsBentBy}
use Rattle.mesh_check.specs.Heights.{units}

-- both ends of the second edge lie on one side of the first's line, more than so many units beside it
abbrev pub LiesBeside : ℕ → Edge → Edge → Type 0
LiesBeside k e f =
    ((units k e <ℤ turn e.0 e.1 f.0) × (units k e <ℤ turn e.0 e.1 f.1))
    ⊎ ((turn e.0 e.1 f.0 <ℤ neg_ℤ (units k e)) × (turn e.0 e.1 f.1 <ℤ neg_ℤ (units k e)))

-- the pieces of one path are clear of each other
abbrev pub PathsAreClearOfThemselves : Type 0
PathsAreClearOfThemselves =
    (p : Paths) (k units : ℕ) → ArePaths p → k < count_of p.stops → IsBentBy p k units → AreClearPaths p k k

-- paths that are bent by no more units than their edges may be bent by and stay clear are clear of each other
abbrev pub PathsStayClear : Type 0
PathsStayClear =
    (p : Paths) (j k units : ℕ) → ArePaths p → j < count_of p.stops → k < count_of p.stops
    → IsBentBy p j units → IsBentBy p k units → StayClear units (line_of p j) (line_of p k) → AreClearPaths p j k

-- so are paths where one edge lies beside the other's line by more than both are bent
abbrev pub PathsBesideAreClear : Type 0
PathsBesideAreClear =
    (p : Paths) (j k j_units k_units : ℕ) → ArePaths p → j < count_of p.stops → k < count_of p.stops
    → IsBentBy p j j_units → IsBentBy p k k_units → LiesBeside (j_units + k_units) (line_of p j) (line_of p k)
    → AreClearPaths p j k

-- a piece is clear of all pieces of a stretch
abbrev pub IsClearOfStretch : Paths → Piece → Stretch → Type 0
IsClearOfStretch p a s =
    (i : ℕ) → s.start ≤ i → i < s.end → AreClear (edge_of p a) (edge_of p (record { path = s.path; place = i }))

-- all pieces of two stretches are clear of each other
abbrev pub AreClearStretches : Paths → Stretch → Stretch → Type 0
AreClearStretches p s t = (i : ℕ) → s.start ≤ i → i < s.end → IsClearOfStretch p (record { path = s.path; place = i }) t

-- the stop with which a stretch starts and the one with which it ends
abbrev pub ends_of_stretch : Paths → Stretch → Edge
ends_of_stretch p s = (point_of p.stops s.path s.start, point_of p.stops s.path s.end)

-- a stretch is one of a path
pub record IsStretchOf (p : Paths) (s : Stretch) : Type 0 where
  pub path : s.path < count_of p.stops
  pub end : s.end ≤ pieces_of p.stops s.path
