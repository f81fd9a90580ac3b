-- The clearance between edges and the sections of paths: how near they come to each other, as a squared distance.
use Rattle.std.specs.Prelude.{ℕ, suc, ◌*◌, ◌<◌, ◌≤◌, ◌≡◌, Bool, cond, List, [], ◌∷◌}
use Rattle.std.specs.List.{All, flat_map}
use Rattle.mesh_plane.specs.Plane.{Point, Edge, minus, length_sq}
use Rattle.mesh_plane.specs.Winding.{boundary, pairs_from, refined, winding, IsBalanced}
use Rattle.mesh_num.specs.Paths.{contours_of}
use Rattle.mesh_lattice.specs.Clean.{IsOn, refined_edge}

-- every two points of two edges, one of each, are at least the root of `t` from each other, on every grid
abbrev pub AreApart : ℕ → Edge → Edge → Type 0
AreApart t e f =
    (m : ℕ) → (p q : Point) → IsOn (refined_edge m e) p → IsOn (refined_edge m f) q
    → t * (m * m) ≤ length_sq (minus p q)

-- `t` is the greatest number by which two edges are apart: their squared distance, rounded down
pub record IsSeparation (e f : Edge) (t : ℕ) : Type 0 where
  pub apart : AreApart t e f
  pub greatest : AreApart (suc t) e f → ⊥

-- each edge of the first list is so far from each of the second
abbrev pub AreAllApart : ℕ → List Edge → List Edge → Type 0
AreAllApart t es fs = All (λ (e : Edge). All (AreApart t e) fs) es

-- `t` is the greatest number by which they are
pub record IsClearance (es fs : List Edge) (t : ℕ) : Type 0 where
  pub apart : AreAllApart t es fs
  pub greatest : AreAllApart (suc t) es fs → ⊥

-- the neighbouring points of a list
abbrev pub neighbours : List Point → List Edge
neighbours [] = []
neighbours (p ∷ ps) = pairs_from p ps

-- the sections of a path: from each point to the next, and from the last to the first where the path is closed
abbrev pub sections : Bool → List Point → List Edge
sections is_closed path = cond is_closed (boundary path) (neighbours path)

-- the sections of all paths, in order
abbrev pub all_sections : Bool → List (List Point) → List Edge
all_sections are_closed paths = flat_map (sections are_closed) paths

-- the edges of the contours of shapes, in order
abbrev pub shape_edges : List (List (List Point)) → List Edge
shape_edges shapes = flat_map boundary (contours_of shapes)

-- the point `q` of the grid `m` is nearer than the root of `t` to a point of an edge, on some finer grid
pub record IsNearer (t m : ℕ) (e : Edge) (q : Point) : Type 0 where
  pub grid : ℕ
  pub nearest : Point
  pub on_edge : IsOn (refined_edge (grid * m) e) nearest
  pub nearer : length_sq (minus (refined grid q) nearest) < t * ((grid * m) * (grid * m))

-- edges wind round each point nearer than the root of `t` to a section as round a vertex
abbrev pub WindAsAt : ℕ → List Edge → Point → Edge → Type 0
WindAsAt t es vertex section =
    (m : ℕ) → (q : Point) → IsNearer t m section q → winding m q es ≡ winding 1 vertex es

-- round each point so near to a path as round each vertex of the path
abbrev pub WindAsAtVertices : ℕ → Bool → List Edge → List Point → Type 0
WindAsAtVertices t is_closed es path =
    All (λ (vertex : Point). All (WindAsAt t es vertex) (sections is_closed path)) path

-- so do balanced edges that are that far from each section of a path
abbrev pub NearPointsWindAsVertices : Type 0
NearPointsWindAsVertices =
    (t : ℕ) (is_closed : Bool) (es : List Edge) (path : List Point)
    → IsBalanced es → AreAllApart t es (sections is_closed path) → WindAsAtVertices t is_closed es path
