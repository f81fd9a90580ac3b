-- Which points the answer's windings are promised at: those in the box of no bent edge.
use Rattle.std.specs.Prelude.{ℕ, ◌≡◌, Bool, true, not, List, pos}
use Rattle.std.specs.Ordering.{int_eq}
use Rattle.std.specs.List.{list_any}
use Rattle.mesh_plane.specs.Plane.{Point, Edge, turn}
use Rattle.mesh_lattice.specs.Clean.{refined_edge}
use Rattle.mesh_lattice.specs.Split.{occurs, IsInBox, EdgeSplit, path}

-- an edge is bent where a point of the path that it has become does not lie on it
abbrev pub is_bent : List EdgeSplit → Edge → Bool
is_bent ks e = list_any (λ (f : Edge). not (int_eq (turn e.0 e.1 f.1) (pos 0))) (path ks e)

-- the point `q` of the grid `m` is in the box of no given edge that is bent
abbrev pub OutsideBent : List EdgeSplit → List Edge → ℕ → Point → Type 0
OutsideBent ks es m q = (e : Edge) → occurs e es ≡ true → is_bent ks e ≡ true → IsInBox (refined_edge m e) q → ⊥
