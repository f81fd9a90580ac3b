-- The edges of rings, each with its ring's place, and a search along the row of a point for the ring that holds it.
use Rattle.std.specs.Prelude.{ℕ, ◌≡◌, ◌+◌, ◌<◌, ◌≤◌, cond, not, List, [], ◌∷◌, map, length, nat_eq, ℤ, pos, ◌+ℤ◌}
use Rattle.std.specs.Prelude.{Option}
use Rattle.std.specs.List.{flat_map}
use Rattle.std.specs.Ordering.{int_eq}
use Rattle.mesh_plane.specs.Plane.{Point, Edge}
use Rattle.mesh_plane.specs.Winding.{boundary, crossing_on, sum_of}
use Rattle.mesh_shapes.specs.declared.holders.Search.{Search}
use Rattle.mesh_shapes.specs.Homes.{placed, encloses_at}
use Rattle.mesh_shapes.specs.Private.Grouping.{areas_of}
use Rattle.mesh_shapes.specs.Private.Progress.{IsFound}
use Rattle.mesh_shapes.specs.Resolution.{Ring, Placed, is_positive}

-- an edge of a ring, and the ring's place
abbrev pub PlacedEdge : Type 0
PlacedEdge = Edge × ℕ

-- edges with a place beside each
abbrev pub with_place : ℕ → List Edge → List PlacedEdge
with_place h es = map (λ (e : Edge). (e, h)) es

-- the edges of a ring, where its area is positive
abbrev pub ring_edges : Placed → List PlacedEdge
ring_edges h = cond (is_positive h) (with_place h.0 (boundary h.1.0)) []

-- the edges of all rings of positive area, ring after ring
abbrev pub placed_edges : List Ring → List PlacedEdge
placed_edges rs = flat_map ring_edges (placed rs)

-- the places beside edges rise from `low`, and stay below `end`
abbrev pub Rise : ℕ → ℕ → List PlacedEdge → Type 0
Rise low end [] = Unit {0}
Rise low end (e ∷ es) = (low ≤ e.1) × ((e.1 < end) × Rise e.1 end es)

-- how often the edges of the ring at `h` wind round a point
abbrev pub winding_of : Point → ℕ → List PlacedEdge → ℤ
winding_of q h es = sum_of (λ (e : PlacedEdge). cond (nat_eq e.1 h) (crossing_on 2 q e.0.0 e.0.1) (pos 0)) es

-- the row of a point tells which rings are round it
abbrev pub IsRowOf : List Ring → Point → List PlacedEdge → Type 0
IsRowOf rs q row = (k : ℕ) → k < length rs → encloses_at rs k q ≡ not (int_eq (winding_of q k row) (pos 0))

-- where a search along a row has still to go through `rest`, it knows the holder among the rings before the one whose
-- edges it meets, and how often the edges of that one wind round the point so far
pub record IsSearch (rs : List Ring) (q : Point) (row rest : List PlacedEdge) (s : Search) : Type 0 where
  pub found : IsFound rs s.place q s.best
  pub own : s.winding +ℤ winding_of q s.place rest ≡ winding_of q s.place row
  pub later : (k : ℕ) → s.place < k → winding_of q k rest ≡ winding_of q k row

-- where `best` is the holder among the rings before `h`, and the one at `h` winds round the point so often, `found` is
-- the holder among all of these
abbrev pub IsBetterHolder : List ℤ → Option ℕ → ℕ → ℤ → Option ℕ → Type 0
IsBetterHolder areas best h winding found =
    (rs : List Ring) (q : Point) → areas ≡ areas_of rs → encloses_at rs h q ≡ not (int_eq winding (pos 0))
    → IsFound rs h q best → IsFound rs (h + 1) q found

-- a search that had still to go through an edge and the rest of a row has gone past the edge
abbrev pub GoesPast : List ℤ → Point → PlacedEdge → Search → Search → Type 0
GoesPast areas q e before after =
    (rs : List Ring) (row rest : List PlacedEdge) → areas ≡ areas_of rs → IsRowOf rs q row
    → Rise before.place (length areas) (e ∷ rest) → IsSearch rs q row (e ∷ rest) before → IsSearch rs q row rest after
