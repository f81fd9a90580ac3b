-- Lemmas over lists: counted segments of pieces, and the sum of their sizes.
use Rattle.std.proofs.Common.{◌≡◌, ℕ, ◌+◌, ◌*◌, ◌<◌, ◌≤◌, ◌^◌, List, [], ◌∷◌, ◌++◌, length, map, take, get_or, sym, ◌∙◌, ap, arith}
use Rattle.std.specs.Prelude.{pos, ◌≤ℤ◌, unsigned_abs}
use Rattle.std.proofs.lemmas.Int.{ints}
use Rattle.std.proofs.lemmas.List.{map_more}
use Rattle.mesh_plane.specs.Winding.{sum_of}
use Rattle.mesh_plane.proofs.Sums.{sum_of_append}
use Rattle.mesh_lattice.specs.Counted.{size, Counted}
use Rattle.mesh_points.specs.declared.edges.NumberedEdge.{NumberedEdge}
use Rattle.mesh_points.specs.Edges.{counted, no_edge}

-- one more
pub sizes_more : (old new : List Counted) (x : Counted) (i : ℕ) → new ≡ old ++ x ∷ [] → unsigned_abs x.1 ≤ 2 ^ 31 → sum_of size old ≤ℤ pos (i * 2 ^ 31) → sum_of size new ≤ℤ pos ((i + 1) * 2 ^ 31)
sizes_more old new x i same few before = omega (arith, ints, ap (sum_of size) same, sum_of_append size old (x ∷ []), few, before)

pub segments_more : (pieces : List NumberedEdge) (old new : List Counted) (x : Counted) (i : ℕ) → i < length pieces → new ≡ old ++ x ∷ [] → x ≡ counted (get_or pieces i no_edge)
    → old ≡ map counted (take i pieces) → new ≡ map counted (take (i + 1) pieces)
segments_more pieces old new x i low added is before =
    added ∙ ((λ j. before j ++ is j ∷ []) ∙ sym (map_more counted pieces i no_edge low))
