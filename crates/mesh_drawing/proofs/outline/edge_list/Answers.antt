-- Sorting keeps the edges.
use Rattle.std.proofs.lemmas.List.Sorted.{IsPermutation-sym, IsPermutation-trans}
use Rattle.mesh_drawing.proofs.PathsServed.{answer_meets}
use Rattle.mesh_drawing.proofs.outline.edge_list.Goals as goal

pub returns : goal.returns
returns g c =
    let told = rw c.deref.ensures.value at c.sorted_edges.ensures.edges in
    answer_meets c.sorted_edges.result _ _ _
    (λ edges kept sorted. record { same = IsPermutation-trans _ _ _ (IsPermutation-sym _ _ c.in_ok-segments.ensures) kept; sorted = sorted })
    told c.sorted_edges.ensures.sorted
