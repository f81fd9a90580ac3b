-- The contours of all shapes, shape by shape.
use Rattle.std.proofs.Common.{◌≡◌, ◌+◌, ◌-◌, ◌^◌, min, length, ap, ◌∙◌}
use Rattle.mesh_num.proofs.Paths.{counted_more, counted_all}
use Rattle.mesh_num.proofs.shape.resource.VecVecVecIntPointIntShapeResource.path_count.Goals as goal

pub loop-shape-preserved : goal.loop-shape-preserved
loop-shape-preserved g c =
    let e = c.deref-shape-items.ensures.value in
    let n : c.len.result ≡ length c.shape-item.result.items = c.len.ensures ∙ c.shape-item.result.ok.0 in
    c.saturating_add-count.ensures
    ∙ ap (λ k. min (c.loop-shape.count + k) (2 ^ 64 - 1)) n
    ∙ counted_more _ c.shape-item.result _ _ (rw e at c.loop-shape-test.true) (rw e at c.shape-item.is) c.loop-shape.invariant

pub returns : goal.returns
returns g c =
    let e = c.deref-shape-items.ensures.value in
    c.loop-shape.invariant ∙ counted_all _ _ (rw e at c.loop-shape-test.false)
