-- The shapes before the wanted path, one by one.
use Rattle.std.proofs.Common.{◌≡◌, ◌≤◌, ◌<◌, length, ◌∙◌}
use Rattle.mesh_num.proofs.Paths.{path_found, none_left, skipped_more}
use Rattle.mesh_num.proofs.shape.resource.VecVecVecIntPointIntShapeResource.path_at.Goals as goal

pub loop-shape-preserved : goal.loop-shape-preserved
loop-shape-preserved g c =
    let e = c.deref-shape-items.ensures.value in
    let n : c.len.result ≡ length c.shape-item.result.items = c.len.ensures ∙ c.shape-item.result.ok.0 in
    let m : c.len-left.result ≡ length c.shape-item.result.items = c.len-left.ensures ∙ c.shape-item.result.ok.0 in
    let enough : length c.shape-item.result.items ≤ c.loop-shape.left = rw (← n) c.if-left-len.false in
    rw m (skipped_more _ c.shape-item.result _ _ _ (rw e at c.loop-shape-test.true) (rw e at c.shape-item.is) c.loop-shape.invariant enough)

pub returns-then-left-len : goal.returns-then-left-len
returns-then-left-len g c =
    let e = c.deref-shape-items.ensures.value in
    let n : c.len.result ≡ length c.shape-item.result.items = c.len.ensures ∙ c.shape-item.result.ok.0 in
    let within : c.loop-shape.left < length c.shape-item.result.items = rw (← n) c.if-left-len.true in
    c.as_slice.ensures.value
    ∙ path_found _ c.shape-item.result c.index.result.now _ _ _ (rw e at c.loop-shape-test.true) (rw e at c.shape-item.is) within
    c.index.ensures c.loop-shape.invariant c.requires

pub returns : goal.returns
returns g c =
    let e = c.deref-shape-items.ensures.value in
    absurd (none_left _ _ _ _ (rw e at c.loop-shape-test.false) c.loop-shape.invariant c.requires)
