-- One shape after another.
use Rattle.std.proofs.Common.{◌++◌, sym, ap, ◌∙◌}
use Rattle.std.proofs.lemmas.List.{append-nil}
use Rattle.mesh_num.specs.Segments.{segments_of}
use Rattle.mesh_offset.proofs.Adding.{in_sense-none, shape_more, shapes_all}
use Rattle.mesh_offset.proofs.segments.add_shapes.Goals as goal

pub loop-shape-init : goal.loop-shape-init
loop-shape-init g c = sym (ap (λ es. c.args.segments.now.items ++ segments_of es) (in_sense-none c.args.fill) ∙ append-nil c.args.segments.now.items)

pub loop-shape-preserved : goal.loop-shape-preserved
loop-shape-preserved g c =
    let e = c.deref-shape-items.ensures.value in
    shape_more c.args.fill _ c.shape-item.result _ _ _ _ (rw e at c.loop-shape-test.true) (rw e at c.shape-item.is) c.loop-shape.invariant c.in_ok-add_shape.ensures

pub returns : goal.returns
returns g c =
    let e = c.deref-shape-items.ensures.value in
    shapes_all c.args.fill _ _ _ _ (rw e at c.loop-shape-test.false) c.loop-shape.invariant
