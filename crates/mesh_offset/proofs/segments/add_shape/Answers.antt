-- One contour after another.
use Rattle.std.proofs.Common.{◌++◌, sym, ap, ◌∙◌}
use Rattle.std.proofs.lemmas.List.{append-nil}
use Rattle.mesh_num.specs.Segments.{segments_of}
use Rattle.mesh_plane.specs.Winding.{boundary}
use Rattle.mesh_offset.specs.Adding.{in_sense}
use Rattle.mesh_offset.proofs.Adding.{in_sense-none, contour_more, contours_all}
use Rattle.mesh_offset.proofs.segments.add_shape.Goals as goal

pub loop-contour-init : goal.loop-contour-init
loop-contour-init g c = sym (ap (λ es. c.args.segments.now.items ++ segments_of es) (in_sense-none c.args.fill) ∙ append-nil c.args.segments.now.items)

pub loop-contour-preserved : goal.loop-contour-preserved
loop-contour-preserved g c =
    let e = c.deref-contour-items.ensures.value in
    contour_more c.args.fill _ c.contour-item.result _ _ _ _ (rw e at c.loop-contour-test.true) (rw e at c.contour-item.is) c.loop-contour.invariant
    (c.in_ok-add_closed.ensures ∙ ap (λ ps. c.loop-contour.segments.items ++ segments_of (in_sense c.args.fill (boundary ps))) c.as_slice.ensures.value)

pub returns : goal.returns
returns g c =
    let e = c.deref-contour-items.ensures.value in
    contours_all c.args.fill _ _ _ _ (rw e at c.loop-contour-test.false) c.loop-contour.invariant
