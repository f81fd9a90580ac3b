-- The end is the half turn round it.
use Rattle.std.proofs.Common.{ap, subst, sym}
use Rattle.std.specs.Prelude.{unsigned_abs, pos}
use Rattle.mesh_plane.specs.Plane.{Edge}
use Rattle.mesh_num.specs.Rectangle.{IsSafeWidened}
use Rattle.mesh_offset.proofs.Padding.{between_safe, beside_safe}
use Rattle.mesh_stroke.proofs.Sections.{left_safe}
use Rattle.mesh_inner.proofs.Joints.{end_is, end_short}
use Rattle.mesh_inner.proofs.joint.end_of.Goals as goal

pub heading-outward-requires-clause-safe : goal.heading-outward-requires-clause-safe
heading-outward-requires-clause-safe g c =
    between_safe g.I.IntNumber.unit (unsigned_abs (g.I.IntNumber.value c.args.radius)) c.args.edge.0 c.args.edge.1 c.requires.safe_start c.requires.safe_end

pub moved_right-requires : goal.moved_right-requires
moved_right-requires g c =
    beside_safe g.I.IntNumber.unit (unsigned_abs (g.I.IntNumber.value c.args.radius)) c.edge.inside.end c.scale-step.result
    (subst (λ (e : Edge). IsSafeWidened g.I.IntNumber.unit (pos (unsigned_abs (g.I.IntNumber.value c.args.radius))) e.1) (sym c.edge.view_is) c.requires.safe_end)
    c.scale-step.ensures.x_bound c.scale-step.ensures.y_bound

pub left_of-requires : goal.left_of-requires
left_of-requires g c =
    left_safe g.I.IntNumber.unit (unsigned_abs (g.I.IntNumber.value c.args.radius)) c.edge.inside.end c.scale-step.result
    (subst (λ (e : Edge). IsSafeWidened g.I.IntNumber.unit (pos (unsigned_abs (g.I.IntNumber.value c.args.radius))) e.1) (sym c.edge.view_is) c.requires.safe_end)
    c.scale-step.ensures.x_bound c.scale-step.ensures.y_bound

pub invariant_of-result : goal.invariant_of-result
invariant_of-result g c =
    end_short g.I.IntNumber.unit (g.I.IntNumber.value c.args.radius) c.args.edge c.heading-outward.result c.opposite.result c.requires.differ
    c.heading-outward.ensures c.opposite.ensures.value

pub returns : goal.returns
returns g c =
    end_is g.I.IntNumber.unit (g.I.IntNumber.value c.args.radius) c.args.edge c.edge.inside.end c.moved_right.result c.left_of.result
    c.heading-outward.result c.opposite.result c.scale-step.result (ap (λ (e : Edge). e.1) c.edge.view_is) c.heading-outward.ensures
    c.opposite.ensures.value c.scale-step.ensures.value c.moved_right.ensures c.left_of.ensures
