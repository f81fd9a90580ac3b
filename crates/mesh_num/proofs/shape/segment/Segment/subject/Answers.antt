-- The order of the points gives the form.
use Rattle.std.proofs.Common.{◌∙◌, sym}
use Rattle.mesh_plane.proofs.Comparing.{points_apart}
use Rattle.mesh_num.proofs.Subjects.{forward_is, back_is, subject_ordered}
use Rattle.mesh_num.proofs.shape.segment.Segment.subject.Goals as goal

pub returns-then-is_before-clause-value : goal.returns-then-is_before-clause-value
returns-then-is_before-clause-value g c = forward_is c.args.p0 c.args.p1 (sym c.is_before.ensures ∙ c.if-is_before.true)

pub returns-then-is_before-clause-form : goal.returns-then-is_before-clause-form
returns-then-is_before-clause-form g c =
    rw (forward_is c.args.p0 c.args.p1 (sym c.is_before.ensures ∙ c.if-is_before.true)) (subject_ordered c.args.p0 c.args.p1 (points_apart c.args.p0 c.args.p1 c.requires))

pub returns-else-is_before-clause-value : goal.returns-else-is_before-clause-value
returns-else-is_before-clause-value g c = back_is c.args.p0 c.args.p1 (sym c.is_before.ensures ∙ c.if-is_before.false)

pub returns-else-is_before-clause-form : goal.returns-else-is_before-clause-form
returns-else-is_before-clause-form g c =
    rw (back_is c.args.p0 c.args.p1 (sym c.is_before.ensures ∙ c.if-is_before.false)) (subject_ordered c.args.p0 c.args.p1 (points_apart c.args.p0 c.args.p1 c.requires))
