-- The segment is added where the points differ.
use Rattle.std.proofs.Common.{◌∙◌, sym}
use Rattle.std.proofs.lemmas.Bool.Decides.{not_from_Decides}
use Rattle.mesh_plane.proofs.Comparing.{decides_point}
use Rattle.mesh_num.proofs.Subjects.{added_is}
use Rattle.mesh_num.proofs.shape.segment.VecSegmentSubjectSegmentsIntPoint.push_non_degenerate.Goals as goal

pub subject-requires : goal.subject-requires
subject-requires g c = not_from_Decides _ (decides_point c.args.a c.args.b) (sym c.is_one_point.ensures ∙ c.if-is_one_point.false)

pub returns-clause-ok : goal.returns-clause-ok
returns-clause-ok g c =
    added_is _ _ _ c.args.a c.args.b (sym c.is_one_point.ensures ∙ c.if-is_one_point.false) c.subject.ensures.value c.in_ok-push.ensures.items
