-- The edges of the polygons that are looked at.
use Rattle.std.proofs.Common.{refl, ◌++◌}
use Rattle.std.proofs.lemmas.Result.{IfOk-weaker}
use Rattle.mesh_num.specs.Paths.{shapes_of}
use Rattle.mesh_offset.specs.Adding.{answer_edges, in_sense}
use Rattle.mesh_boolean.specs.declared.rule.Way.TheVariants as way
use Rattle.mesh_boolean.proofs.ZoneEdges.{given_of}
use Rattle.mesh_boolean.proofs.zones.given_segments.Goals as goal

pub returns-in-Subject : goal.returns-in-Subject
returns-in-Subject g c =
    rw c.in-Subject.is
    (IfOk-weaker c.segments_of.result _ _ (λ ss closed. given_of g.I.IntNumber.unit way.Subject (shapes_of c.args.subject.now.items) (shapes_of c.args.clip.now.items) (answer_edges (shapes_of c.args.subject.now.items)) ss.items refl closed) c.segments_of.ensures)

pub returns-in-Clip : goal.returns-in-Clip
returns-in-Clip g c =
    rw c.in-Clip.is
    (IfOk-weaker c.segments_of-in-Clip.result _ _ (λ ss closed. given_of g.I.IntNumber.unit way.Clip (shapes_of c.args.subject.now.items) (shapes_of c.args.clip.now.items) (answer_edges (shapes_of c.args.clip.now.items)) ss.items refl closed) c.segments_of-in-Clip.ensures)

pub returns-in-Together : goal.returns-in-Together
returns-in-Together g c =
    rw c.in-Together.is
    (IfOk-weaker c.segments_of_both.result _ _ (λ ss closed. given_of g.I.IntNumber.unit (way.Together c.in-Together.sense c.in-Together.field-1) (shapes_of c.args.subject.now.items) (shapes_of c.args.clip.now.items) (answer_edges (shapes_of c.args.subject.now.items) ++ in_sense c.in-Together.sense (answer_edges (shapes_of c.args.clip.now.items))) ss.items refl closed) c.segments_of_both.ensures)
