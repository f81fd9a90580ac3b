use Rattle.mesh_clearance.proofs.Symmetries.{apart_less}
use Rattle.mesh_clearance.proofs.runs.are_far.Goals as goal

pub returns : goal.returns
returns c = λ _ e f first second. apart_less c.args.least c.box_distance.result e f c.if-box_distance-least.false (c.box_distance.ensures e f first second)
