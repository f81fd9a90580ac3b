use Rattle.mesh_clearance.specs.Boxes.{IsBoxed}
use Rattle.mesh_clearance.proofs.Boxed.{within_range}
use Rattle.mesh_clearance.proofs.runs.run_of.Goals as goal

pub returns : goal.returns
returns c = record { boxed = λ i e low after before. within_range (IsBoxed c.box_around.result) c.args.edges.now c.args.first _ i e low after before c.box_around.ensures }
