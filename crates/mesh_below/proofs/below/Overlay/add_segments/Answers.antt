use Rattle.std.proofs.Common.{arith}
use Rattle.std.proofs.lemmas.Grind.{common_steps}
use Rattle.mesh_below.proofs.below.Overlay.add_segments.Goals as goal

pub returns-clause-room : goal.returns-clause-room
returns-clause-room g c = grind (arith, common_steps)

pub returns-clause-nothing : goal.returns-clause-nothing
returns-clause-nothing g c = grind (arith, common_steps)
