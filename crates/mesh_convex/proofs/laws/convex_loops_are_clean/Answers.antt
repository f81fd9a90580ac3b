use Rattle.mesh_convex.proofs.Clear.{loop_clean}
use Rattle.mesh_convex.proofs.laws.convex_loops_are_clean.Goals as goal

pub returns : goal.returns
returns c es loop proper = loop_clean es loop proper
