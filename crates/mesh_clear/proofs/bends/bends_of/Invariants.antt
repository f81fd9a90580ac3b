use Rattle.mesh_clear.proofs.BentPaths.{AreBent}
use Rattle.mesh_clear.proofs.bends.bends_of.Given as goal

abbrev pub invariant-loop-path : goal.invariant-loop-path
invariant-loop-path l = AreBent l.paths l.bends.items l.path
