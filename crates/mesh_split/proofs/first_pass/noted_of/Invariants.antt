use Rattle.mesh_store.specs.Steps.{AreAmong}
use Rattle.mesh_split.proofs.first_pass.noted_of.Given as goal

abbrev pub invariant-loop-e : goal.invariant-loop-e
invariant-loop-e l = AreAmong l.noted.items l.fn.edges
