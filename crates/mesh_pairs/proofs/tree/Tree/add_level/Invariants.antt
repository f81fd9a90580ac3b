use Rattle.mesh_pairs.proofs.Levels.{IsRaised}
use Rattle.mesh_pairs.proofs.tree.Tree.add_level.Given as goal

abbrev pub invariant-loop-place : goal.invariant-loop-place
invariant-loop-place l = IsRaised l.initial.self l.self l.start l.end l.place
