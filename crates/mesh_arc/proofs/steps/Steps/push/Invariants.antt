use Rattle.std.proofs.Common.{vec_capacity}
use Rattle.mesh_arc.specs.Private.Steps.{HasTurned}
use Rattle.mesh_arc.proofs.steps.Steps.push.Given as goal

abbrev pub invariant-loop : goal.invariant-loop
invariant-loop g l = HasTurned l.self (l.fn.from, l.to) (vec_capacity l.fn.directions) l.counter l.current l.directions.items (vec_capacity l.directions)
