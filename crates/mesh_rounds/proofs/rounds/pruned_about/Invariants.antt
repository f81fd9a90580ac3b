use Rattle.mesh_rounds.specs.Private.Groups.{edges_in, IsBounded, KeepsWaiting}
use Rattle.mesh_rounds.proofs.rounds.pruned_about.Given as goal

abbrev pub invariant-loop-piece : goal.invariant-loop-piece
invariant-loop-piece l = record {
  bounded : IsBounded l.left;
  kept : KeepsWaiting l.todo (edges_in l.fn.group) (edges_in l.left);
}
