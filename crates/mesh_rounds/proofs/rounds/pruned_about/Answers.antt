use Rattle.mesh_rounds.proofs.rounds.pruned_about.Goals as goal

pub loop-piece-preserved : goal.loop-piece-preserved
loop-piece-preserved c = record {
  bounded = c.in_ok-prune-2.ensures.bounded;
  kept = λ x l w. c.in_ok-prune-2.ensures.kept x (c.in_ok-prune.ensures.kept x (c.loop-piece.invariant.kept x l w) w) w;
}
