use Rattle.std.specs.Prelude.{◌≡◌, ◌≤◌}
use Rattle.mesh_split.specs.Counting.{CountsAtMost}
use Rattle.mesh_rounds.specs.Private.Rounds.{IsRound}
use Rattle.mesh_rounds.proofs.rounds.split_in_rounds.Given as goal

abbrev pub invariant-loop-turn : goal.invariant-loop-turn
invariant-loop-turn l = record {
  none : l.turn ≤ 12 → l.count ≡ l.fn.count;
  counted : CountsAtMost 1 l.fn.edges l.fn.count l.count;
  round : IsRound l.fn.edges l.rounds;
}
