use Rattle.std.proofs.Common.{◌≡◌, ℕ, ◌/◌, ◌<◌, length, get_or}
use Rattle.mesh_pairs.specs.Pairs.{AreListed, IsSettled}
use Rattle.mesh_pairs.specs.Private.Growth.{Grows}
use Rattle.mesh_pairs.proofs.pairs.Pairs.find_of.Given as goal

abbrev pub invariant-loop-run : goal.invariant-loop-run
invariant-loop-run l = record {
  listed : AreListed l.edges l.self;
  grows : Grows l.initial.self l.self;
  settled : (r j : ℕ) → r < l.run-index → j / 8 ≡ get_or l.runs r 0 → l.i < j → j < length l.edges → IsSettled l.edges l.self.meetings.items l.self.close.items l.i j;
}
