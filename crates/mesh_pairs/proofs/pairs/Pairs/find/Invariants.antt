use Rattle.std.proofs.Common.{ℕ, ◌/◌, ◌<◌, length}
use Rattle.mesh_pairs.specs.Pairs.{AreListed, IsSettled}
use Rattle.mesh_pairs.proofs.pairs.Pairs.find.Given as goal

abbrev pub invariant-loop-run : goal.invariant-loop-run
invariant-loop-run l = record {
  listed : AreListed l.edges l.pairs;
  settled : (i j : ℕ) → i / 8 < l.run → i < j → j < length l.edges → IsSettled l.edges l.pairs.meetings.items l.pairs.close.items i j;
}
