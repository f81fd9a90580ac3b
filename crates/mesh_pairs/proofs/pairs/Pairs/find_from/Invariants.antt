use Rattle.std.proofs.Common.{ℕ, ◌≤◌, ◌<◌, length}
use Rattle.mesh_pairs.specs.Pairs.{AreListed, IsSettled}
use Rattle.mesh_pairs.specs.Private.Growth.{Grows}
use Rattle.mesh_pairs.proofs.pairs.Pairs.find_from.Given as goal

abbrev pub invariant-loop-i : goal.invariant-loop-i
invariant-loop-i l = record {
  listed : AreListed l.edges l.self;
  grows : Grows l.initial.self l.self;
  settled : (h j : ℕ) → l.from ≤ h → h < l.i → h < j → j < length l.edges → IsSettled l.edges l.self.meetings.items l.self.close.items h j;
}
