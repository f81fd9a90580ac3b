use Rattle.std.proofs.Common.{◌≡◌, ℕ, ◌+◌, ◌*◌, ◌/◌, ◌%◌, ◌<◌, ◌⊎◌, ◌^◌, length}
use Rattle.mesh_pairs.specs.Boxes.{IsIn}
use Rattle.mesh_pairs.specs.Pairs.{AreListed, IsSettled}
use Rattle.mesh_pairs.specs.Private.Growth.{Grows}
use Rattle.mesh_pairs.proofs.pairs.Pairs.find_in.Given as goal

abbrev pub invariant-loop-places : goal.invariant-loop-places
invariant-loop-places l = record {
  few : l.places < 2 ^ 8;
  later : (k : ℕ) → k < 8 → IsIn l.places k → (l.i < 8 * l.run + k) × (8 * l.run + k < length l.edges);
  listed : AreListed l.edges l.self;
  grows : Grows l.initial.self l.self;
  left : (j : ℕ) → j / 8 ≡ l.run → l.i < j → j < length l.edges → IsIn l.places (j % 8) ⊎ IsSettled l.edges l.self.meetings.items l.self.close.items l.i j;
}

abbrev pub decreases-loop-places : goal.decreases-loop-places
decreases-loop-places l = l.places
