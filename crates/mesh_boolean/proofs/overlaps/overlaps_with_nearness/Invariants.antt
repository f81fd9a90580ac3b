use Rattle.std.proofs.Common.{◌≤◌, ◌^◌, take}
use Rattle.std.specs.List.{All}
use Rattle.mesh_lattice.specs.Reach.{ArePointsSafe}
use Rattle.mesh_split.specs.Counting.{IsWithinLimit}
use Rattle.mesh_below.specs.Options.{choices_of}
use Rattle.mesh_offset.specs.Counting.{CountsAttempts}
use Rattle.mesh_boolean.specs.Overlaps.{IsPairDrawing, Overlap, overlaps_of}
use Rattle.mesh_boolean.specs.Private.PairsSoFar.{AreToldSoFar}
use Rattle.mesh_boolean.proofs.Meeting.{zones_in}
use Rattle.mesh_boolean.proofs.overlaps.overlaps_with_nearness.Given as goal

-- the pairs so far, and the splits of all attempts
abbrev pub invariant-loop-pair : goal.invariant-loop-pair
invariant-loop-pair g l = record {
  so_far :
      AreToldSoFar l.nearness (zones_in l.zones) (choices_of g.I.WideUInt.WideUnsigned.value l.options)
      (take l.pair-index l.pair-items) (overlaps_of l.overlaps.items) l.fn.count l.count;
  safe : All (λ (o : Overlap). ArePointsSafe g.I.IntNumber.unit o.1.1) (overlaps_of l.overlaps.items);
  small : l.nearness ≤ 2 ^ 38;
  counts : CountsAttempts l.pair-index (IsPairDrawing (zones_in l.zones)) l.fn.count l.count;
  limit : IsWithinLimit l.count;
}
