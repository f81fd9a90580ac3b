use Rattle.std.proofs.Common.{take}
use Rattle.mesh_below.specs.Options.{choices_of}
use Rattle.mesh_boolean.specs.Overlaps.{AreCommonRegions, overlaps_of}
use Rattle.mesh_boolean.specs.Private.PairsSoFar.{AreOverlapsOf}
use Rattle.mesh_boolean.proofs.Meeting.{zones_in}
use Rattle.mesh_boolean.proofs.overlaps.overlaps.Given as goal

-- the pairs so far
abbrev pub invariant-loop-pair : goal.invariant-loop-pair
invariant-loop-pair g l =
    AreOverlapsOf g.I.IntNumber.unit (AreCommonRegions (zones_in l.zones) (choices_of g.I.WideUInt.WideUnsigned.value l.options))
    (take l.pair-index l.pair-items) (overlaps_of l.found.items)
