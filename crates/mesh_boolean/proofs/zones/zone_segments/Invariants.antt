use Rattle.std.proofs.Common.{take}
use Rattle.mesh_boolean.specs.Private.Given.{AreZonesGiven}
use Rattle.mesh_boolean.specs.Zones.{zones_of}
use Rattle.mesh_boolean.proofs.zones.zone_segments.Given as goal

-- the zones so far
abbrev pub invariant-loop-zone : goal.invariant-loop-zone
invariant-loop-zone g l = AreZonesGiven g.I.IntNumber.unit (zones_of (take l.zone-index l.zones)) l.segments.items
