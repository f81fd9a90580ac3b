-- One zone after another.
use Rattle.std.proofs.Common.{[], arith}
use Rattle.mesh_boolean.proofs.ZoneEdges.{zones_all, zones_more}
use Rattle.mesh_boolean.proofs.zones.zone_segments.Goals as goal

pub loop-zone-preserved : goal.loop-zone-preserved
loop-zone-preserved g c =
    zones_more g.I.IntNumber.unit c.args.zones.now c.zone-item.result c.loop-zone.zone-index _ _ c.loop-zone-test.true c.zone-item.is c.requires c.loop-zone.invariant c.in_ok-add_shapes.ensures
