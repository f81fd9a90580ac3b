-- Zones are resolved alone, then in pairs.
use Rattle.std.proofs.lemmas.Result.{IfOk-weaker}
use Rattle.mesh_boolean.specs.Zones.{zones_of}
use Rattle.mesh_operands.proofs.Zones.{zones_each}
use Rattle.mesh_operands.proofs.combine.overlap_list.Goals as goal

pub regions_of-requires : goal.regions_of-requires
regions_of-requires g c = rw c.deref.ensures.value c.requires

pub overlaps-requires : goal.overlaps-requires
overlaps-requires g c = rw c.deref-2.ensures.value (zones_each g.I.IntNumber.unit c.in_ok-regions.regions.items c.in_ok-regions.ensures.safe)

pub returns-clause-combined : goal.returns-clause-combined
returns-clause-combined g c =
    IfOk-weaker c.overlaps.result _ _
    (λ found a. record { regions = zones_of c.in_ok-regions.regions.items; each = rw c.deref.ensures.value at c.in_ok-regions.ensures.regions; overlaps = a })
    (rw c.deref-2.ensures.value at c.overlaps.ensures.overlaps)
