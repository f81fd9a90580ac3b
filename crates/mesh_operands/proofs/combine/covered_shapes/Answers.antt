-- Zones are resolved alone, by default options, so they may be counted.
use Rattle.std.proofs.lemmas.Result.{IfOk-weaker}
use Rattle.mesh_boolean.specs.Zones.{zones_of}
use Rattle.mesh_operands.proofs.Zones.{regions_once}
use Rattle.mesh_operands.proofs.combine.covered_shapes.Goals as goal

pub regions_of-requires : goal.regions_of-requires
regions_of-requires g c = rw c.deref.ensures.value c.requires

pub coverage-requires-clause-once : goal.coverage-requires-clause-once
coverage-requires-clause-once g c = rw c.deref-2.ensures.value (regions_once g.I.IntNumber.unit c.args.asked.now.fill _ _ c.in_ok-regions.ensures.regions)

pub returns-clause-combined : goal.returns-clause-combined
returns-clause-combined g c =
    IfOk-weaker c.coverage.result _ _
    (λ shapes a. record { regions = zones_of c.in_ok-regions.regions.items; each = rw c.deref.ensures.value at c.in_ok-regions.ensures.regions; covered = a })
    (rw c.deref-2.ensures.value at c.coverage.ensures.regions)
