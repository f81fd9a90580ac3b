-- An answer by default options winds once or not at all.
use Rattle.std.proofs.Common.{ap}
use Rattle.mesh_boolean.proofs.ZoneEdges.{answer_once}
use Rattle.mesh_boolean_tests.proofs.regions.region.Goals as goal

pub returns-clause-once : goal.returns-clause-once
returns-clause-once g c =
    let regions = c.in_ok-shapes.ensures.regions.regions in
    answer_once _ _ _ _ regions (ap (λ o. o.least_area) c.new.ensures) (ap (λ o. o.clockwise) c.new.ensures)
