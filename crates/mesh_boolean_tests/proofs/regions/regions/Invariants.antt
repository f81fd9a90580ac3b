use Rattle.std.specs.List.{All}
use Rattle.mesh_num.specs.Paths.{shapes_of}
use Rattle.mesh_lattice.specs.Reach.{ArePointsSafe}
use Rattle.mesh_boolean.specs.Zones.{WindOnce, zones_of}
use Rattle.mesh_boolean_tests.proofs.regions.regions.Given as goal

-- the zones so far
abbrev pub invariant-loop-source : goal.invariant-loop-source
invariant-loop-source g l = record {
  safe : All (λ zone. ArePointsSafe g.I.IntNumber.unit (shapes_of zone.items)) l.zones.items;
  all_safe : All (ArePointsSafe g.I.IntNumber.unit) (zones_of l.zones.items);
  once : All WindOnce (zones_of l.zones.items);
}
