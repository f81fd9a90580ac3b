-- Scaled directions keep turns.
use Rattle.std.proofs.Common.{◌≡◌, ◌≤◌, ◌^◌, arith, rules}
use Rattle.mesh_num.specs.Direction.{scaled_direction}
use Rattle.mesh_num.proofs.Scaling.{direction_keeps_scaled_turns}
use Rattle.mesh_num.proofs.num.unit_vector.UnitIntVector.scale.Goals as goal

pub returns-clause-turns : goal.returns-clause-turns
returns-clause-turns g c =
    let least : 2 ^ 14 ≤ g.I.IntNumber.unit = g.met.I.IntNumber.least_law in
    let e : c.new.result ≡ scaled_direction g.I.IntNumber.unit (g.I.IntNumber.value c.args.radius) c.args.self = search rules in
    rw e (direction_keeps_scaled_turns g.I.IntNumber.unit (g.I.IntNumber.value c.args.radius) c.args.self (omega arith))
