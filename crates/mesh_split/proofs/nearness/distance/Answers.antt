use Rattle.std.proofs.Common.{◌≡◌, rules, arith}
use Rattle.std.specs.Prelude.{unsigned_abs}
use mir.Syntax.{w32}
use mir.Val.{SFits}
use Rattle.mesh_plane.specs.Plane.{turn}
use Rattle.mesh_split.proofs.Distances.{IsDistance, turn_small, distance_small, distance_near, distance_least}
use Rattle.mesh_split.proofs.nearness.distance.Goals as goal
use Rattle.mesh_split.proofs.nearness.distance.Goals.{After-div_ceil}

told : (c : After-div_ceil) → IsDistance c.args.e c.args.c c.div_ceil.result
told c =
    let e = c.args.e in
    let p = c.args.c in
    let x : SFits w32 e.0.0 = search rules in
    let y : SFits w32 e.0.1 = search rules in
    let v : SFits w32 p.0 = search rules in
    let w : SFits w32 p.1 = search rules in
    let beside : c.unsigned_abs-beside.result ≡ unsigned_abs (turn e.0 e.1 p) = search rules in
    record {
      small = turn_small e p x y v w;
      value = cc;
    }

pub overflow_cast-result : goal.overflow_cast-result
overflow_cast-result c = let small = distance_small c.args.e c.args.c c.div_ceil.result (told c) in omega (arith, small)

pub returns-clause-near : goal.returns-clause-near
returns-clause-near c = distance_near c.args.e c.args.c c.div_ceil.result (told c)

pub returns-clause-least : goal.returns-clause-least
returns-clause-least c = distance_least c.args.e c.args.c c.div_ceil.result (told c)

pub returns-clause-small : goal.returns-clause-small
returns-clause-small c = distance_small c.args.e c.args.c c.div_ceil.result (told c)
