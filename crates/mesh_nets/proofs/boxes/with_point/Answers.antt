use Rattle.std.proofs.Common.{rules}
use Rattle.std.proofs.lemmas.Int.{to_z-of_z}
use mir.Syntax.{w32}
use mir.Val.{SFits}
use Rattle.mesh_clearance.proofs.Boxed.{below_through, lower, upper}
use Rattle.mesh_nets.proofs.boxes.with_point.Goals as goal

pub returns-clause-holds : goal.returns-clause-holds
returns-clause-holds c =
    let p = c.args.p in
    let f : SFits w32 p.0 = search rules in
    let g : SFits w32 p.1 = search rules in
    let x = to_z-of_z w32 p.0 f in
    let y = to_z-of_z w32 p.1 g in
    record {
      west = lower _ c.min.result p.0 _ (to_z-of_z w32 c.min.result (record { sfits = c.min.type_inv })) c.min.ensures.other_bound x;
      east = upper _ c.max.result p.0 _ (to_z-of_z w32 c.max.result (record { sfits = c.max.type_inv })) c.max.ensures.other_bound x;
      south = lower _ c.min-2.result p.1 _ (to_z-of_z w32 c.min-2.result (record { sfits = c.min-2.type_inv })) c.min-2.ensures.other_bound y;
      north = upper _ c.max-2.result p.1 _ (to_z-of_z w32 c.max-2.result (record { sfits = c.max-2.type_inv })) c.max-2.ensures.other_bound y;
    }

pub returns-clause-grows : goal.returns-clause-grows
returns-clause-grows c q h =
    let b = c.args.b in
    let f0 : SFits w32 b.0.0 = search rules in
    let f1 : SFits w32 b.0.1 = search rules in
    let g0 : SFits w32 b.1.0 = search rules in
    let g1 : SFits w32 b.1.1 = search rules in
    record {
      west =
          below_through _ b.0.0 q.0
          (lower _ c.min.result b.0.0 _ (to_z-of_z w32 c.min.result (record { sfits = c.min.type_inv })) c.min.ensures.self_bound (to_z-of_z w32 b.0.0 f0)) h.west;
      east =
          below_through q.0 b.1.0 _ h.east
          (upper _ c.max.result b.1.0 _ (to_z-of_z w32 c.max.result (record { sfits = c.max.type_inv })) c.max.ensures.self_bound (to_z-of_z w32 b.1.0 g0));
      south =
          below_through _ b.0.1 q.1
          (lower _ c.min-2.result b.0.1 _ (to_z-of_z w32 c.min-2.result (record { sfits = c.min-2.type_inv })) c.min-2.ensures.self_bound (to_z-of_z w32 b.0.1 f1)) h.south;
      north =
          below_through q.1 b.1.1 _ h.north
          (upper _ c.max-2.result b.1.1 _ (to_z-of_z w32 c.max-2.result (record { sfits = c.max-2.type_inv })) c.max-2.ensures.self_bound (to_z-of_z w32 b.1.1 g1));
    }
