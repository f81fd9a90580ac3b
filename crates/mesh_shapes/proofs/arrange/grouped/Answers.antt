use Rattle.std.proofs.Common.{◌∙◌, sym, arith}
use Rattle.mesh_shapes.specs.Vectors.{shapes_points}
use Rattle.mesh_shapes.proofs.Taking.{shapes_more, members_of, members_within, apart_of}
use Rattle.mesh_shapes.proofs.arrange.grouped.Goals as goal

pub push_shape-requires-clause-within : goal.push_shape-requires-clause-within
push_shape-requires-clause-within c =
    members_within c.args.rings.now c.loop-h.rings c.loop-h.h c.deref-in-loop-h-2.result.now c.loop-h.auto.rings
    (members_of c.args.rings.now c.in_ok-members.members.items c.loop-h.h c.index.result.now c.deref-in-loop-h-2.result.now c.in_ok-members.ensures.members c.loop-h-test.true c.index.ensures c.deref-in-loop-h-2.ensures.value)

pub push_shape-requires-clause-apart : goal.push_shape-requires-clause-apart
push_shape-requires-clause-apart c =
    apart_of c.deref-in-loop-h.result.now c.deref.result.now c.in_ok-members.members.items c.loop-h.h c.index.result.now c.deref-in-loop-h-2.result.now c.in_ok-members.ensures.apart
    (omega (arith, c.in_ok-members.ensures.len, c.loop-h-test.true)) c.index.ensures c.deref-in-loop-h-2.ensures.value (c.deref.ensures.value ∙ sym c.deref-in-loop-h.ensures.value)

pub loop-h-preserved : goal.loop-h-preserved
loop-h-preserved c =
    let rs = c.args.rings.now in
    let places = c.deref-in-loop-h-2.result.now in
    shapes_more rs c.loop-h.rings c.push_shape.new.rings c.in_ok-homes.homes.items c.deref-in-loop-h.result.now c.args.clockwise c.loop-h.h places
    (shapes_points c.loop-h.shapes.items) (shapes_points c.push_shape.new.shapes.items) c.deref-in-loop-h.ensures.value c.loop-h-test.true
    c.loop-h.invariant (c.in_ok-homes.ensures.homes c.loop-h.h c.loop-h-test.true)
    (members_of rs c.in_ok-members.members.items c.loop-h.h c.index.result.now places c.in_ok-members.ensures.members c.loop-h-test.true c.index.ensures c.deref-in-loop-h-2.ensures.value)
    (apart_of c.in_ok-homes.homes.items c.deref.result.now c.in_ok-members.members.items c.loop-h.h c.index.result.now places c.in_ok-members.ensures.apart
    (omega (arith, c.in_ok-members.ensures.len, c.loop-h-test.true)) c.index.ensures c.deref-in-loop-h-2.ensures.value c.deref.ensures.value)
    c.in_ok-push_shape.ensures.added c.in_ok-push_shape.ensures.others
