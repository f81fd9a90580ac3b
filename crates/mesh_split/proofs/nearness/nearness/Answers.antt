use Rattle.std.proofs.Common.{arith, subst, sym, List, []}
use Rattle.mesh_plane.specs.Plane.{Edge}
use Rattle.mesh_store.specs.Witnesses.{witness_in, AreWitnessed}
use Rattle.mesh_split.proofs.Tracking.{none_witnessed, more_noted, log_nearness}
use Rattle.mesh_split.proofs.nearness.nearness.Goals as goal

pub loop-ends-init : goal.loop-ends-init
loop-ends-init c = (
  λ given splits. subst (λ (m : List (Edge × Edge)). AreWitnessed given [] (witness_in m) 0) (sym c.new-witnesses.ensures) (none_witnessed given),
  omega arith,
)

pub loop-ends-preserved : goal.loop-ends-preserved
loop-ends-preserved c = (
  more_noted c.splits-ends-items.result.now c.loop-ends.ends-index _ c.loop-ends-test.true c.loop-ends.witnesses c.note.new.self c.note-in-loop-ends.new.self
      c.of-witness.result c.loop-ends.most c.distance.result c.max-most.result
      (record {
        witness = c.of-witness.ensures;
        near = c.distance.ensures.near;
        least = c.distance.ensures.least;
        first = c.in_ok-note.ensures;
        second = c.in_ok-note-2.ensures;
        greatest = c.max-most.ensures;
      })
      c.loop-ends.invariant.0,
  let before = c.loop-ends.invariant.1 in let own = c.distance.ensures.small in let most = c.max-most.ensures in omega (arith, before, own, most),
)

pub returns-clause-near : goal.returns-clause-near
returns-clause-near c =
    log_nearness c.args.log.now c.splits-ends-items.result.now c.loop-ends.ends-index c.splits-ends-items.ensures c.loop-ends-test.false c.loop-ends.witnesses c.loop-ends.most
    c.loop-ends.invariant.0
