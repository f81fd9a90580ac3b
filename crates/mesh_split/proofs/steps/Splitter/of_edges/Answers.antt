use Rattle.std.proofs.Common.{rules, ◌≡◌, subst, sym, ◌∙◌, length, false, ◌*◌, ◌+◌, ◌<◌, ◌≤◌, ◌^◌, arith}
use Rattle.mesh_plane.specs.Winding.{same_point}
use Rattle.mesh_lattice.specs.Counted.{Counted}
use Rattle.mesh_lattice.proofs.Each.{proper_at}
use Rattle.mesh_store.specs.Steps.{Puts}
use Rattle.mesh_split.proofs.Starting.{none_count, none_clear, none_weight, more_room, more_count, more_clear, more_weight, most_weight, start_reached}
use Rattle.mesh_split.proofs.Waiting.{none_put}
use Rattle.mesh_split.proofs.steps.Splitter.of_edges.Goals as goal

pub loop-e-init : goal.loop-e-init
loop-e-init c =
    let s = c.in_ok-splitter.splitter in
    let e = c.in_ok-splitter.ensures in
    record { log = e.log; count = none_count s.todo s.live e.todo e.live; clear = none_clear s.live e.live; none_lives = e.live; weight = none_weight s.todo s.live e.todo e.live }

pub put-requires-clause-proper : goal.put-requires-clause-proper
put-requires-clause-proper c =
    subst (λ (k : Counted). same_point k.0.0 k.0.1 ≡ false) (sym c.single.ensures.value) (proper_at c.args.edges.now c.loop-e.e-index _ c.loop-e-test.true c.requires)

pub put-requires-clause-room : goal.put-requires-clause-room
put-requires-clause-room c =
    let n : length c.args.edges.now < 2 ^ 64 = search rules in
    let m : 2 ^ 33 * c.loop-e.e-index + 2 ^ 33 ≤ 2 ^ 120 = omega (arith, c.loop-e-test.true) in
    more_room c.loop-e.e-index _ _ m c.single.ensures.light c.loop-e.invariant.weight

pub loop-e-preserved : goal.loop-e-preserved
loop-e-preserved c =
    let s = c.loop-e.splitter in
    let t = c.put.new.self in
    let puts = subst (Puts s.todo s.live t.todo t.live) c.single.ensures.value c.in_ok-put.ensures.puts in
    record {
      log = c.put.ensures.log ∙ c.loop-e.invariant.log;
      count = more_count c.args.edges.now c.loop-e.e-index _ s.todo s.live t.todo t.live c.loop-e-test.true puts c.loop-e.invariant.count;
      clear = more_clear s.todo s.live t.todo t.live _ c.in_ok-put.ensures.puts c.loop-e.invariant.clear;
      none_lives = none_put s.todo s.live t.todo t.live _ c.loop-e.invariant.none_lives c.in_ok-put.ensures.puts;
      weight = more_weight c.loop-e.e-index _ _ _ c.in_ok-put.ensures.puts.weight_grows c.single.ensures.light c.loop-e.invariant.weight;
    }

pub returns-clause-pile : goal.returns-clause-pile
returns-clause-pile c =
    let n : length c.args.edges.now < 2 ^ 64 = search rules in
    let m : 2 ^ 33 * c.loop-e.e-index ≤ 2 ^ 97 = omega (arith, c.loop-e.auto.e-index-end) in
    let s = c.loop-e.splitter in
    record {
      reached = start_reached c.args.edges.now s.log c.loop-e.invariant.log c.loop-e.e-index s.todo s.live c.loop-e-test.false c.loop-e.invariant.count;
      light = most_weight c.loop-e.e-index _ m c.loop-e.invariant.weight;
    }
