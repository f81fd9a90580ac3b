-- One more edge, and all of them.
use Rattle.std.proofs.Common.{◌≡◌, ◌+◌, ◌∷◌, ◌∙◌, take, sym, ap, arith, take_all, List, Bool, true, false, rules}
use Rattle.mesh_plane.specs.Plane.{Point}
use Rattle.mesh_stroke.specs.Paths.{path_edges}
use Rattle.mesh_inner.proofs.Limits.{grown}
use Rattle.mesh_inner.proofs.Walks.{edges_grown, edges_closed, edges_open, last_grown}
use Rattle.mesh_inner.proofs.section.path_edges.Goals as goal

pub loop-to-preserved : goal.loop-to-preserved
loop-to-preserved g c =
    let first = c.in-Some.first.now in
    let before = take c.loop-to.to-index c.in-Some.others.now in
    let after = take (c.loop-to.to-index + 1) c.in-Some.others.now in
    let more = grown c.in-Some.others.now c.loop-to.to-index c.to-item.result (omega (arith, c.loop-to-test.true)) c.to-item.is in
    record {
      edges = edges_grown first c.loop-to.from before after c.to-item.result c.loop-to.edges.items c.push_edge.new.edges.items more
          c.loop-to.invariant.from c.loop-to.invariant.edges c.in_ok-push_edge.ensures;
      from = sym (last_grown first before after c.to-item.result more);
    }

pub returns-then-not-closed : goal.returns-then-not-closed
returns-then-not-closed g c =
    let whole : c.args.path.now ≡ c.in-Some.first.now ∷ c.in-Some.others.now = search rules in
    let is_open : c.args.closed ≡ false = search rules in
    edges_open c.in-Some.first.now (take c.loop-to.to-index c.in-Some.others.now) c.loop-to.edges.items c.loop-to.invariant.edges
    ∙ ap (λ (ps : List Point). path_edges false (c.in-Some.first.now ∷ ps)) (take_all c.loop-to.to-index c.in-Some.others.now (omega (arith, c.loop-to-test.false)))
    ∙ ap (path_edges false) (sym whole) ∙ ap (λ (b : Bool). path_edges b c.args.path.now) (sym is_open)

pub returns : goal.returns
returns g c =
    let whole : c.args.path.now ≡ c.in-Some.first.now ∷ c.in-Some.others.now = search rules in
    let is_closed : c.args.closed ≡ true = search rules in
    edges_closed c.in-Some.first.now c.loop-to.from (take c.loop-to.to-index c.in-Some.others.now) c.loop-to.edges.items c.push_edge-2.new.edges.items
    c.loop-to.invariant.from c.loop-to.invariant.edges c.in_ok-push_edge-2.ensures
    ∙ ap (λ (ps : List Point). path_edges true (c.in-Some.first.now ∷ ps)) (take_all c.loop-to.to-index c.in-Some.others.now (omega (arith, c.loop-to-test.false)))
    ∙ ap (path_edges true) (sym whole) ∙ ap (λ (b : Bool). path_edges b c.args.path.now) (sym is_closed)
