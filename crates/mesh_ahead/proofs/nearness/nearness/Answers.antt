use Rattle.std.proofs.Common.{ℕ, ◌<◌, sym, subst, ap, ◌∙◌, arith}
use Rattle.mesh_pairs.specs.Laws.{spread}
use Rattle.mesh_check.proofs.AlongPaths.{some_line}
use Rattle.mesh_ahead.proofs.PathDistances.{nearness_more, paths_nearness}
use Rattle.mesh_ahead.proofs.nearness.nearness.Goals as goal

pub distance-requires-clause-some : goal.distance-requires-clause-some
distance-requires-clause-some c =
    subst (λ (n : ℕ). 0 < n) (sym (c.spread_of.ensures.value ∙ ap spread c.line_of-line.ensures)) (some_line c.args.paths.now c.loop-path.path c.requires.paths
    (omega (arith, c.loop-path-test.true, c.len-path-end.ensures, c.requires.paths.filed.count)))

pub loop-path-preserved : goal.loop-path-preserved
loop-path-preserved c = record {
  near =
      nearness_more c.args.paths.now c.loop-path.path c.loop-path.most c.farthest.result c.spread_of.result c.distance.result c.max-most.result c.farthest.ensures.farthest
      (c.spread_of.ensures.value ∙ ap spread c.line_of-line.ensures) (record { enough = c.distance.ensures.enough; least = c.distance.ensures.least }) c.max-most.ensures c.loop-path.invariant.near;
  small = omega (arith, c.max-most.ensures, c.distance.ensures.small, c.loop-path.invariant.small);
}

pub returns-clause-near : goal.returns-clause-near
returns-clause-near c =
    paths_nearness c.args.paths.now c.loop-path.path c.loop-path.most c.requires.paths (omega (arith, c.loop-path-test.false, c.len-path-end.ensures, c.loop-path.auto.path-end)) c.loop-path.invariant.near
