use Rattle.std.proofs.Common.{List, arith, subst, take_all}
use Rattle.std.specs.List.{All}
use Rattle.std.proofs.lemmas.List.Elements.{All-more}
use Rattle.mesh_points.specs.declared.edges.NumberedEdge.{NumberedEdge}
use Rattle.mesh_attempt.specs.Attempts.{IsSmall}
use Rattle.mesh_attempt.proofs.small.are_small.Goals as goal

pub loop-e-preserved : goal.loop-e-preserved
loop-e-preserved c =
    All-more IsSmall c.args.edges.now c.loop-e.e-index _ (omega (arith, c.loop-e-test.true)) c.loop-e.invariant
    (c.has_small_ends.ensures.0 c.if-not-has_small_ends.false)

pub returns : goal.returns
returns c = λ _.
    subst (λ (es : List NumberedEdge). All IsSmall es) (take_all c.loop-e.e-index c.args.edges.now (omega (arith, c.loop-e-test.false))) c.loop-e.invariant
