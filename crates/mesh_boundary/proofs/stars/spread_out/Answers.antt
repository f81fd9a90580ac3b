use Rattle.std.proofs.Common.{◌++◌, ◌∷◌, [], false, take_all, sym, ◌∙◌, ap, arith}
use Rattle.std.proofs.lemmas.List.{map_more}
use Rattle.mesh_boundary.specs.Private.Stars.{fan_of, leaving}
use Rattle.mesh_boundary.proofs.stars.spread_out.Goals as goal

pub leaving-requires : goal.leaving-requires
leaving-requires c = c.requires c.loop-x.x-index (0, false) c.loop-x-test.true

pub loop-x-preserved : goal.loop-x-preserved
loop-x-preserved c =
    c.in_ok-push.ensures.items
    ∙ ((λ i. c.loop-x.invariant i ++ c.in-Some.ensures i ∷ [])
    ∙ sym (map_more (leaving c.args.segments.now) c.args.star.now c.loop-x.x-index (0, false) c.loop-x-test.true))

pub returns : goal.returns
returns c = λ t. c.loop-x.invariant ∙ ap (fan_of c.args.segments.now) (take_all c.loop-x.x-index c.args.star.now (omega (arith, c.loop-x-test.false)))
