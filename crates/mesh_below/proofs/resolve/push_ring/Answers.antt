use Rattle.std.proofs.Common.{◌∙◌, sym, arith}
use Rattle.std.proofs.lemmas.Bool.{eqb-true}
use Rattle.mesh_below.proofs.Resolving.{push_one, push_none}
use Rattle.mesh_below.proofs.resolve.push_ring.Goals as goal

pub returns-then-not-is_large : goal.returns-then-not-is_large
returns-then-not-is_large c =
    push_none c.args.choices.all_vertices c.args.choices.least_area c.args.ordered.now c.args.contour.items c.in_ok-ring.ring c.args.rings.now.items _ _
    c.in_ok-ring.ensures (sym c.is_large.ensures ∙ c.if-not-is_large.true) (λ t. let e = eqb-true c.len.result c.len-count.result t in omega (arith, e))

pub returns : goal.returns
returns c =
    push_one c.args.choices.all_vertices c.args.choices.least_area c.args.ordered.now c.args.contour.items c.in_ok-ring.ring c.args.rings.now.items c.push.new.self.items _ _
    c.in_ok-ring.ensures (sym c.is_large.ensures ∙ c.if-not-is_large.false)
    (λ t. let e = eqb-true c.len.result c.len-count.result t in omega (arith, e)) c.in_ok-push.ensures.items
