-- The radius is tested in 128 bits.
use Rattle.std.proofs.Common.{◌∙◌, ◌++◌, ap, sym, arith, append-nil, List}
use Rattle.std.specs.Prelude.{ℤ, pos, ◌≤ℤ◌}
use Rattle.std.proofs.lemmas.Int.{ints}
use Rattle.std.proofs.lemmas.Result.{on_ok_weaker}
use Rattle.mesh_plane.specs.Plane.{Edge}
use Rattle.mesh_num.specs.Segments.{segments_of}
use Rattle.mesh_circle.proofs.Cases.{above_one, at_most_one, no_circle, whole_circle}
use Rattle.mesh_circle.proofs.sweeper.Sweeper.push_circle.Goals as goal

pub returns-then-widen-le1-clause-ok : goal.returns-then-widen-le1-clause-ok
returns-then-widen-le1-clause-ok g c =
    let r : ℤ = g.I.IntNumber.value c.args.radius in
    let small : r ≤ℤ pos 1 =
    at_most_one c.widen.result r (omega (arith, ints, c.widen.ensures.small)) c.widen.ensures.value
    c.if-widen-le1.true in
    sym (append-nil c.args.segments.now.items)
    ∙ ap (λ (es : List Edge). c.args.segments.now.items ++ segments_of es)
    (sym (no_circle g.I.IntNumber.unit c.args.self.now c.args.center r small))

pub push_halves-requires-clause-large : goal.push_halves-requires-clause-large
push_halves-requires-clause-large g c =
    above_one c.widen.result (g.I.IntNumber.value c.args.radius) (omega (arith, ints, c.widen.ensures.small))
    c.widen.ensures.value c.if-widen-le1.false

pub returns-clause-ok : goal.returns-clause-ok
returns-clause-ok g c =
    let r : ℤ = g.I.IntNumber.value c.args.radius in
    let large =
    above_one c.widen.result r (omega (arith, ints, c.widen.ensures.small)) c.widen.ensures.value
    c.if-widen-le1.false in
    on_ok_weaker c.push_halves.result
    (λ h. h ∙ ap (λ (es : List Edge). c.args.segments.now.items ++ segments_of es)
    (sym (whole_circle g.I.IntNumber.unit c.args.self.now c.args.center r large)))
    c.push_halves.ensures.ok
