use Rattle.std.proofs.Common.{◌∙◌, ◌+◌, sym, arith}
use Rattle.std.specs.Prelude.{pos}
use Rattle.mesh_plane.specs.Plane.{Edge}
use Rattle.mesh_shapes.proofs.LeftOut.{starts_few, none_later, not_true}
use Rattle.mesh_shapes.proofs.trace.starts_once.Goals as goal

pub returns-then-next-ordered : goal.returns-then-next-ordered
returns-then-next-ordered c t =
    starts_few c.args.ordered.now c.args.at c.first_from-next.result c.first_from-next.ensures.before
    (λ i d later low. absurd (let e = c.if-next-ordered.true in omega (arith, e, later, low)))

pub returns-else-next-ordered : goal.returns-else-next-ordered
returns-else-next-ordered c t =
    let es = c.args.ordered.now in
    let d₀ : Edge = ((pos 0, pos 0), (pos 0, pos 0)) in
    let e = c.if-next-ordered.false in
    starts_few es c.args.at c.first_from-next.result c.first_from-next.ensures.before
    (λ i d later low.
    none_later es c.args.at (c.first_from-next.result + 1) d₀ c.requires (omega (arith, e))
    (c.first_from-next.ensures.after (c.first_from-next.result + 1) d₀ (omega arith) (omega (arith, e)))
    (sym c.same_point.ensures ∙ not_true c.same_point.result t) i d (omega (arith, later)) low)
