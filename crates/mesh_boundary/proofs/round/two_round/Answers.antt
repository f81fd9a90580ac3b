use Rattle.std.proofs.Common.{false, refl, sym, ◌∙◌, ap, arith}
use Rattle.mesh_plane.specs.Plane.{Edge}
use Rattle.mesh_boundary.proofs.RoundEnds.{two_are_round}
use Rattle.mesh_boundary.proofs.round.two_round.Goals as goal

pub returns-clause-round : goal.returns-clause-round
returns-clause-round c = λ es counts all.
    two_are_round es c.args.segments.now c.args.star.now c.args.p _ _ (omega (arith, c.if-star-ne2.false)) refl refl
    (c.requires 0 (0, false) (omega (arith, c.if-star-ne2.false)))
    (c.requires 1 (0, false) (omega (arith, c.if-star-ne2.false)))
    (sym (ap (λ (e : Edge). e.0) c.in_ok-_first.ensures.edge) ∙ c.in_ok-_first.ensures.start)
    (sym (ap (λ (e : Edge). e.0) c.in_ok-_second.ensures.edge) ∙ c.in_ok-_second.ensures.start)
    counts all
