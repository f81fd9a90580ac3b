use Rattle.std.proofs.Common.{◌≡◌, false, refl, sym, ◌∙◌, ap, arith}
use Rattle.mesh_plane.specs.Plane.{Point, Edge}
use Rattle.mesh_boundary.proofs.RoundEnds.{crossed_back, crossed_forth, turning_as}
use Rattle.mesh_boundary.proofs.round.four_round.Goals as goal

-- where the edge that was read starts, there starts the segment that it is
start_of : {e f : Edge} {p : Point} → e ≡ f → e.0 ≡ p → f.0 ≡ p
start_of same start = sym (ap (λ (g : Edge). g.0) same) ∙ start

pub returns-then-are_turning-clause-round : goal.returns-then-are_turning-clause-round
returns-then-are_turning-clause-round c = λ es counts all.
    crossed_forth es c.args.segments.now c.args.star.now c.args.p _ _ _ _
    (record {
      four = omega (arith, c.if-star-ne4.false);
      x_is = refl;
      y_is = refl;
      z_is = refl;
      w_is = refl;
      x_low = c.requires 0 (0, false) (omega (arith, c.if-star-ne4.false));
      y_low = c.requires 1 (0, false) (omega (arith, c.if-star-ne4.false));
      z_low = c.requires 2 (0, false) (omega (arith, c.if-star-ne4.false));
      w_low = c.requires 3 (0, false) (omega (arith, c.if-star-ne4.false));
      x_at = start_of c.in_ok-a.ensures.edge c.in_ok-a.ensures.start;
      y_at = start_of c.in_ok-b.ensures.edge c.in_ok-b.ensures.start;
      z_at = start_of c.in_ok-c.ensures.edge c.in_ok-c.ensures.start;
      w_at = start_of c.in_ok-d.ensures.edge c.in_ok-d.ensures.start;
    })
    counts all
    (turning_as _ _ _ _ _ _ _ _ c.in_ok-a.ensures.edge c.in_ok-c.ensures.edge c.in_ok-b.ensures.edge c.in_ok-d.ensures.edge
    (c.are_turning.ensures c.if-are_turning.true))

pub returns-then-are_turning-2-clause-round : goal.returns-then-are_turning-2-clause-round
returns-then-are_turning-2-clause-round c = λ es counts all.
    crossed_back es c.args.segments.now c.args.star.now c.args.p _ _ _ _
    (record {
      four = omega (arith, c.if-star-ne4.false);
      x_is = refl;
      y_is = refl;
      z_is = refl;
      w_is = refl;
      x_low = c.requires 0 (0, false) (omega (arith, c.if-star-ne4.false));
      y_low = c.requires 1 (0, false) (omega (arith, c.if-star-ne4.false));
      z_low = c.requires 2 (0, false) (omega (arith, c.if-star-ne4.false));
      w_low = c.requires 3 (0, false) (omega (arith, c.if-star-ne4.false));
      x_at = start_of c.in_ok-a.ensures.edge c.in_ok-a.ensures.start;
      y_at = start_of c.in_ok-b.ensures.edge c.in_ok-b.ensures.start;
      z_at = start_of c.in_ok-c.ensures.edge c.in_ok-c.ensures.start;
      w_at = start_of c.in_ok-d.ensures.edge c.in_ok-d.ensures.start;
    })
    counts all
    (turning_as _ _ _ _ _ _ _ _ c.in_ok-a.ensures.edge c.in_ok-d.ensures.edge c.in_ok-b.ensures.edge c.in_ok-c.ensures.edge
    (c.are_turning-2.ensures c.if-are_turning-2.true))
