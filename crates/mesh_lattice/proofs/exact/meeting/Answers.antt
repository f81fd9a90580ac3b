use Rattle.std.proofs.Common.{◌^◌, lit≤, ◌∙◌, ap, subst, sym}
use Rattle.std.specs.Prelude.{ℤ}
use Rattle.std.proofs.lemmas.Bool.{both_ways}
use Rattle.mesh_plane.specs.Plane.{Point}
use Rattle.mesh_lattice.specs.Split.{AreOpposite, Meets, at_start_of_second, at_end_of_second, at_start_of_first, at_end_of_first, at_crossing}
use Rattle.mesh_lattice.proofs.Arithmetic.{small_kept}
use Rattle.mesh_lattice.proofs.Boxes.{meets_box}
use Rattle.mesh_lattice.proofs.Meeting.{AreAlike, clear_of_tests, clear_of_sides}
use Rattle.mesh_lattice.proofs.exact.meeting.Goals as goal

pub returns-then-are_boxes_apart : goal.returns-then-are_boxes_apart
returns-then-are_boxes_apart c = λ p m. c.are_boxes_apart.ensures c.if-are_boxes_apart.true p (meets_box m).0 (meets_box m).1

pub returns-then-are_alike : goal.returns-then-are_alike
returns-then-are_alike c =
    clear_of_sides c.args.e c.args.f (subst (λ (s : ℤ × ℤ). AreAlike s.0 s.1) c.sides_of-second.ensures.value (c.are_alike.ensures c.if-are_alike.true))

pub is_inside-requires : goal.is_inside-requires
is_inside-requires c =
    small_kept (2 ^ 65) c.sides_of-second.result.0 (lit≤ tt) c.sides_of-second.ensures.size.x ∙ ap (λ (s : ℤ × ℤ). s.0) c.sides_of-second.ensures.value

pub is_inside-requires-2 : goal.is_inside-requires-2
is_inside-requires-2 c =
    small_kept (2 ^ 65) c.sides_of-second.result.1 (lit≤ tt) c.sides_of-second.ensures.size.y ∙ ap (λ (s : ℤ × ℤ). s.1) c.sides_of-second.ensures.value

pub is_inside-requires-3 : goal.is_inside-requires-3
is_inside-requires-3 c =
    small_kept (2 ^ 65) c.sides_of-first.result.0 (lit≤ tt) c.sides_of-first.ensures.size.x ∙ ap (λ (s : ℤ × ℤ). s.0) c.sides_of-first.ensures.value

pub is_inside-requires-4 : goal.is_inside-requires-4
is_inside-requires-4 c =
    small_kept (2 ^ 65) c.sides_of-first.result.1 (lit≤ tt) c.sides_of-first.ensures.size.y ∙ ap (λ (s : ℤ × ℤ). s.1) c.sides_of-first.ensures.value

pub returns-then-is_inside : goal.returns-then-is_inside
returns-then-is_inside c = at_start_of_second (c.is_inside.ensures.0 c.if-is_inside.true)

pub returns-then-is_inside-2 : goal.returns-then-is_inside-2
returns-then-is_inside-2 c = at_end_of_second (c.is_inside-2.ensures.0 c.if-is_inside-2.true)

pub returns-then-is_inside-3 : goal.returns-then-is_inside-3
returns-then-is_inside-3 c = at_start_of_first (c.is_inside-3.ensures.0 c.if-is_inside-3.true)

pub returns-then-is_inside-4 : goal.returns-then-is_inside-4
returns-then-is_inside-4 c = at_end_of_first (c.is_inside-4.ensures.0 c.if-is_inside-4.true)

pub returns-then-not-are_opposite : goal.returns-then-not-are_opposite
returns-then-not-are_opposite c =
    clear_of_tests c.args.e c.args.f
    (λ h. both_ways _ c.if-is_inside.false (c.is_inside.ensures.1 h))
    (λ h. both_ways _ c.if-is_inside-2.false (c.is_inside-2.ensures.1 h))
    (λ h. both_ways _ c.if-is_inside-3.false (c.is_inside-3.ensures.1 h))
    (λ h. both_ways _ c.if-is_inside-4.false (c.is_inside-4.ensures.1 h))
    (λ h. both_ways _ c.if-not-are_opposite.true (c.are_opposite.ensures.1 (subst (λ (s : ℤ × ℤ). AreOpposite s.0 s.1) (sym c.sides_of-second.ensures.value) h.second_parted)))

pub returns-then-not-are_opposite-2 : goal.returns-then-not-are_opposite-2
returns-then-not-are_opposite-2 c =
    clear_of_tests c.args.e c.args.f
    (λ h. both_ways _ c.if-is_inside.false (c.is_inside.ensures.1 h))
    (λ h. both_ways _ c.if-is_inside-2.false (c.is_inside-2.ensures.1 h))
    (λ h. both_ways _ c.if-is_inside-3.false (c.is_inside-3.ensures.1 h))
    (λ h. both_ways _ c.if-is_inside-4.false (c.is_inside-4.ensures.1 h))
    (λ h. both_ways _ c.if-not-are_opposite-2.true (c.are_opposite-2.ensures.1 (subst (λ (s : ℤ × ℤ). AreOpposite s.0 s.1) (sym c.sides_of-first.ensures.value) h.first_parted)))

pub rounded_crossing-requires-clause-parted : goal.rounded_crossing-requires-clause-parted
rounded_crossing-requires-clause-parted c = c.are_opposite-2.ensures.0 c.if-not-are_opposite-2.false

pub returns : goal.returns
returns c =
    subst (λ (p : Point). Meets c.args.e c.args.f p) (sym c.rounded_crossing.ensures)
    (at_crossing
    (record {
      second_parted = subst (λ (s : ℤ × ℤ). AreOpposite s.0 s.1) c.sides_of-second.ensures.value (c.are_opposite.ensures.0 c.if-not-are_opposite.false);
      first_parted = subst (λ (s : ℤ × ℤ). AreOpposite s.0 s.1) c.sides_of-first.ensures.value (c.are_opposite-2.ensures.0 c.if-not-are_opposite-2.false);
    }))
