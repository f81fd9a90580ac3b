use Rattle.std.proofs.Common.{◌≡◌, ◌∙◌, ap, subst, sym}
use Rattle.std.specs.Prelude.{ℤ, ◌-ℤ◌}
use Rattle.std.proofs.lemmas.Bool.{both_ways}
use Rattle.mesh_plane.specs.Plane.{Point, cross, minus}
use Rattle.mesh_plane.proofs.Identities.{cross_flip}
use Rattle.mesh_lattice.specs.Split.{crossing_at, AreOpposite, Meets, at_start_of_second, at_end_of_second, at_start_of_first, at_end_of_first, at_crossing}
use Rattle.mesh_lattice.proofs.Meeting.{clear_of_tests}
use Rattle.mesh_meeting.proofs.Kept.{negated, whole_small}
use Rattle.mesh_meeting.proofs.meeting.meeting.Goals as goal
use Rattle.mesh_meeting.proofs.meeting.meeting.Goals.{else-are_opposite-via-then-are_opposite+else-are_opposite-2, else-are_opposite-via-else-are_opposite}

pub sides_of-first-requires-clause-turned : goal.sides_of-first-requires-clause-turned
sides_of-first-requires-clause-turned c =
    let e = c.args.e in
    let f = c.args.f in
    let is : c.cross-turned.result ≡ cross (minus e.1 e.0) (minus f.1 f.0) = c.cross-turned.ensures.value ∙ λ i. cross (c.minus.ensures.value i) (c.minus-2.ensures.value i) in
    negated c.cross-turned.result (cross (minus e.1 e.0) (minus f.1 f.0)) c.cross-turned.ensures.size is ∙ sym (cross_flip (minus e.1 e.0) (minus f.1 f.0))

pub rounded_crossing-requires-clause-whole : goal.rounded_crossing-requires-clause-whole
rounded_crossing-requires-clause-whole c = whole_small c.args.e c.args.f c.sides_of-first.result c.requires.first c.requires.second c.sides_of-first.ensures.value

pub returns-in-Some : goal.returns-in-Some
returns-in-Some c =
    let e = c.args.e in
    let is = c.in-Some.ensures ∙ ap (λ (s : ℤ × ℤ). (crossing_at e.0.0 e.1.0 s.0 (s.0 -ℤ s.1), crossing_at e.0.1 e.1.1 s.0 (s.0 -ℤ s.1))) c.sides_of-first.ensures.value in
    subst (λ (p : Point). Meets e c.args.f p) (sym is)
    (at_crossing
    (record {
      second_parted = subst (λ (s : ℤ × ℤ). AreOpposite s.0 s.1) c.sides_of-second.ensures.value (c.are_opposite.ensures.0 c.if-are_opposite.true);
      first_parted = subst (λ (s : ℤ × ℤ). AreOpposite s.0 s.1) c.sides_of-first.ensures.value (c.are_opposite-then-are_opposite.ensures.0 c.if-are_opposite-2.true);
    }))

pub returns-then-is_inside : goal.returns-then-is_inside
returns-then-is_inside c = at_start_of_second (c.is_inside.ensures.0 c.if-is_inside.true)

pub returns-then-is_inside-2 : goal.returns-then-is_inside-2
returns-then-is_inside-2 c = at_end_of_second (c.is_inside-2.ensures.0 c.if-is_inside-2.true)

pub returns-then-is_inside-3 : goal.returns-then-is_inside-3
returns-then-is_inside-3 c = at_start_of_first (c.is_inside-3.ensures.0 c.if-is_inside-3.true)

pub returns-then-is_inside-4 : goal.returns-then-is_inside-4
returns-then-is_inside-4 c = at_end_of_first (c.is_inside-4.ensures.0 c.if-is_inside-4.true)

pub returns : goal.returns
returns c =
    clear_of_tests c.args.e c.args.f
    (λ h. both_ways _ c.if-is_inside.false (c.is_inside.ensures.1 h))
    (λ h. both_ways _ c.if-is_inside-2.false (c.is_inside-2.ensures.1 h))
    (λ h. both_ways _ c.if-is_inside-3.false (c.is_inside-3.ensures.1 h))
    (λ h. both_ways _ c.if-is_inside-4.false (c.is_inside-4.ensures.1 h))
    (λ h.
    elim c.else-are_opposite.branch [
      | else-are_opposite-via-then-are_opposite+else-are_opposite-2 w ↦ both_ways _ w.if-are_opposite-2.false
          (w.are_opposite-then-are_opposite.ensures.1 (subst (λ (s : ℤ × ℤ). AreOpposite s.0 s.1) (sym c.sides_of-first.ensures.value) h.first_parted))
      | else-are_opposite-via-else-are_opposite w ↦ both_ways _ w.if-are_opposite.false
          (c.are_opposite.ensures.1 (subst (λ (s : ℤ × ℤ). AreOpposite s.0 s.1) (sym c.sides_of-second.ensures.value) h.second_parted))
    ])
