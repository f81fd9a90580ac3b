-- Lemmas over points: an outer corner of an outline is as a join asks, so its join keeps what joins keep.
use Rattle.std.proofs.Common.{◌≡◌, ◌≢◌, ℕ, ◌<◌, ◌≤◌, ◌^◌, Bool, true, false, cond, List, map, refl, sym, subst, ◌∙◌, ap, arith}
use Rattle.std.specs.Prelude.{ℤ, pos, neg_ℤ, ◌+ℤ◌, ◌-ℤ◌, ◌*ℤ◌, ◌≤ℤ◌, ◌<ℤ◌, unsigned_abs, int_lt}
use Rattle.std.specs.Ordering.{int_eq}
use Rattle.std.specs.List.{All}
use Rattle.std.proofs.Math.Bool.{beq}
use Rattle.std.proofs.lemmas.Int.{ints}
use Rattle.std.proofs.lemmas.List.Elements.{All-map, All-weaker}
use Rattle.mesh_plane.proofs.Identities.{cross_flip}
use Rattle.mesh_offset.proofs.Apart.{apart_long}
use Rattle.mesh_offset.proofs.Quarters.{quarters_turn}
use Rattle.mesh_plane.specs.Plane.{Point, Edge, plus, minus, opposite, cross, dot, turn, right_quarter}
use Rattle.mesh_num.specs.Direction.{IsFresh, IsShort, scaled_direction}
use Rattle.mesh_num.specs.Directed.{direction_of}
use Rattle.mesh_plane.specs.Winding.{boundary}
use Rattle.mesh_plane.proofs.Whole.{linear}
use Rattle.mesh_plane.proofs.ClosedLists.{boundary_map, boundary_all, all_both}
use Rattle.mesh_num.proofs.Parts.{direction_fresh, direction_short}
use Rattle.mesh_num.proofs.Scaling.{scaled_direction_opposite_radius, scaled_turn_kept, scaled_parallel_kept}
use Rattle.mesh_num.proofs.Directed.{direction_of_is}
use Rattle.mesh_join.proofs.JoinLaws.{KeepsJoint, KeepsJoints}
use Rattle.mesh_join.proofs.Joins.{join_keeps}
use Rattle.mesh_arc.specs.declared.arc.ArcDirection.TheVariants.{Clockwise, Counterclockwise}
use Rattle.mesh_join.specs.Joins.{IsJoint}
use Rattle.mesh_arc.specs.Arcs.{sense_of}
use Rattle.mesh_join.specs.Joints.{IsTurn, contact}
use Rattle.mesh_join.specs.Styles.{OffsetJoin}
use Rattle.mesh_outline.specs.Outline.{Section, SectionPair, own_edge, sideways, section_of, parts, sense_for, joint_at}
use Rattle.mesh_offset.specs.Drawing.{sided}
use Rattle.mesh_outline.specs.Private.Sections.{IsCorner}

-- on each side
pub negative : (offset : ℤ) → int_lt offset (pos 0) ≡ true → offset <ℤ pos 0
negative offset e = omega (arith, ints)

pub not_negative : (offset : ℤ) → int_lt offset (pos 0) ≡ false → pos 0 ≤ℤ offset
not_negative offset e = omega (arith, ints)

-- edges with different ends, each starting where the one before ends, the first where the last does
pub record IsClosedProper (contour : List Edge) : Type 0 where
  pub proper : All (λ (e : Edge). e.0 ≢ e.1) contour
  pub closed : All (λ (c : Edge × Edge). c.0.1 ≡ c.1.0) (boundary contour)

-- what holds of all pairs of neighbouring edges holds of the corners
pub corners : (unit : ℕ) (offset : ℤ) (P : SectionPair → Type 0) (contour : List Edge) →
    All (λ (c : Edge × Edge). P (section_of unit offset c.0, section_of unit offset c.1)) (boundary contour) →
    All P (boundary (map (section_of unit offset) contour))
corners unit offset P contour h =
    rw (boundary_map (section_of unit offset) contour)
    (All-map P (λ (c : Edge × Edge). (section_of unit offset c.0, section_of unit offset c.1)) (boundary contour) h)

-- ---- the ends of a join

-- the test for an outer corner tells on which side the second direction lies
outer_side : (offset x d y : ℤ) → (x ≡ pos 0 → y ≡ pos 0) → (pos 0 ≤ℤ x → y ≤ℤ pos 0) → (x ≤ℤ pos 0 → pos 0 ≤ℤ y) →
    cond (int_eq x (pos 0)) (int_lt d (pos 0)) (beq (int_lt (pos 0) x) (int_lt offset (pos 0))) ≡ true → pos 0 ≤ℤ sided offset y
outer_side offset x d y flat left right h = grind (arith, ints)

-- the ends of a join at an outer corner don't turn back
ends_turn : (unit : ℕ) (offset : ℤ) (a v b : Point) → 0 < unit → a ≢ v → v ≢ b →
    parts offset (section_of unit offset (a, v), section_of unit offset (v, b)) ≡ true →
    pos 0 ≤ℤ sided offset (turn v (plus v (sideways unit offset (minus v a))) (plus v (sideways unit offset (minus b v))))
ends_turn unit offset a v b some first second outer =
    let w = minus v a in
    let u = minus b v in
    let s = scaled_direction unit offset (direction_of unit w) in
    let t = scaled_direction unit offset (direction_of unit u) in
    let dw = direction_of_is unit w (apart_long (a, v) first) in
    let du = direction_of_is unit u (apart_long (v, b) second) in
    rw (quarters_turn v s t)
    (outer_side offset (cross u w) (dot u w) (cross s t)
    (λ h. scaled_parallel_kept offset some dw du (omega (arith, linear, cross_flip u w)))
    (λ h. omega (arith, linear, cross_flip t s, scaled_turn_kept offset some du dw h))
    (λ h. scaled_turn_kept offset some dw du (omega (arith, linear, cross_flip u w)))
    outer)

outer_ends : (unit : ℕ) (offset : ℤ) (e g : Edge) → 0 < unit → e.0 ≢ e.1 → g.0 ≢ g.1 → e.1 ≡ g.0 →
    parts offset (section_of unit offset e, section_of unit offset g) ≡ true →
    pos 0 ≤ℤ sided offset (turn e.1 (plus e.1 (sideways unit offset (minus e.1 e.0))) (plus g.0 (sideways unit offset (minus g.1 g.0))))
outer_ends unit offset e g some pe pg met =
    subst (λ (v : Point). v ≢ g.1 → parts offset (section_of unit offset e, section_of unit offset (v, g.1)) ≡ true →
    pos 0 ≤ℤ sided offset (turn e.1 (plus e.1 (sideways unit offset (minus e.1 e.0))) (plus v (sideways unit offset (minus g.1 v)))))
    met (λ p h. ends_turn unit offset e.0 e.1 g.1 some pe p h) pg

-- a point moved sideways is the contact point of its join
moved_contact : (unit : ℕ) (offset : ℤ) (p v : Point) (b : Bool) → 0 < unit → int_lt offset (pos 0) ≡ b →
    plus p (sideways unit offset v) ≡ contact unit (pos (unsigned_abs offset)) (cond b Clockwise Counterclockwise) p (direction_of unit v)
moved_contact unit offset p v true some e =
    let n = direction_of unit v in
    let s = scaled_direction unit offset n in
    let below : offset <ℤ pos 0 = negative offset e in
    let r : pos (unsigned_abs offset) ≡ neg_ℤ offset = omega (arith, ints) in
    let f : scaled_direction unit (pos (unsigned_abs offset)) n ≡ opposite s =
    ap (λ (x : ℤ). scaled_direction unit x n) r ∙ scaled_direction_opposite_radius unit offset n some in
    let x : p.0 +ℤ s.1 ≡ p.0 -ℤ neg_ℤ s.1 = omega (arith, linear) in
    let y : p.1 +ℤ neg_ℤ s.0 ≡ p.1 -ℤ neg_ℤ (neg_ℤ s.0) = omega (arith, linear) in
    let g : plus p (right_quarter s) ≡ minus p (right_quarter (opposite s)) = λ i. (x i, y i) in
    g ∙ ap (λ (t : Point). minus p (right_quarter t)) (sym f)
moved_contact unit offset p v false some e =
    let above : pos 0 ≤ℤ offset = not_negative offset e in
    let r : offset ≡ pos (unsigned_abs offset) = omega (arith, ints) in
    ap (λ (x : ℤ). plus p (right_quarter (scaled_direction unit x (direction_of unit v)))) r

sided_turn : (t : ℤ) (b : Bool) → pos 0 ≤ℤ cond b (neg_ℤ t) t → pos 0 ≤ℤ (sense_of (cond b Clockwise Counterclockwise) *ℤ t)
sided_turn t true h = omega (arith, ints, h)
sided_turn t false h = omega (arith, ints, h)

-- ---- a corner of two sections

-- the section of an edge with different ends
abbrev IsMade : ℕ → ℤ → Section → Type 0
IsMade unit offset s = (s ≡ section_of unit offset (own_edge s)) × (s.a ≢ s.b)

made_direction : (unit : ℕ) (offset : ℤ) (s : Section) → IsMade unit offset s → s.direction ≡ direction_of unit (minus s.b s.a)
made_direction unit offset s h = ap (λ (t : Section). t.direction) h.0

made_fresh : (unit : ℕ) (offset : ℤ) (s : Section) → 2 ≤ unit → IsMade unit offset s → IsFresh unit s.direction
made_fresh unit offset s some h =
    rw (made_direction unit offset s h) (direction_fresh some (direction_of_is unit (minus s.b s.a) (apart_long (own_edge s) h.1)))

made_short : (unit : ℕ) (offset : ℤ) (s : Section) → IsMade unit offset s → IsShort unit s.direction
made_short unit offset s h =
    rw (made_direction unit offset s h) (direction_short (direction_of_is unit (minus s.b s.a) (apart_long (own_edge s) h.1)))

end_contact : (unit : ℕ) (offset : ℤ) (s : Section) → 0 < unit → IsMade unit offset s →
    s.b_top ≡ contact unit (pos (unsigned_abs offset)) (sense_for offset) s.b s.direction
end_contact unit offset s some h =
    rw (made_direction unit offset s h) (ap (λ (t : Section). t.b_top) h.0 ∙ moved_contact unit offset s.b (minus s.b s.a) (int_lt offset (pos 0)) some refl)

start_contact : (unit : ℕ) (offset : ℤ) (s : Section) → 0 < unit → IsMade unit offset s →
    s.a_top ≡ contact unit (pos (unsigned_abs offset)) (sense_for offset) s.a s.direction
start_contact unit offset s some h =
    rw (made_direction unit offset s h) (ap (λ (t : Section). t.a_top) h.0 ∙ moved_contact unit offset s.a (minus s.b s.a) (int_lt offset (pos 0)) some refl)

no_turn_back : (unit : ℕ) (offset : ℤ) (c : SectionPair) → 0 < unit → IsMade unit offset c.0 → IsMade unit offset c.1 → c.0.b ≡ c.1.a → parts offset c ≡ true →
    pos 0 ≤ℤ sided offset (turn c.0.b c.0.b_top c.1.a_top)
no_turn_back unit offset c some p n met outer =
    rw (ap (λ (t : Section). t.b_top) p.0, ap (λ (t : Section). t.a_top) n.0)
    (outer_ends unit offset (own_edge c.0) (own_edge c.1) some p.1 n.1 met outer)

-- an outer corner turns
turn_at : (unit : ℕ) (offset : ℤ) (c : SectionPair) → 2 ≤ unit → IsMade unit offset c.0 → IsMade unit offset c.1 → c.0.b ≡ c.1.a → parts offset c ≡ true →
    IsTurn unit (joint_at offset c)
turn_at unit offset c some p n met outer = record {
  radius_sign = omega (arith, ints);
  fresh_incoming = made_fresh unit offset c.0 some p;
  fresh_outgoing = made_fresh unit offset c.1 some n;
  first = end_contact unit offset c.0 (omega arith) p;
  last = rw met (start_contact unit offset c.1 (omega arith) n);
  no_turn_back = sided_turn (cross (minus c.0.b_top c.0.b) (minus c.1.a_top c.0.b)) (int_lt offset (pos 0)) (no_turn_back unit offset c (omega arith) p n met outer);
}

-- ---- what the join of a style keeps

module _ (unit : ℕ) (style : OffsetJoin) (least : 2 ^ 14 ≤ unit) where
  keeps : KeepsJoints unit style.join
  keeps = join_keeps unit style.join least

  -- the corner that the code hands to a join is as it asks
  pub joint_met : (c : SectionPair) → IsCorner unit style c → parts style.offset c ≡ true → IsJoint unit style.join (joint_at style.offset c)
  joint_met c h outer = record {
    turn = turn_at unit style.offset c (omega arith) (h.previous.made, h.previous.differ) (h.next.made, h.next.differ) h.met outer;
    safe = rw (keeps.sized style.offset) h.movable;
  }

  keeps_at : (e g : Edge) → e.0 ≢ e.1 → g.0 ≢ g.1 → e.1 ≡ g.0 → parts style.offset (section_of unit style.offset e, section_of unit style.offset g) ≡ true →
      KeepsJoint unit style.join (joint_at style.offset (section_of unit style.offset e, section_of unit style.offset g))
  keeps_at e g pe pg met outer =
      let c : SectionPair = (section_of unit style.offset e, section_of unit style.offset g) in
      let p : IsMade unit style.offset c.0 = (refl, pe) in
      let n : IsMade unit style.offset c.1 = (refl, pg) in
      keeps.joint (joint_at style.offset c) (made_short unit style.offset c.0 p) (made_short unit style.offset c.1 n) (turn_at unit style.offset c (omega arith) p n met outer)

  -- each outer corner of a ring keeps what joins keep
  pub corners_keep : (contour : List Edge) → IsClosedProper contour →
      All (λ (c : SectionPair). parts style.offset c ≡ true → KeepsJoint unit style.join (joint_at style.offset c)) (boundary (map (section_of unit style.offset) contour))
  corners_keep contour ring =
      corners unit style.offset (λ c. parts style.offset c ≡ true → KeepsJoint unit style.join (joint_at style.offset c)) contour
      (All-weaker (λ (c : Edge × Edge). ((c.0.0 ≢ c.0.1) × (c.1.0 ≢ c.1.1)) × (c.0.1 ≡ c.1.0))
      (λ (c : Edge × Edge). parts style.offset (section_of unit style.offset c.0, section_of unit style.offset c.1) ≡ true →
      KeepsJoint unit style.join (joint_at style.offset (section_of unit style.offset c.0, section_of unit style.offset c.1)))
      (λ c h. keeps_at c.0 c.1 h.0.0 h.0.1 h.1) (boundary contour)
      (all_both (λ (c : Edge × Edge). (c.0.0 ≢ c.0.1) × (c.1.0 ≢ c.1.1)) (λ (c : Edge × Edge). c.0.1 ≡ c.1.0) (boundary contour)
      (boundary_all (λ (e : Edge). e.0 ≢ e.1) contour ring.proper) ring.closed))
