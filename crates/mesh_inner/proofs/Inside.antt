-- Lemmas over points and lists: the boundary of a triangle or a parallelogram winds once round each point that lies to
-- the left of all of its sides.
use Rattle.std.proofs.Common.{◌≡◌, ℕ, ◌*◌, ◌<◌, ◌≤◌, inl, inr, List, [], ◌∷◌, not, refl, sym, subst, ap, arith}
use Rattle.std.specs.Prelude.{ℤ, pos, neg_ℤ, ◌+ℤ◌, ◌-ℤ◌, ◌*ℤ◌, ◌≤ℤ◌, ◌<ℤ◌, IsTrue, unsigned_abs}
use Rattle.std.specs.Ordering.{int_eq}
use lib.IntN.{*ℤ_comm}
use Rattle.std.proofs.lemmas.Int.{ints, by_lt_z}
use Rattle.mesh_plane.specs.Plane.{Point, plus, minus, cross, dot, turn, right_quarter, length_sq}
use Rattle.mesh_plane.specs.Winding.{crossing_of, crossing, refined, winding, boundary, holds, IsBit}
use Rattle.mesh_plane.proofs.Whole.{linear, mul_add, mul_zero, mul_pos, mul_nonneg, mul_nonneg_nonpos, mul_pos_neg, times_zero, mul_cancel, mul_le_mul_left, mul_lt_mul_left, square_nonneg, neg_mul_neg}
use Rattle.mesh_plane.proofs.Ring.{ring, var, lit, neg, ◌⊕◌, ◌⊖◌, ◌⊗◌, cross_of, dot_of}
use Rattle.mesh_plane.proofs.PointExprs.{PointExpr, point_var, coordinates, apart, crossed, turned, scaled_point_expr}
use Rattle.mesh_plane.proofs.Crossings.{turn_flip}
use Rattle.mesh_plane.proofs.Identities.{lagrange}
use Rattle.mesh_plane.proofs.Sizes.{dot_self, size_square}
use Rattle.mesh_plane.proofs.Triangles.{triangle_bit, parallelogram_bit}
use Rattle.mesh_inner.specs.Room.{IsWideEnough}

-- ---- an edge with the point to its left crosses only upwards

left_least : (a b h t : ℤ) → pos 0 <ℤ t → pos 0 ≤ℤ crossing_of a b h t
left_least a b h t left = grind (arith, ints)

left_up : (a b h t : ℤ) → pos 0 <ℤ t → a ≤ℤ h → h <ℤ b → crossing_of a b h t ≡ pos 1
left_up a b h t left low high = grind (arith, ints)

one_of_bit : (x : ℤ) → IsBit x → pos 1 ≤ℤ x → x ≡ pos 1
one_of_bit x (inl e) h = absurd (omega (arith, ints))
one_of_bit x (inr e) h = e

-- ---- some edge does

-- a point at the height of both ends of an edge has no turn
level_turn : (p r q : Point) → p.1 -ℤ q.1 ≡ pos 0 → r.1 -ℤ q.1 ≡ pos 0 → turn p r q ≡ pos 0
level_turn p r q low high =
    let flat : turn p r q ≡ ((p.0 -ℤ q.0) *ℤ (r.1 -ℤ q.1)) -ℤ ((r.0 -ℤ q.0) *ℤ (p.1 -ℤ q.1)) =
    ring (coordinates (p ∷ r ∷ q ∷ []) []) (turned (point_var 0) (point_var 1) (point_var 2))
    (((var 0 ⊖ var 4) ⊗ (var 3 ⊖ var 5)) ⊖ ((var 2 ⊖ var 4) ⊗ (var 1 ⊖ var 5)))
    refl in
    omega (
      arith,
      linear,
      flat,
      times_zero (p.0 -ℤ q.0) (r.1 -ℤ q.1) high,
      times_zero (r.0 -ℤ q.0) (p.1 -ℤ q.1) low,
    )

-- numbers that are not above 0, with weights above 0, make 0 only where they are 0
none_below : (k l x y rest : ℤ) → (k *ℤ x) +ℤ ((l *ℤ y) +ℤ rest) ≡ pos 0 → pos 0 <ℤ k → pos 0 <ℤ l → x ≤ℤ pos 0 →
    y ≤ℤ pos 0 → rest ≤ℤ pos 0 → (x ≡ pos 0) × (y ≡ pos 0)
none_below k l x y rest e hk hl hx hy hr = (first, second)
  where
    first : x ≡ pos 0
    first =
        by_lt_z x (pos 0)
        (λ (h : x <ℤ pos 0).
        absurd
        (omega (arith, linear, e, hr, mul_pos_neg k x hk h, mul_nonneg_nonpos l y (omega (arith, linear, hl)) hy)))
        (λ (h : pos 0 ≤ℤ x). omega (arith, linear, h, hx))

    second : y ≡ pos 0
    second =
        by_lt_z y (pos 0)
        (λ (h : y <ℤ pos 0).
        absurd
        (omega (arith, linear, e, hr, mul_pos_neg l y hl h, mul_nonneg_nonpos k x (omega (arith, linear, hk)) hx)))
        (λ (h : pos 0 ≤ℤ y). omega (arith, linear, h, hy))

-- the corners of a triangle lie round a point by the turns over the opposite sides
weights_of_three : (q p r s : Point) →
    (turn r s q *ℤ (p.1 -ℤ q.1)) +ℤ ((turn s p q *ℤ (r.1 -ℤ q.1)) +ℤ (turn p r q *ℤ (s.1 -ℤ q.1))) ≡ pos 0
weights_of_three q p r s =
    let t = λ (i : ℕ). λ (j : ℕ). turned (point_var i) (point_var j) (point_var 0) in
    ring (coordinates (q ∷ p ∷ r ∷ s ∷ []) [])
    ((t 2 3 ⊗ (var 3 ⊖ var 1)) ⊕ ((t 3 1 ⊗ (var 5 ⊖ var 1)) ⊕ (t 1 2 ⊗ (var 7 ⊖ var 1))))
    (lit (pos 0))
    refl

module _ (q p r s : Point) (first : pos 0 <ℤ turn p r q) (second : pos 0 <ℤ turn r s q) (third : pos 0 <ℤ turn s p q)
  where
    not_all_above : q.1 <ℤ p.1 → q.1 <ℤ r.1 → q.1 <ℤ s.1 → ⊥
    not_all_above hp hr hs =
        omega (
          arith,
          linear,
          weights_of_three q p r s,
          mul_pos (turn r s q) (p.1 -ℤ q.1) second (omega (arith, linear, hp)),
          mul_pos (turn s p q) (r.1 -ℤ q.1) third (omega (arith, linear, hr)),
          mul_pos (turn p r q) (s.1 -ℤ q.1) first (omega (arith, linear, hs)),
        )

    not_all_below : p.1 ≤ℤ q.1 → r.1 ≤ℤ q.1 → s.1 ≤ℤ q.1 → ⊥
    not_all_below hp hr hs =
        let level : (p.1 -ℤ q.1 ≡ pos 0) × (r.1 -ℤ q.1 ≡ pos 0) =
        none_below (turn r s q) (turn s p q) (p.1 -ℤ q.1) (r.1 -ℤ q.1) (turn p r q *ℤ (s.1 -ℤ q.1))
        (weights_of_three q p r s) second third (omega (arith, linear, hp)) (omega (arith, linear, hr))
        (mul_nonneg_nonpos (turn p r q) (s.1 -ℤ q.1) (omega (arith, linear, first)) (omega (arith, linear, hs))) in
        let flat = level_turn p r q level.0 level.1 in
        omega (arith, linear, flat, first)

    some_of_three : pos 1 ≤ℤ (crossing q p r +ℤ (crossing q r s +ℤ crossing q s p))
    some_of_three =
        by_lt_z q.1 p.1
        (λ (hp : q.1 <ℤ p.1). by_lt_z q.1 s.1
        (λ (hs : q.1 <ℤ s.1). by_lt_z q.1 r.1 (λ (hr : q.1 <ℤ r.1). absurd (not_all_above hp hr hs))
        (λ (hr : r.1 ≤ℤ q.1). omega (arith, linear, x, y, z, left_up r.1 s.1 q.1 (turn r s q) second hr hs)))
        (λ (hs : s.1 ≤ℤ q.1). omega (arith, linear, x, y, z, left_up s.1 p.1 q.1 (turn s p q) third hs hp)))
        (λ (hp : p.1 ≤ℤ q.1). by_lt_z q.1 r.1
        (λ (hr : q.1 <ℤ r.1). omega (arith, linear, x, y, z, left_up p.1 r.1 q.1 (turn p r q) first hp hr))
        (λ (hr : r.1 ≤ℤ q.1). by_lt_z q.1 s.1
        (λ (hs : q.1 <ℤ s.1). omega (arith, linear, x, y, z, left_up r.1 s.1 q.1 (turn r s q) second hr hs))
        (λ (hs : s.1 ≤ℤ q.1). absurd (not_all_below hp hr hs))))
      where
        x : pos 0 ≤ℤ crossing q p r
        x = left_least p.1 r.1 q.1 (turn p r q) first

        y : pos 0 ≤ℤ crossing q r s
        y = left_least r.1 s.1 q.1 (turn r s q) second

        z : pos 0 ≤ℤ crossing q s p
        z = left_least s.1 p.1 q.1 (turn s p q) third

    ahead_of_three : pos 0 ≤ℤ turn p r s
    ahead_of_three =
        let t = λ (i : ℕ). λ (j : ℕ). turned (point_var i) (point_var j) (point_var 0) in
        let sum : turn p r s ≡ turn p r q +ℤ (turn r s q +ℤ turn s p q) =
        ring (coordinates (q ∷ p ∷ r ∷ s ∷ []) []) (turned (point_var 1) (point_var 2) (point_var 3))
        (t 1 2 ⊕ (t 2 3 ⊕ t 3 1)) refl in
        omega (arith, linear, sum, first, second, third)

    triangle_once : crossing q p r +ℤ (crossing q r s +ℤ crossing q s p) ≡ pos 1
    triangle_once =
        one_of_bit (crossing q p r +ℤ (crossing q r s +ℤ crossing q s p)) (triangle_bit q p r s ahead_of_three) some_of_three

-- a triangle holds each point to the left of its three sides
pub triangle_holds : (m : ℕ) (q p r s : Point) → pos 0 <ℤ turn (refined m p) (refined m r) q →
    pos 0 <ℤ turn (refined m r) (refined m s) q → pos 0 <ℤ turn (refined m s) (refined m p) q →
    winding m q (boundary (p ∷ r ∷ s ∷ [])) ≡ pos 1
triangle_holds m q p r s first second third =
    omega (arith, linear, triangle_once q (refined m p) (refined m r) (refined m s) first second third)

-- ---- parallelograms, by the vectors from the point to the corners

turn_about : (p r q : Point) → turn p r q ≡ cross (minus p q) (minus r q)
turn_about p r q =
    ring (coordinates (p ∷ r ∷ q ∷ []) []) (turned (point_var 0) (point_var 1) (point_var 2))
    (crossed (apart (point_var 0) (point_var 2)) (apart (point_var 1) (point_var 2)))
    refl

fourth_is : (a b c d : Point) → a.0 +ℤ c.0 ≡ b.0 +ℤ d.0 → a.1 +ℤ c.1 ≡ b.1 +ℤ d.1 → c ≡ minus (plus b d) a
fourth_is a b c d ex ey =
    let x : c.0 ≡ (b.0 +ℤ d.0) -ℤ a.0 = omega (arith, linear, ex) in
    let y : c.1 ≡ (b.1 +ℤ d.1) -ℤ a.1 = omega (arith, linear, ey) in
    λ i. (x i, y i)

abbrev weighed : Point → Point → Point → Point → ℤ
weighed a b c d =
    ((cross b c *ℤ cross c d) *ℤ a.1) +ℤ (((cross c d *ℤ cross d a) *ℤ b.1) +ℤ
    (((cross d a *ℤ cross a b) *ℤ c.1) +ℤ ((cross a b *ℤ cross b c) *ℤ d.1)))

weights_of_four : (a b c d : Point) → c ≡ minus (plus b d) a → weighed a b c d ≡ pos 0
weights_of_four a b c d e = subst (λ (x : Point). weighed a b x d ≡ pos 0) (sym e) at_fourth
  where
    at_fourth : weighed a b (minus (plus b d) a) d ≡ pos 0
    at_fourth =
        let c0 = (var 2 ⊕ var 4) ⊖ var 0 in
        let c1 = (var 3 ⊕ var 5) ⊖ var 1 in
        let ab = cross_of (var 0) (var 1) (var 2) (var 3) in
        let bc = cross_of (var 2) (var 3) c0 c1 in
        let cd = cross_of c0 c1 (var 4) (var 5) in
        let da = cross_of (var 4) (var 5) (var 0) (var 1) in
        ring (coordinates (a ∷ b ∷ d ∷ []) [])
        (((bc ⊗ cd) ⊗ var 1) ⊕ (((cd ⊗ da) ⊗ var 3) ⊕ (((da ⊗ ab) ⊗ c1) ⊕ ((ab ⊗ bc) ⊗ var 5))))
        (lit (pos 0))
        refl

ahead_at : (q a b c d : Point) → c ≡ minus (plus b d) a → turn a b d ≡ turn a b q +ℤ turn c d q
ahead_at q a b c d e = subst (λ (x : Point). turn a b d ≡ turn a b q +ℤ turn x d q) (sym e) at_fourth
  where
    at_fourth : turn a b d ≡ turn a b q +ℤ turn (minus (plus b d) a) d q
    at_fourth =
        ring (coordinates (q ∷ a ∷ b ∷ d ∷ []) []) (turned (point_var 1) (point_var 2) (point_var 3))
        (turned (point_var 1) (point_var 2) (point_var 0)
        ⊕ turned ((var 4 ⊕ var 6) ⊖ var 2, (var 5 ⊕ var 7) ⊖ var 3) (point_var 3) (point_var 0))
        refl

module _ (a b c d : Point) (e : c ≡ minus (plus b d) a) (first : pos 0 <ℤ cross a b) (second : pos 0 <ℤ cross b c)
    (third : pos 0 <ℤ cross c d) (fourth : pos 0 <ℤ cross d a) where
  at_a : pos 0 <ℤ (cross b c *ℤ cross c d)
  at_a = mul_pos (cross b c) (cross c d) second third

  at_b : pos 0 <ℤ (cross c d *ℤ cross d a)
  at_b = mul_pos (cross c d) (cross d a) third fourth

  at_c : pos 0 <ℤ (cross d a *ℤ cross a b)
  at_c = mul_pos (cross d a) (cross a b) fourth first

  at_d : pos 0 <ℤ (cross a b *ℤ cross b c)
  at_d = mul_pos (cross a b) (cross b c) first second

  four_not_above : pos 0 <ℤ a.1 → pos 0 <ℤ b.1 → pos 0 <ℤ c.1 → pos 0 <ℤ d.1 → ⊥
  four_not_above ha hb hc hd =
      omega (
        arith,
        linear,
        weights_of_four a b c d e,
        mul_pos (cross b c *ℤ cross c d) a.1 at_a ha,
        mul_pos (cross c d *ℤ cross d a) b.1 at_b hb,
        mul_pos (cross d a *ℤ cross a b) c.1 at_c hc,
        mul_pos (cross a b *ℤ cross b c) d.1 at_d hd,
      )

  four_not_below : a.1 ≤ℤ pos 0 → b.1 ≤ℤ pos 0 → c.1 ≤ℤ pos 0 → d.1 ≤ℤ pos 0 → ⊥
  four_not_below ha hb hc hd =
      let of_c = mul_nonneg_nonpos (cross d a *ℤ cross a b) c.1 (omega (arith, linear, at_c)) hc in
      let of_d = mul_nonneg_nonpos (cross a b *ℤ cross b c) d.1 (omega (arith, linear, at_d)) hd in
      let level : (a.1 ≡ pos 0) × (b.1 ≡ pos 0) =
      none_below (cross b c *ℤ cross c d) (cross c d *ℤ cross d a) a.1 b.1
      (((cross d a *ℤ cross a b) *ℤ c.1) +ℤ ((cross a b *ℤ cross b c) *ℤ d.1)) (weights_of_four a b c d e) at_a at_b ha hb
      (omega (arith, linear, of_c, of_d)) in
      omega (
        arith,
        linear,
        first,
        times_zero a.0 b.1 level.1,
        times_zero b.0 a.1 level.0,
        *ℤ_comm a.1 b.0,
      )

module _ (q a b c d : Point) (ex : a.0 +ℤ c.0 ≡ b.0 +ℤ d.0) (ey : a.1 +ℤ c.1 ≡ b.1 +ℤ d.1) (first : pos 0 <ℤ turn a b q)
    (second : pos 0 <ℤ turn b c q) (third : pos 0 <ℤ turn c d q) (fourth : pos 0 <ℤ turn d a q) where
  seen : minus c q ≡ minus (plus (minus b q) (minus d q)) (minus a q)
  seen =
      fourth_is (minus a q) (minus b q) (minus c q) (minus d q) (omega (arith, linear, ex)) (omega (arith, linear, ey))

  not_above : q.1 <ℤ a.1 → q.1 <ℤ b.1 → q.1 <ℤ c.1 → q.1 <ℤ d.1 → ⊥
  not_above ha hb hc hd =
      four_not_above (minus a q) (minus b q) (minus c q) (minus d q) seen (omega (arith, linear, first, turn_about a b q))
      (omega (arith, linear, second, turn_about b c q)) (omega (arith, linear, third, turn_about c d q))
      (omega (arith, linear, fourth, turn_about d a q)) (omega (arith, linear, ha)) (omega (arith, linear, hb))
      (omega (arith, linear, hc)) (omega (arith, linear, hd))

  not_below : a.1 ≤ℤ q.1 → b.1 ≤ℤ q.1 → c.1 ≤ℤ q.1 → d.1 ≤ℤ q.1 → ⊥
  not_below ha hb hc hd =
      four_not_below (minus a q) (minus b q) (minus c q) (minus d q) seen (omega (arith, linear, first, turn_about a b q))
      (omega (arith, linear, second, turn_about b c q)) (omega (arith, linear, third, turn_about c d q))
      (omega (arith, linear, fourth, turn_about d a q)) (omega (arith, linear, ha)) (omega (arith, linear, hb))
      (omega (arith, linear, hc)) (omega (arith, linear, hd))

  some_of_four : pos 1 ≤ℤ (crossing q a b +ℤ (crossing q b c +ℤ (crossing q c d +ℤ crossing q d a)))
  some_of_four =
      by_lt_z q.1 a.1
      (λ (ha : q.1 <ℤ a.1). by_lt_z q.1 d.1
      (λ (hd : q.1 <ℤ d.1). by_lt_z q.1 c.1
      (λ (hc : q.1 <ℤ c.1). by_lt_z q.1 b.1 (λ (hb : q.1 <ℤ b.1). absurd (not_above ha hb hc hd))
      (λ (hb : b.1 ≤ℤ q.1). omega (arith, linear, x, y, z, w, left_up b.1 c.1 q.1 (turn b c q) second hb hc)))
      (λ (hc : c.1 ≤ℤ q.1). omega (arith, linear, x, y, z, w, left_up c.1 d.1 q.1 (turn c d q) third hc hd)))
      (λ (hd : d.1 ≤ℤ q.1). omega (arith, linear, x, y, z, w, left_up d.1 a.1 q.1 (turn d a q) fourth hd ha)))
      (λ (ha : a.1 ≤ℤ q.1). by_lt_z q.1 b.1
      (λ (hb : q.1 <ℤ b.1). omega (arith, linear, x, y, z, w, left_up a.1 b.1 q.1 (turn a b q) first ha hb))
      (λ (hb : b.1 ≤ℤ q.1). by_lt_z q.1 c.1
      (λ (hc : q.1 <ℤ c.1). omega (arith, linear, x, y, z, w, left_up b.1 c.1 q.1 (turn b c q) second hb hc))
      (λ (hc : c.1 ≤ℤ q.1). by_lt_z q.1 d.1
      (λ (hd : q.1 <ℤ d.1). omega (arith, linear, x, y, z, w, left_up c.1 d.1 q.1 (turn c d q) third hc hd))
      (λ (hd : d.1 ≤ℤ q.1). absurd (not_below ha hb hc hd)))))
    where
      x : pos 0 ≤ℤ crossing q a b
      x = left_least a.1 b.1 q.1 (turn a b q) first

      y : pos 0 ≤ℤ crossing q b c
      y = left_least b.1 c.1 q.1 (turn b c q) second

      z : pos 0 ≤ℤ crossing q c d
      z = left_least c.1 d.1 q.1 (turn c d q) third

      w : pos 0 ≤ℤ crossing q d a
      w = left_least d.1 a.1 q.1 (turn d a q) fourth

  ahead_of_four : pos 0 ≤ℤ turn a b d
  ahead_of_four = omega (arith, linear, ahead_at q a b c d (fourth_is a b c d ex ey), first, third)

  parallelogram_once : crossing q a b +ℤ (crossing q b c +ℤ (crossing q c d +ℤ crossing q d a)) ≡ pos 1
  parallelogram_once =
      one_of_bit (crossing q a b +ℤ (crossing q b c +ℤ (crossing q c d +ℤ crossing q d a)))
      (parallelogram_bit q a b c d ex ey ahead_of_four) some_of_four

middle_refined : (m : ℕ) (a b c d : ℤ) → a +ℤ c ≡ b +ℤ d → (pos m *ℤ a) +ℤ (pos m *ℤ c) ≡ (pos m *ℤ b) +ℤ (pos m *ℤ d)
middle_refined m a b c d e =
    omega (arith, linear, mul_add (pos m) a c, mul_add (pos m) b d, ap (λ (x : ℤ). pos m *ℤ x) e)

-- a parallelogram, given by its corners in order, holds each point to the left of its four sides
pub parallelogram_holds : (m : ℕ) (q a b c d : Point) → plus a c ≡ plus b d →
    pos 0 <ℤ turn (refined m a) (refined m b) q → pos 0 <ℤ turn (refined m b) (refined m c) q →
    pos 0 <ℤ turn (refined m c) (refined m d) q → pos 0 <ℤ turn (refined m d) (refined m a) q →
    winding m q (boundary (a ∷ b ∷ c ∷ d ∷ [])) ≡ pos 1
parallelogram_holds m q a b c d e first second third fourth =
    omega (
      arith,
      linear,
      parallelogram_once q (refined m a) (refined m b) (refined m c) (refined m d)
          (middle_refined m a.0 b.0 c.0 d.0 (ap (λ (p : Point). p.0) e))
          (middle_refined m a.1 b.1 c.1 d.1 (ap (λ (p : Point). p.1) e)) first second third fourth,
    )

-- ---- the piece of a section, which a vector moves to its right and its left

abbrev right_of : PointExpr → PointExpr → PointExpr
right_of p s = (p.0 ⊕ s.1, p.1 ⊕ neg s.0)

abbrev left_of : PointExpr → PointExpr → PointExpr
left_of p s = (p.0 ⊖ s.1, p.1 ⊖ neg s.0)

right_turn : (m : ℕ) (q a b s : Point) →
    turn (refined m (plus a (right_quarter s))) (refined m (plus b (right_quarter s))) q ≡
    pos m *ℤ ((pos m *ℤ dot s (minus b a)) +ℤ cross (minus b a) (minus q (refined m a)))
right_turn m q a b s =
    let scaled = λ (p : PointExpr). scaled_point_expr (var 8) p in
    let v = apart (point_var 2) (point_var 1) in
    ring (coordinates (q ∷ a ∷ b ∷ s ∷ []) (pos m ∷ []))
    (turned (scaled (right_of (point_var 1) (point_var 3))) (scaled (right_of (point_var 2) (point_var 3))) (point_var 0))
    (var 8 ⊗ ((var 8 ⊗ dot_of (var 6) (var 7) v.0 v.1) ⊕ crossed v (apart (point_var 0) (scaled (point_var 1)))))
    refl

left_turn : (m : ℕ) (q a b s : Point) →
    turn (refined m (minus b (right_quarter s))) (refined m (minus a (right_quarter s))) q ≡
    pos m *ℤ ((pos m *ℤ dot s (minus b a)) -ℤ cross (minus b a) (minus q (refined m a)))
left_turn m q a b s =
    let scaled = λ (p : PointExpr). scaled_point_expr (var 8) p in
    let v = apart (point_var 2) (point_var 1) in
    ring (coordinates (q ∷ a ∷ b ∷ s ∷ []) (pos m ∷ []))
    (turned (scaled (left_of (point_var 2) (point_var 3))) (scaled (left_of (point_var 1) (point_var 3))) (point_var 0))
    (var 8 ⊗ ((var 8 ⊗ dot_of (var 6) (var 7) v.0 v.1) ⊖ crossed v (apart (point_var 0) (scaled (point_var 1)))))
    refl

over_turn : (m : ℕ) (q p s : Point) →
    turn (refined m (minus p (right_quarter s))) (refined m (plus p (right_quarter s))) q ≡
    pos m *ℤ (dot s (minus q (refined m p)) +ℤ dot s (minus q (refined m p)))
over_turn m q p s =
    let scaled = λ (x : PointExpr). scaled_point_expr (var 6) x in
    let u = apart (point_var 0) (scaled (point_var 1)) in
    let along = dot_of (var 4) (var 5) u.0 u.1 in
    ring (coordinates (q ∷ p ∷ s ∷ []) (pos m ∷ []))
    (turned (scaled (left_of (point_var 1) (point_var 2))) (scaled (right_of (point_var 1) (point_var 2))) (point_var 0))
    (var 6 ⊗ (along ⊕ along))
    refl

corners_balance : (a b s : Point) →
    plus (plus a (right_quarter s)) (minus b (right_quarter s)) ≡ plus (plus b (right_quarter s)) (minus a (right_quarter s))
corners_balance a b s =
    let x : (a.0 +ℤ s.1) +ℤ (b.0 -ℤ s.1) ≡ (b.0 +ℤ s.1) +ℤ (a.0 -ℤ s.1) = omega (arith, linear) in
    let y : (a.1 +ℤ neg_ℤ s.0) +ℤ (b.1 -ℤ neg_ℤ s.0) ≡ (b.1 +ℤ neg_ℤ s.0) +ℤ (a.1 -ℤ neg_ℤ s.0) =
    omega (arith, linear) in
    λ i. (x i, y i)

-- the piece of a section from `a` to `b` holds each point that lies between the ends and nearer to the section than its sides
pub section_holds : (m : ℕ) (q a b s : Point) → 0 < m → pos 0 <ℤ dot s (minus q (refined m a)) →
    dot s (minus q (refined m b)) <ℤ pos 0 →
    pos 0 <ℤ ((pos m *ℤ dot s (minus b a)) +ℤ cross (minus b a) (minus q (refined m a))) →
    pos 0 <ℤ ((pos m *ℤ dot s (minus b a)) -ℤ cross (minus b a) (minus q (refined m a))) →
    winding m q
    (boundary
    (plus a (right_quarter s) ∷ plus b (right_quarter s) ∷ minus b (right_quarter s) ∷ minus a (right_quarter s) ∷ []))
    ≡ pos 1
section_holds m q a b s positive after before left right =
    parallelogram_holds m q (plus a (right_quarter s)) (plus b (right_quarter s)) (minus b (right_quarter s))
    (minus a (right_quarter s)) (corners_balance a b s)
    (omega (arith, linear, right_turn m q a b s, mul_pos (pos m) _ some left))
    (omega (
      arith,
      linear,
      turn_flip (refined m (minus b (right_quarter s))) (refined m (plus b (right_quarter s))) q,
      over_turn m q b s,
      mul_pos_neg (pos m) (dot s (minus q (refined m b)) +ℤ dot s (minus q (refined m b))) some
          (omega (arith, linear, before)),
    ))
    (omega (arith, linear, left_turn m q a b s, mul_pos (pos m) _ some right))
    (omega (
      arith,
      linear,
      over_turn m q a s,
      mul_pos (pos m) (dot s (minus q (refined m a)) +ℤ dot s (minus q (refined m a))) some
          (omega (arith, linear, after)),
    ))
  where
    some : pos 0 <ℤ pos m
    some = omega (arith, ints, positive)

-- from each point of the line through a section, another lies as far to the side
pub aside_from : (m : ℕ) (q a b c : Point) → 0 < m → turn (refined m a) (refined m b) c ≡ pos 0 →
    cross (minus b a) (minus q (refined m a)) ≡ cross (minus b a) (minus q c)
aside_from m q a b c positive on =
    omega (arith, linear, parts, mul_cancel (pos m) (cross (minus b a) (minus c (refined m a))) (pos 0) some none)
  where
    some : pos 0 <ℤ pos m
    some = omega (arith, ints, positive)

    parts : cross (minus b a) (minus q (refined m a)) ≡
        cross (minus b a) (minus q c) +ℤ cross (minus b a) (minus c (refined m a))
    parts =
        let a' = scaled_point_expr (var 8) (point_var 1) in
        let v = apart (point_var 2) (point_var 1) in
        ring (coordinates (q ∷ a ∷ b ∷ c ∷ []) (pos m ∷ [])) (crossed v (apart (point_var 0) a'))
        (crossed v (apart (point_var 0) (point_var 3)) ⊕ crossed v (apart (point_var 3) a'))
        refl

    none : pos m *ℤ cross (minus b a) (minus c (refined m a)) ≡ pos m *ℤ pos 0
    none =
        let scaled = λ (p : PointExpr). scaled_point_expr (var 6) p in
        let same : turn (refined m a) (refined m b) c ≡ pos m *ℤ cross (minus b a) (minus c (refined m a)) =
        ring (coordinates (a ∷ b ∷ c ∷ []) (pos m ∷ []))
        (turned (scaled (point_var 0)) (scaled (point_var 1)) (point_var 2))
        (var 6 ⊗ crossed (apart (point_var 1) (point_var 0)) (apart (point_var 2) (scaled (point_var 0))))
        refl in
        omega (arith, linear, same, on, mul_zero (pos m))

-- the number with the lesser square is less than one that is not negative
below_by_squares : (a b : ℤ) → pos 0 ≤ℤ b → (a *ℤ a) <ℤ (b *ℤ b) → a <ℤ b
below_by_squares a b least h = by_lt_z a b (λ (l : a <ℤ b). l) (λ (l : b ≤ℤ a). absurd (none l))
  where
    none : b ≤ℤ a → ⊥
    none l =
        omega (
          arith,
          linear,
          h,
          mul_le_mul_left b b a least l,
          mul_le_mul_left a b a (omega (arith, linear, least, l)) l,
          *ℤ_comm a b,
        )

-- a vector's part `c` to the side of one with the square `v` is short for `d` where the vector's square `w` is
aside_short : (t m d c v w : ℤ) → (c *ℤ c) ≤ℤ (v *ℤ w) → pos 0 <ℤ v → (w +ℤ w) <ℤ (t *ℤ (m *ℤ m)) →
    (t *ℤ v) ≤ℤ ((d *ℤ d) +ℤ (d *ℤ d)) → (c *ℤ c) <ℤ ((m *ℤ d) *ℤ (m *ℤ d))
aside_short t m d c v w short some near wide =
    omega (
      arith,
      linear,
      short,
      mul_add v w w,
      mul_lt_mul_left v (w +ℤ w) (t *ℤ (m *ℤ m)) some near,
      order,
      mul_le_mul_left (m *ℤ m) (t *ℤ v) ((d *ℤ d) +ℤ (d *ℤ d)) (square_nonneg m) wide,
      square,
    )
  where
    order : v *ℤ (t *ℤ (m *ℤ m)) ≡ (m *ℤ m) *ℤ (t *ℤ v)
    order =
        ring (v ∷ t ∷ m ∷ []) (var 0 ⊗ (var 1 ⊗ (var 2 ⊗ var 2))) ((var 2 ⊗ var 2) ⊗ (var 1 ⊗ var 0)) refl

    square : (m *ℤ m) *ℤ ((d *ℤ d) +ℤ (d *ℤ d)) ≡ ((m *ℤ d) *ℤ (m *ℤ d)) +ℤ ((m *ℤ d) *ℤ (m *ℤ d))
    square =
        ring (m ∷ d ∷ []) ((var 0 ⊗ var 0) ⊗ ((var 1 ⊗ var 1) ⊕ (var 1 ⊗ var 1)))
        (((var 0 ⊗ var 1) ⊗ (var 0 ⊗ var 1)) ⊕ ((var 0 ⊗ var 1) ⊗ (var 0 ⊗ var 1)))
        refl

pub twice_below : (n l : ℕ) (x : ℤ) → 2 * l < n → x ≡ pos l → (x +ℤ x) <ℤ pos n
twice_below n l x h e = omega (arith, ints)

pub twice_least : (n l : ℕ) (y x : ℤ) → n ≤ 2 * l → y ≡ pos n → x ≡ pos l → y ≤ℤ (x +ℤ x)
twice_least n l y x h e f = omega (arith, ints)

-- a point near to a section with sides far enough lies before both sides
pub before_sides : (t m : ℕ) (s v w : Point) → IsWideEnough t s v → pos 0 ≤ℤ dot s v → 0 < length_sq v →
    2 * length_sq w < t * (m * m) →
    (pos 0 <ℤ ((pos m *ℤ dot s v) +ℤ cross v w)) × (pos 0 <ℤ ((pos m *ℤ dot s v) -ℤ cross v w))
before_sides t m s v w wide ahead some near =
    let left : neg_ℤ (cross v w) <ℤ (pos m *ℤ dot s v) =
    below_by_squares (neg_ℤ (cross v w)) (pos m *ℤ dot s v) least
    (omega (arith, linear, less, neg_mul_neg (cross v w) (cross v w))) in
    let right : cross v w <ℤ (pos m *ℤ dot s v) = below_by_squares (cross v w) (pos m *ℤ dot s v) least less in
    (omega (arith, linear, left), omega (arith, linear, right))
  where
    least : pos 0 ≤ℤ (pos m *ℤ dot s v)
    least = mul_nonneg (pos m) (dot s v) (omega (arith, ints)) ahead

    less : (cross v w *ℤ cross v w) <ℤ ((pos m *ℤ dot s v) *ℤ (pos m *ℤ dot s v))
    less =
        aside_short (pos t) (pos m) (dot s v) (cross v w) (dot v v) (dot w w)
        (omega (arith, linear, lagrange v w, square_nonneg (dot v w)))
        (let e = dot_self v in omega (arith, ints, e, some))
        (twice_below (t * (m * m)) (length_sq w) (dot w w) near (dot_self w))
        (twice_least (t * length_sq v) (unsigned_abs (dot s v) * unsigned_abs (dot s v)) (pos t *ℤ dot v v)
        (dot s v *ℤ dot s v) wide (ap (λ (x : ℤ). pos t *ℤ x) (dot_self v)) (size_square (dot s v)))

-- a piece holds what it winds round once
pub held_once : (m : ℕ) (q : Point) (piece : List Point) → winding m q (boundary piece) ≡ pos 1 → IsTrue (holds m q piece)
held_once m q piece e = ap (λ (x : ℤ). not (int_eq x (pos 0))) e
