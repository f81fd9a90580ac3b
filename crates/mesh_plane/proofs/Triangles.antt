-- Lemmas over points and lists: the boundary of a triangle or a parallelogram winds 0 or 1 times round any point.
use Rattle.std.proofs.Common.{[], ◌∷◌, ◌≡◌, ℕ, ◌⊎◌, inl, inr, sym, ◌∙◌, ap, arith}
use Rattle.std.specs.Prelude.{ℤ, pos, negsuc, ◌+ℤ◌, ◌-ℤ◌, ◌*ℤ◌, ◌≤ℤ◌, neg_ℤ}
use lib.Signed.{◌<ℤ◌}
use Rattle.std.proofs.lemmas.Int.{ints, by_lt_z}
use Rattle.mesh_plane.specs.Plane.{Point, turn}
use Rattle.mesh_plane.specs.Winding.{crossing, refined, crossing_on, winding, boundary, IsBit}
use Rattle.mesh_plane.proofs.Whole.{linear, multiplied, mul_add, mul_neg, neg_mul, mul_nonneg, mul_pos}
use Rattle.mesh_plane.proofs.Crossings.{crossing_low, crossing_high, crossing_up, crossing_down, crossing_odd, turn_cycle, turn_swap, turn_refined_flat, turn_refined_left, turn_refined_right, crossing_rises}

-- the turns of a point from two edges at `p`, weighed by heights, make the turn of the edges
weights_of : (a b c d e f : ℤ) →
    (d *ℤ ((a *ℤ f) -ℤ (b *ℤ e))) +ℤ (b *ℤ ((d *ℤ e) -ℤ (c *ℤ f))) ≡ f *ℤ ((a *ℤ d) -ℤ (b *ℤ c))
weights_of a b c d e f = simp multiplied (omega (arith, linear))

turn_from : (s p q : Point) →
    turn s p q ≡ ((s.1 -ℤ p.1) *ℤ (q.0 -ℤ p.0)) -ℤ ((s.0 -ℤ p.0) *ℤ (q.1 -ℤ p.1))
turn_from s p q = simp multiplied (omega (arith, linear))

weights : (p r s q : Point) →
    ((s.1 -ℤ p.1) *ℤ turn p r q) +ℤ ((r.1 -ℤ p.1) *ℤ turn s p q) ≡ (q.1 -ℤ p.1) *ℤ turn p r s
weights p r s q =
    rw (turn_from s p q) (weights_of (r.0 -ℤ p.0) (r.1 -ℤ p.1) (s.0 -ℤ p.0) (s.1 -ℤ p.1) (q.0 -ℤ p.0) (q.1 -ℤ p.1))

weigh : (d t b s f o : ℤ) → (d *ℤ t) +ℤ (b *ℤ s) ≡ f *ℤ o → pos 0 ≤ℤ d → pos 0 <ℤ b → pos 0 ≤ℤ f → pos 0 ≤ℤ o → t ≤ℤ pos 0 → s <ℤ pos 0 → ⊥
weigh d t b s f o e hd hb hf ho ht hs =
    omega (
      arith,
      linear,
      mul_nonneg d (neg_ℤ t) hd (omega (arith, linear)),
      mul_neg d t,
      mul_pos b (neg_ℤ s) hb (omega (arith, linear)),
      mul_neg b s,
      mul_nonneg f o hf ho,
    )

below : (p r s q : Point) → pos 0 ≤ℤ turn p r s → p.1 ≤ℤ q.1 → q.1 <ℤ r.1 → q.1 <ℤ s.1 → turn p r q ≤ℤ pos 0 → turn s p q <ℤ pos 0 → ⊥
below p r s q o hp hr hs h k =
    weigh (s.1 -ℤ p.1) (turn p r q) (r.1 -ℤ p.1) (turn s p q) (q.1 -ℤ p.1) (turn p r s) (weights p r s q)
    (omega (arith, linear)) (omega (arith, linear)) (omega (arith, linear)) o h k

above : (p r s q : Point) → pos 0 ≤ℤ turn p r s → q.1 <ℤ p.1 → r.1 ≤ℤ q.1 → s.1 ≤ℤ q.1 → turn s p q ≤ℤ pos 0 → turn p r q <ℤ pos 0 → ⊥
above p r s q o hp hr hs h k =
    weigh (neg_ℤ (r.1 -ℤ p.1)) (turn s p q) (neg_ℤ (s.1 -ℤ p.1)) (turn p r q) (neg_ℤ (q.1 -ℤ p.1)) (turn p r s)
    (turned (s.1 -ℤ p.1) (turn p r q) (r.1 -ℤ p.1) (turn s p q) (q.1 -ℤ p.1) (turn p r s) (weights p r s q))
    (omega (arith, linear)) (omega (arith, linear)) (omega (arith, linear)) o h k
  where
    turned : (d t b u f o : ℤ) → (d *ℤ t) +ℤ (b *ℤ u) ≡ f *ℤ o → (neg_ℤ b *ℤ u) +ℤ (neg_ℤ d *ℤ t) ≡ neg_ℤ f *ℤ o
    turned d t b u f o e = omega (arith, linear, neg_mul b u, neg_mul d t, neg_mul f o)

-- one edge upwards, one downwards, one that doesn't cross
one_each : (x y z t v m : ℤ) → m ≡ x +ℤ (y +ℤ z) →
    ((x ≡ pos 1) × (pos 0 <ℤ t)) ⊎ ((x ≡ pos 0) × (t ≤ℤ pos 0)) →
    ((y ≡ negsuc 0) × (v <ℤ pos 0)) ⊎ ((y ≡ pos 0) × (pos 0 ≤ℤ v)) →
    z ≡ pos 0 → (t ≤ℤ pos 0 → v <ℤ pos 0 → ⊥) → IsBit m
one_each x y z t v m e hx hy hz no_both = grind (arith, ints)

alone_low : (q p r s : Point) (m : ℤ) → m ≡ crossing q p r +ℤ (crossing q s p +ℤ crossing q r s) →
    pos 0 ≤ℤ turn p r s → p.1 ≤ℤ q.1 → q.1 <ℤ r.1 → q.1 <ℤ s.1 → IsBit m
alone_low q p r s m e o hp hr hs =
    one_each (crossing q p r) (crossing q s p) (crossing q r s) (turn p r q) (turn s p q) m e
    (crossing_up p.1 r.1 q.1 (turn p r q) hp hr) (crossing_down s.1 p.1 q.1 (turn s p q) hs hp)
    (crossing_high r.1 s.1 q.1 (turn r s q) hr hs) (below p r s q o hp hr hs)

alone_high : (q p r s : Point) (m : ℤ) → m ≡ crossing q s p +ℤ (crossing q p r +ℤ crossing q r s) →
    pos 0 ≤ℤ turn p r s → q.1 <ℤ p.1 → r.1 ≤ℤ q.1 → s.1 ≤ℤ q.1 → IsBit m
alone_high q p r s m e o hp hr hs =
    one_each (crossing q s p) (crossing q p r) (crossing q r s) (turn s p q) (turn p r q) m e
    (crossing_up s.1 p.1 q.1 (turn s p q) hs hp) (crossing_down p.1 r.1 q.1 (turn p r q) hp hr)
    (crossing_low r.1 s.1 q.1 (turn r s q) hr hs) (above p r s q o hp hr hs)

pub equal_bit : (x y : ℤ) → IsBit x → x ≡ y → IsBit y
equal_bit x y b e = rw (← e) b

level : (x y z : ℤ) → x ≡ pos 0 → y ≡ pos 0 → z ≡ pos 0 → IsBit (x +ℤ (y +ℤ z))
level x y z a b c = inl (omega (arith, linear))

pub triangle_bit : (q p r s : Point) → pos 0 ≤ℤ turn p r s → IsBit (crossing q p r +ℤ (crossing q r s +ℤ crossing q s p))
triangle_bit q p r s o =
    let m = crossing q p r +ℤ (crossing q r s +ℤ crossing q s p) in
    let o2 : pos 0 ≤ℤ turn r s p = rw (← (turn_cycle p r s)) o in
    let o3 : pos 0 ≤ℤ turn s p r = rw (← (turn_cycle r s p)) o2 in
    by_lt_z q.1 p.1
    (λ hp. by_lt_z q.1 r.1
    (λ hr. by_lt_z q.1 s.1
    (λ hs. level (crossing q p r) (crossing q r s) (crossing q s p) (crossing_high p.1 r.1 q.1 (turn p r q) hp hr) (crossing_high r.1 s.1 q.1 (turn r s q) hr hs) (crossing_high s.1 p.1 q.1 (turn s p q) hs hp))
    (λ hs. alone_low q s p r m (omega (arith, linear)) o3 hs hp hr))
    (λ hr. by_lt_z q.1 s.1
    (λ hs. alone_low q r s p m (omega (arith, linear)) o2 hr hs hp)
    (λ hs. alone_high q p r s m (omega (arith, linear)) o hp hr hs)))
    (λ hp. by_lt_z q.1 r.1
    (λ hr. by_lt_z q.1 s.1
    (λ hs. alone_low q p r s m (omega (arith, linear)) o hp hr hs)
    (λ hs. alone_high q r s p m (omega (arith, linear)) o2 hr hs hp))
    (λ hr. by_lt_z q.1 s.1
    (λ hs. alone_high q s p r m (omega (arith, linear)) o3 hs hp hr)
    (λ hs. level (crossing q p r) (crossing q r s) (crossing q s p) (crossing_low p.1 r.1 q.1 (turn p r q) hp hr) (crossing_low r.1 s.1 q.1 (turn r s q) hr hs) (crossing_low s.1 p.1 q.1 (turn s p q) hs hp))))

pub triangle_opposite_bit : (q p r s : Point) → turn p r s ≤ℤ pos 0 → IsBit (neg_ℤ (crossing q p r +ℤ (crossing q r s +ℤ crossing q s p)))
triangle_opposite_bit q p r s o =
    equal_bit (crossing q p s +ℤ (crossing q s r +ℤ crossing q r p)) (neg_ℤ (crossing q p r +ℤ (crossing q r s +ℤ crossing q s p)))
    (triangle_bit q p s r (omega (arith, linear, turn_swap p r s)))
    (omega (arith, linear, crossing_odd q p s, crossing_odd q s r, crossing_odd q r p))

pub triangle_flat : (q p r s : Point) → turn p r s ≡ pos 0 → crossing q p r +ℤ (crossing q r s +ℤ crossing q s p) ≡ pos 0
triangle_flat q p r s e =
    none (crossing q p r +ℤ (crossing q r s +ℤ crossing q s p)) (triangle_bit q p r s (omega (arith, linear))) (triangle_opposite_bit q p r s (omega (arith, linear)))
  where
    none : (x : ℤ) → IsBit x → IsBit (neg_ℤ x) → x ≡ pos 0
    none x b c = grind (arith, ints)

-- a point on the line through the ends of an edge, also beyond them
pub crossing_straight : (q p r s : Point) → turn p r s ≡ pos 0 → crossing q p r +ℤ crossing q r s ≡ crossing q p s
crossing_straight q p r s e = omega (arith, linear, triangle_flat q p r s e, crossing_odd q s p)

pub crossing_on_straight : (m : ℕ) (q p r s : Point) → turn p r s ≡ pos 0 → crossing_on m q p r +ℤ crossing_on m q r s ≡ crossing_on m q p s
crossing_on_straight m q p r s e = crossing_straight q (refined m p) (refined m r) (refined m s) (turn_refined_flat m p r s e)

-- no two edges of a parallelogram rise past one height
abbrev Rises : ℤ → ℤ → ℤ → ℤ → Type 0
Rises x a b h = (x ≤ℤ pos 0) ⊎ ((a ≤ℤ h) × (h <ℤ b))

one_rises : (x y z w a b c d h : ℤ) → a +ℤ c ≡ b +ℤ d → x ≤ℤ pos 1 → y ≤ℤ pos 1 → z ≤ℤ pos 1 → w ≤ℤ pos 1 →
    Rises x a b h → Rises y b c h → Rises z c d h → Rises w d a h → (x +ℤ (y +ℤ (z +ℤ w))) ≤ℤ pos 1
one_rises x y z w a b c d h middle lx ly lz lw (inl rx) (inl ry) (inl rz) s = omega (arith, linear)
one_rises x y z w a b c d h middle lx ly lz lw (inl rx) (inl ry) (inr rz) (inl s) = omega (arith, linear)
one_rises x y z w a b c d h middle lx ly lz lw (inl rx) (inl ry) (inr rz) (inr s) = absurd (omega (arith, linear))
one_rises x y z w a b c d h middle lx ly lz lw (inl rx) (inr ry) (inl rz) (inl s) = omega (arith, linear)
one_rises x y z w a b c d h middle lx ly lz lw (inl rx) (inr ry) (inl rz) (inr s) = absurd (omega (arith, linear))
one_rises x y z w a b c d h middle lx ly lz lw (inl rx) (inr ry) (inr rz) s = absurd (omega (arith, linear))
one_rises x y z w a b c d h middle lx ly lz lw (inr rx) (inl ry) (inl rz) (inl s) = omega (arith, linear)
one_rises x y z w a b c d h middle lx ly lz lw (inr rx) (inl ry) (inl rz) (inr s) = absurd (omega (arith, linear))
one_rises x y z w a b c d h middle lx ly lz lw (inr rx) (inl ry) (inr rz) s = absurd (omega (arith, linear))
one_rises x y z w a b c d h middle lx ly lz lw (inr rx) (inr ry) r s = absurd (omega (arith, linear))

two_bits : (m x y : ℤ) → IsBit x → IsBit y → m ≡ x +ℤ y → m ≤ℤ pos 1 → IsBit m
two_bits m x y bx b e h = grind (arith, ints)

turn_over : (a b c d : Point) → a.0 +ℤ c.0 ≡ b.0 +ℤ d.0 → a.1 +ℤ c.1 ≡ b.1 +ℤ d.1 → turn a b c ≡ turn a b d
turn_over a b c d ex ey =
    let cx : c.0 ≡ (b.0 +ℤ d.0) -ℤ a.0 = omega (arith, linear) in
    let cy : c.1 ≡ (b.1 +ℤ d.1) -ℤ a.1 = omega (arith, linear) in
    simp (cx, cy, multiplied) (omega (arith, linear))

turn_under : (a b c d : Point) → a.0 +ℤ c.0 ≡ b.0 +ℤ d.0 → a.1 +ℤ c.1 ≡ b.1 +ℤ d.1 → turn a c d ≡ turn a b d
turn_under a b c d ex ey =
    let cx : c.0 ≡ (b.0 +ℤ d.0) -ℤ a.0 = omega (arith, linear) in
    let cy : c.1 ≡ (b.1 +ℤ d.1) -ℤ a.1 = omega (arith, linear) in
    simp (cx, cy, multiplied) (omega (arith, linear))

pub parallelogram_bit : (q a b c d : Point) → a.0 +ℤ c.0 ≡ b.0 +ℤ d.0 → a.1 +ℤ c.1 ≡ b.1 +ℤ d.1 → pos 0 ≤ℤ turn a b d →
    IsBit (crossing q a b +ℤ (crossing q b c +ℤ (crossing q c d +ℤ crossing q d a)))
parallelogram_bit q a b c d ex ey o =
    let first = crossing_rises a.1 b.1 q.1 (turn a b q) in
    let second = crossing_rises b.1 c.1 q.1 (turn b c q) in
    let third = crossing_rises c.1 d.1 q.1 (turn c d q) in
    let fourth = crossing_rises d.1 a.1 q.1 (turn d a q) in
    two_bits (crossing q a b +ℤ (crossing q b c +ℤ (crossing q c d +ℤ crossing q d a)))
    (crossing q a b +ℤ (crossing q b c +ℤ crossing q c a)) (crossing q a c +ℤ (crossing q c d +ℤ crossing q d a))
    (triangle_bit q a b c (rw (turn_over a b c d ex ey) o))
    (triangle_bit q a c d (rw (turn_under a b c d ex ey) o))
    (omega (arith, linear, crossing_odd q c a))
    (one_rises (crossing q a b) (crossing q b c) (crossing q c d) (crossing q d a) a.1 b.1 c.1 d.1 q.1 ey
    first.0 second.0 third.0 fourth.0 first.1 second.1 third.1 fourth.1)

pub parallelogram_opposite_bit : (q a b c d : Point) → a.0 +ℤ c.0 ≡ b.0 +ℤ d.0 → a.1 +ℤ c.1 ≡ b.1 +ℤ d.1 → turn a b d ≤ℤ pos 0 →
    IsBit (neg_ℤ (crossing q a b +ℤ (crossing q b c +ℤ (crossing q c d +ℤ crossing q d a))))
parallelogram_opposite_bit q a b c d ex ey o =
    equal_bit (crossing q a d +ℤ (crossing q d c +ℤ (crossing q c b +ℤ crossing q b a)))
    (neg_ℤ (crossing q a b +ℤ (crossing q b c +ℤ (crossing q c d +ℤ crossing q d a))))
    (parallelogram_bit q a d c b (omega (arith, linear)) (omega (arith, linear)) (omega (arith, linear, turn_swap a b d)))
    (omega (arith, linear, crossing_odd q a d, crossing_odd q d c, crossing_odd q c b, crossing_odd q b a))

-- the same for the boundaries of pieces, on every grid
pub triangle_winds : (m : ℕ) (q p r s : Point) → pos 0 ≤ℤ turn p r s → IsBit (winding m q (boundary (p ∷ r ∷ s ∷ [])))
triangle_winds m q p r s o =
    equal_bit (crossing_on m q p r +ℤ (crossing_on m q r s +ℤ crossing_on m q s p)) (winding m q (boundary (p ∷ r ∷ s ∷ [])))
    (triangle_bit q (refined m p) (refined m r) (refined m s) (turn_refined_left m p r s o)) (omega (arith, linear))

pub triangle_winds_back : (m : ℕ) (q p r s : Point) → turn p r s ≤ℤ pos 0 → IsBit (neg_ℤ (winding m q (boundary (p ∷ r ∷ s ∷ []))))
triangle_winds_back m q p r s o =
    equal_bit (neg_ℤ (crossing_on m q p r +ℤ (crossing_on m q r s +ℤ crossing_on m q s p))) (neg_ℤ (winding m q (boundary (p ∷ r ∷ s ∷ []))))
    (triangle_opposite_bit q (refined m p) (refined m r) (refined m s) (turn_refined_right m p r s o)) (omega (arith, linear))

-- four points are the corners of a parallelogram, in order
middle_refined : (m : ℕ) (a b c d : ℤ) → a +ℤ c ≡ b +ℤ d → (pos m *ℤ a) +ℤ (pos m *ℤ c) ≡ (pos m *ℤ b) +ℤ (pos m *ℤ d)
middle_refined m a b c d e = sym (mul_add (pos m) a c) ∙ (ap (λ (x : ℤ). pos m *ℤ x) e ∙ mul_add (pos m) b d)

pub parallelogram_winds : (m : ℕ) (q a b c d : Point) → a.0 +ℤ c.0 ≡ b.0 +ℤ d.0 → a.1 +ℤ c.1 ≡ b.1 +ℤ d.1 → pos 0 ≤ℤ turn a b d →
    IsBit (winding m q (boundary (a ∷ b ∷ c ∷ d ∷ [])))
parallelogram_winds m q a b c d ex ey o =
    equal_bit (crossing_on m q a b +ℤ (crossing_on m q b c +ℤ (crossing_on m q c d +ℤ crossing_on m q d a))) (winding m q (boundary (a ∷ b ∷ c ∷ d ∷ [])))
    (parallelogram_bit q (refined m a) (refined m b) (refined m c) (refined m d)
    (middle_refined m a.0 b.0 c.0 d.0 ex) (middle_refined m a.1 b.1 c.1 d.1 ey) (turn_refined_left m a b d o))
    (omega (arith, linear))

pub parallelogram_winds_back : (m : ℕ) (q a b c d : Point) → a.0 +ℤ c.0 ≡ b.0 +ℤ d.0 → a.1 +ℤ c.1 ≡ b.1 +ℤ d.1 → turn a b d ≤ℤ pos 0 →
    IsBit (neg_ℤ (winding m q (boundary (a ∷ b ∷ c ∷ d ∷ []))))
parallelogram_winds_back m q a b c d ex ey o =
    equal_bit (neg_ℤ (crossing_on m q a b +ℤ (crossing_on m q b c +ℤ (crossing_on m q c d +ℤ crossing_on m q d a)))) (neg_ℤ (winding m q (boundary (a ∷ b ∷ c ∷ d ∷ []))))
    (parallelogram_opposite_bit q (refined m a) (refined m b) (refined m c) (refined m d)
    (middle_refined m a.0 b.0 c.0 d.0 ex) (middle_refined m a.1 b.1 c.1 d.1 ey) (turn_refined_right m a b d o))
    (omega (arith, linear))

pub flat_triangle_winds : (m : ℕ) (q p r s : Point) → turn p r s ≡ pos 0 → winding m q (boundary (p ∷ r ∷ s ∷ [])) ≡ pos 0
flat_triangle_winds m q p r s e = omega (arith, linear, triangle_flat q (refined m p) (refined m r) (refined m s) (turn_refined_flat m p r s e))
