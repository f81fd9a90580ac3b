-- Lemmas over whole numbers and points: the order of directions round a point, counterclockwise from the east.
use Rattle.std.proofs.Common.{◌≡◌, ◌⊎◌, ⊎_elim, inl, inr, Bool, true, false, cond, ◌&&◌, ◌||◌, not, [], ◌∷◌, refl, sym, ◌∙◌, ap, subst, arith}
use Rattle.std.specs.Prelude.{ℤ, pos, neg_ℤ, ◌+ℤ◌, ◌-ℤ◌, ◌*ℤ◌, ◌≤ℤ◌, ◌<ℤ◌, int_lt}
use Rattle.std.proofs.lemmas.Int.{ints, by_lt_z}
use Rattle.mesh_plane.specs.Plane.{Point, turn}
use Rattle.mesh_plane.proofs.Whole.{linear, mul_le_mul_left, mul_one, mul_zero, mul_pos, mul_pos_neg, mul_both_neg, mul_nonpos, mul_nonpos_nonneg, mul_assoc, mul_nonneg, neg_mul, neg_mul_neg, square_nonneg}
use Rattle.mesh_plane.proofs.Ring.{ring, var, ◌⊕◌, ◌⊖◌, ◌⊗◌, lit, neg}
use Rattle.mesh_plane.proofs.PointExprs.{point_var, coordinates, turned}
use Rattle.mesh_plane.proofs.Comparing.{less_test, not_less_test}
use Rattle.mesh_plane.proofs.Crossings.{turn_swap}
use Rattle.mesh_plane.proofs.Grids.{part}
use Rattle.mesh_lattice.proofs.Boxes.{turn_end}
use Rattle.mesh_regions.specs.Star.{comes_before, AreCounterclockwise}
use Rattle.mesh_lattice.specs.Boundary.{rises}
use Rattle.mesh_lattice.specs.Counted.{bit}
use Rattle.mesh_lattice.proofs.SidesBack.{rises_up, rises_flat}

-- above 0, or below it
abbrev Signed : Bool → ℤ → Type 0
Signed true z = pos 0 <ℤ z
Signed false z = z <ℤ pos 0

-- ---- a number that is above 0 where the way from `v` to `x` rises, and below where it does not: the height above a line
-- through `v` that rises to the east by 1 in `m`
abbrev tilt : ℤ → Point → Point → ℤ
tilt m v x = (m *ℤ (x.1 -ℤ v.1)) -ℤ (x.0 -ℤ v.0)

-- the line is flat enough for the way from `v` to `x`
abbrev IsFlat : ℤ → Point → Point → Type 0
IsFlat m v x = ((x.0 -ℤ v.0) <ℤ m) × (neg_ℤ (x.0 -ℤ v.0) <ℤ m)

record Flat (v x y z : Point) : Type 0 where
  pub by : ℤ
  pub first : IsFlat by v x
  pub second : IsFlat by v y
  pub third : IsFlat by v z

square_above : (a : ℤ) → (a ≤ℤ (a *ℤ a)) × (neg_ℤ a ≤ℤ (a *ℤ a))
square_above a =
    by_lt_z (pos 0) a
    (λ (h : pos 0 <ℤ a). let l = mul_le_mul_left a (pos 1) a (omega (arith, linear)) (omega (arith, ints)) in (omega (arith, linear, mul_one a), omega (arith, linear, mul_one a)))
    (λ (h : a ≤ℤ pos 0).
    by_lt_z a (pos 0)
    (λ (k : a <ℤ pos 0). let l = below a k in let n = square_nonneg a in (omega (arith, linear), l))
    (λ (k : pos 0 ≤ℤ a). let n = square_nonneg a in (omega (arith, linear), omega (arith, linear))))
  where
    below : (a : ℤ) → a <ℤ pos 0 → neg_ℤ a ≤ℤ (a *ℤ a)
    below a h =
        let l : (neg_ℤ a *ℤ pos 1) ≤ℤ (neg_ℤ a *ℤ neg_ℤ a) = mul_le_mul_left (neg_ℤ a) (pos 1) (neg_ℤ a) (omega (arith, linear)) (omega (arith, ints)) in
        omega (arith, linear, mul_one (neg_ℤ a), neg_mul_neg a a)

flat : (v x y z : Point) → Flat v x y z
flat v x y z =
    let a = square_above (x.0 -ℤ v.0) in
    let b = square_above (y.0 -ℤ v.0) in
    let c = square_above (z.0 -ℤ v.0) in
    let k = square_nonneg (x.0 -ℤ v.0) in
    let l = square_nonneg (y.0 -ℤ v.0) in
    let n = square_nonneg (z.0 -ℤ v.0) in
    record {
      by = pos 1 +ℤ ((((x.0 -ℤ v.0) *ℤ (x.0 -ℤ v.0)) +ℤ ((y.0 -ℤ v.0) *ℤ (y.0 -ℤ v.0))) +ℤ ((z.0 -ℤ v.0) *ℤ (z.0 -ℤ v.0)));
      first = (omega (arith, linear, a.0), omega (arith, linear, a.1));
      second = (omega (arith, linear, b.0), omega (arith, linear, b.1));
      third = (omega (arith, linear, c.0), omega (arith, linear, c.1));
    }

-- which way an edge from `v` to `x` goes, and whether it rises
pub data Slope (v x : Point) : Type 0 where
  upward : v.1 <ℤ x.1 → rises (v, x) ≡ true → Slope v x
  westward : v.1 ≡ x.1 → x.0 <ℤ v.0 → rises (v, x) ≡ true → Slope v x
  eastward : v.1 ≡ x.1 → v.0 <ℤ x.0 → rises (v, x) ≡ false → Slope v x
  downward : x.1 <ℤ v.1 → rises (v, x) ≡ false → Slope v x

pub slope : (v x : Point) → (v ≡ x → ⊥) → Slope v x
slope v x differ =
    by_lt_z v.1 x.1
    (λ (h : v.1 <ℤ x.1). upward h (rises_up (v, x) h).0)
    (λ (h : x.1 ≤ℤ v.1).
    by_lt_z x.1 v.1
    (λ (k : x.1 <ℤ v.1). downward k (rises_up (x, v) k).1)
    (λ (k : v.1 ≤ℤ x.1).
    let e : v.1 ≡ x.1 = omega (arith, linear) in
    by_lt_z v.0 x.0
    (λ (l : v.0 <ℤ x.0). eastward e l (rises_flat (v, x) e l).0)
    (λ (l : x.0 ≤ℤ v.0).
    by_lt_z x.0 v.0
    (λ (n : x.0 <ℤ v.0). westward e n (rises_flat (x, v) (sym e) n).1)
    (λ (n : v.0 ≤ℤ x.0). let f : v.0 ≡ x.0 = omega (arith, linear) in absurd (differ (λ i. (f i, e i)))))))

tilt_signed : (m : ℤ) (v x : Point) → IsFlat m v x → (v ≡ x → ⊥) → Signed (rises (v, x)) (tilt m v x)
tilt_signed m v x fine differ = by (slope v x differ)
  where
    level : (m a : ℤ) → m *ℤ (a -ℤ a) ≡ pos 0
    level m a = ring (m ∷ a ∷ []) (var 0 ⊗ (var 1 ⊖ var 1)) (lit (pos 0)) refl

    least : (m d : ℤ) → pos 0 ≤ℤ m → pos 0 <ℤ d → m ≤ℤ (m *ℤ d)
    least m d h k = let l = mul_le_mul_left m (pos 1) d h (omega (arith, ints)) in omega (arith, linear, mul_one m)

    above : v.1 <ℤ x.1 → pos 0 <ℤ tilt m v x
    above h = let l = least m (x.1 -ℤ v.1) (omega (arith, linear, fine.0, fine.1)) (omega (arith, linear)) in omega (arith, linear, fine.0)

    below : x.1 <ℤ v.1 → tilt m v x <ℤ pos 0
    below h =
        let l = least m (v.1 -ℤ x.1) (omega (arith, linear, fine.0, fine.1)) (omega (arith, linear)) in
        let e : m *ℤ (x.1 -ℤ v.1) ≡ neg_ℤ (m *ℤ (v.1 -ℤ x.1)) =
        ring (m ∷ v.1 ∷ x.1 ∷ []) (var 0 ⊗ (var 2 ⊖ var 1)) (neg (var 0 ⊗ (var 1 ⊖ var 2))) refl in
        omega (arith, linear, fine.1)

    none : v.1 ≡ x.1 → m *ℤ (x.1 -ℤ v.1) ≡ pos 0
    none e = ap (λ (z : ℤ). m *ℤ (x.1 -ℤ z)) e ∙ level m x.1

    by : Slope v x → Signed (rises (v, x)) (tilt m v x)
    by (upward h r) = subst (λ (b : Bool). Signed b (tilt m v x)) (sym r) (above h)
    by (westward e h r) = let z = none e in subst (λ (b : Bool). Signed b (tilt m v x)) (sym r) (omega (arith, linear))
    by (eastward e h r) = let z = none e in subst (λ (b : Bool). Signed b (tilt m v x)) (sym r) (omega (arith, linear))
    by (downward h r) = subst (λ (b : Bool). Signed b (tilt m v x)) (sym r) (below h)

-- the turns between three directions, weighed by the tilts of the third in each case, add up to none
tilts_turned : (m : ℤ) (v x y z : Point) →
    ((turn v x y *ℤ tilt m v z) +ℤ (turn v y z *ℤ tilt m v x)) +ℤ (turn v z x *ℤ tilt m v y) ≡ pos 0
tilts_turned m v x y z =
    ring (coordinates (v ∷ x ∷ y ∷ z ∷ []) (m ∷ []))
    (((turned (point_var 0) (point_var 1) (point_var 2) ⊗ ((var 8 ⊗ (var 7 ⊖ var 1)) ⊖ (var 6 ⊖ var 0)))
    ⊕ (turned (point_var 0) (point_var 2) (point_var 3) ⊗ ((var 8 ⊗ (var 3 ⊖ var 1)) ⊖ (var 2 ⊖ var 0))))
    ⊕ (turned (point_var 0) (point_var 3) (point_var 1) ⊗ ((var 8 ⊗ (var 5 ⊖ var 1)) ⊖ (var 4 ⊖ var 0))))
    (lit (pos 0))
    refl

-- ---- of three directions of which the second is left of the first and the third left of the second: the third turn's sign

weights_some : (a b k l : ℤ) → pos 0 <ℤ a → pos 0 <ℤ b → pos 0 <ℤ k → pos 0 <ℤ l → pos 0 <ℤ ((a *ℤ k) +ℤ (b *ℤ l))
weights_some a b k l ha hb hk hl = omega (arith, linear, mul_pos a k ha hk, mul_pos b l hb hl)

weights_below : (a b k l : ℤ) → pos 0 <ℤ a → pos 0 <ℤ b → k <ℤ pos 0 → l <ℤ pos 0 → ((a *ℤ k) +ℤ (b *ℤ l)) <ℤ pos 0
weights_below a b k l ha hb hk hl = omega (arith, linear, mul_pos_neg a k ha hk, mul_pos_neg b l hb hl)

-- three on one side of the line
third_back : (r : Bool) (a b c k l n : ℤ) → ((a *ℤ k) +ℤ (b *ℤ l)) +ℤ (c *ℤ n) ≡ pos 0 → pos 0 <ℤ a → pos 0 <ℤ b
    → Signed r k → Signed r l → Signed r n → c ≤ℤ pos 0
third_back r a b c k l n e ha hb hk hl hn =
    by_lt_z (pos 0) c (λ (h : pos 0 <ℤ c). absurd (by r h hk hl hn)) (λ (h : c ≤ℤ pos 0). h)
  where
    by : (r : Bool) → pos 0 <ℤ c → Signed r k → Signed r l → Signed r n → ⊥
    by true h x y z = absurd (omega (arith, linear, weights_some a b k l ha hb x y, mul_pos c n h z))
    by false h x y z = absurd (omega (arith, linear, weights_below a b k l ha hb x y, mul_pos_neg c n h z))

-- the second on the other side
third_on : (r : Bool) (a b c k l n : ℤ) → ((a *ℤ k) +ℤ (b *ℤ l)) +ℤ (c *ℤ n) ≡ pos 0 → pos 0 <ℤ a → pos 0 <ℤ b
    → Signed r k → Signed r l → Signed (not r) n → pos 0 <ℤ c
third_on r a b c k l n e ha hb hk hl hn =
    by_lt_z (pos 0) c (λ (h : pos 0 <ℤ c). h) (λ (h : c ≤ℤ pos 0). absurd (by r h hk hl hn))
  where
    by : (r : Bool) → c ≤ℤ pos 0 → Signed r k → Signed r l → Signed (not r) n → ⊥
    by true h x y z =
        let s : pos 0 ≤ℤ (neg_ℤ c *ℤ neg_ℤ n) = mul_nonneg (neg_ℤ c) (neg_ℤ n) (omega (arith, linear)) (omega (arith, linear)) in
        absurd (omega (arith, linear, weights_some a b k l ha hb x y, neg_mul_neg c n))
    by false h x y z =
        let s : pos 0 ≤ℤ (neg_ℤ c *ℤ n) = mul_nonneg (neg_ℤ c) n (omega (arith, linear)) (omega (arith, linear)) in
        absurd (omega (arith, linear, weights_below a b k l ha hb x y, neg_mul c n))

-- ---- the order: `r` and `q` tell which of two directions rise, `t` is the turn from the first to the second
abbrev first_before : Bool → Bool → ℤ → Bool
first_before r q t = cond r (not q || int_lt (pos 0) t) (not q && int_lt (pos 0) t)

yes : (t : ℤ) → pos 0 <ℤ t → bit (int_lt (pos 0) t) ≡ pos 1
yes t h = ap bit (less_test (pos 0) t h)

none : (t : ℤ) → t ≤ℤ pos 0 → bit (int_lt (pos 0) t) ≡ pos 0
none t h = ap bit (not_less_test (pos 0) t h)

-- what tells the third turn's sign
record Third (r q p : Bool) (c : ℤ) : Type 0 where
  pub back : r ≡ q → q ≡ p → c ≤ℤ pos 0
  pub on : r ≡ p → q ≡ not r → pos 0 <ℤ c

-- three directions that follow each other counterclockwise go up in the order twice, and down once
twice_up : (r q p : Bool) (a b c : ℤ) → pos 0 <ℤ a → pos 0 <ℤ b → Third r q p c →
    (bit (first_before r q a) +ℤ bit (first_before q p b)) +ℤ bit (first_before p r c) ≡ pos 2
twice_up true true true a b c ha hb h = omega (arith, ints, yes a ha, yes b hb, none c (h.back refl refl))
twice_up true true false a b c ha hb h = omega (arith, ints, yes a ha)
twice_up true false true a b c ha hb h = omega (arith, ints, yes c (h.on refl refl))
twice_up true false false a b c ha hb h = omega (arith, ints, yes b hb)
twice_up false true true a b c ha hb h = omega (arith, ints, yes b hb)
twice_up false true false a b c ha hb h = omega (arith, ints, yes c (h.on refl refl))
twice_up false false true a b c ha hb h = omega (arith, ints, yes a ha)
twice_up false false false a b c ha hb h = omega (arith, ints, yes a ha, yes b hb, none c (h.back refl refl))

one_sign : (t : ℤ) → (t ≡ pos 0 → ⊥) → bit (int_lt (pos 0) t) +ℤ bit (int_lt (pos 0) (neg_ℤ t)) ≡ pos 1
one_sign t apart =
    by_lt_z (pos 0) t (λ (h : pos 0 <ℤ t). omega (arith, ints, yes t h, none (neg_ℤ t) (omega (arith, linear))))
    (λ (h : t ≤ℤ pos 0).
    by_lt_z t (pos 0) (λ (k : t <ℤ pos 0). omega (arith, ints, none t h, yes (neg_ℤ t) (omega (arith, linear))))
    (λ (k : pos 0 ≤ℤ t). absurd (apart (omega (arith, linear)))))

-- of two directions one comes first
one_first : (r q : Bool) (t : ℤ) → (r ≡ q → t ≡ pos 0 → ⊥) → bit (first_before r q t) +ℤ bit (first_before q r (neg_ℤ t)) ≡ pos 1
one_first true true t apart = one_sign t (apart refl)
one_first true false t apart = refl
one_first false true t apart = refl
one_first false false t apart = one_sign t (apart refl)

-- ---- directions from one point

third_of : (v x y z : Point) → (v ≡ x → ⊥) → (v ≡ y → ⊥) → (v ≡ z → ⊥) → pos 0 <ℤ turn v x y → pos 0 <ℤ turn v y z →
    Third (rises (v, x)) (rises (v, y)) (rises (v, z)) (turn v z x)
third_of v x y z nx ny nz a b =
    let f = flat v x y z in
    let m = f.by in
    let sx = tilt_signed m v x f.first nx in
    let sy = tilt_signed m v y f.second ny in
    let sz = tilt_signed m v z f.third nz in
    record {
      back = λ (e : rises (v, x) ≡ rises (v, y)) (g : rises (v, y) ≡ rises (v, z)).
          third_back (rises (v, x)) (turn v x y) (turn v y z) (turn v z x) (tilt m v z) (tilt m v x) (tilt m v y) (tilts_turned m v x y z) a b
          (subst (λ (r : Bool). Signed r (tilt m v z)) (sym (e ∙ g)) sz) sx (subst (λ (r : Bool). Signed r (tilt m v y)) (sym e) sy);
      on = λ (e : rises (v, x) ≡ rises (v, z)) (g : rises (v, y) ≡ not (rises (v, x))).
          third_on (rises (v, x)) (turn v x y) (turn v y z) (turn v z x) (tilt m v z) (tilt m v x) (tilt m v y) (tilts_turned m v x y z) a b
          (subst (λ (r : Bool). Signed r (tilt m v z)) (sym e) sz) sx (subst (λ (r : Bool). Signed r (tilt m v y)) g sy);
    }

-- the middle one of three that follow each other counterclockwise is neither of the others
pub middle_apart : (v x y z : Point) → AreCounterclockwise (v, x) (v, y) (v, z) → (y ≡ x → ⊥) × (y ≡ z → ⊥)
middle_apart v x y z h = (
  (λ (e : y ≡ x). start (subst (λ (p : Point). AreCounterclockwise (v, x) (v, p) (v, z)) e h)),
  (λ (e : y ≡ z). last (subst (λ (p : Point). AreCounterclockwise (v, x) (v, p) (v, z)) e h)),
)
  where
    start : AreCounterclockwise (v, x) (v, x) (v, z) → ⊥
    start (inl h) = absurd (omega (arith, linear, h.0, turn_end v x))
    start (inr (inl h)) = absurd (omega (arith, linear, h.0, h.1, turn_swap v x z))
    start (inr (inr h)) = absurd (omega (arith, linear, h.1, turn_end v x))

    last : AreCounterclockwise (v, x) (v, z) (v, z) → ⊥
    last (inl h) = absurd (omega (arith, linear, h.1, turn_end v z))
    last (inr (inl h)) = absurd (omega (arith, linear, h.0, turn_end v z))
    last (inr (inr h)) = absurd (omega (arith, linear, h.0, h.1, turn_swap v x z))

-- 1 where the way to `x` comes before that to `y`
abbrev pub before : Point → Point → Point → ℤ
before v x y = bit (comes_before (v, x) (v, y))

-- three that follow each other counterclockwise come one before the next twice
pub two_before : (v x y z : Point) → (v ≡ x → ⊥) → (v ≡ y → ⊥) → (v ≡ z → ⊥) → AreCounterclockwise (v, x) (v, y) (v, z) →
    (before v x y +ℤ before v y z) +ℤ before v z x ≡ pos 2
two_before v x y z nx ny nz (inl h) =
    twice_up (rises (v, x)) (rises (v, y)) (rises (v, z)) (turn v x y) (turn v y z) (turn v z x) h.0 h.1 (third_of v x y z nx ny nz h.0 h.1)
two_before v x y z nx ny nz (inr (inl h)) =
    omega (arith, linear, twice_up (rises (v, y)) (rises (v, z)) (rises (v, x)) (turn v y z) (turn v z x) (turn v x y) h.0 h.1 (third_of v y z x ny nz nx h.0 h.1))
two_before v x y z nx ny nz (inr (inr h)) =
    omega (arith, linear, twice_up (rises (v, z)) (rises (v, x)) (rises (v, y)) (turn v z x) (turn v x y) (turn v y z) h.0 h.1 (third_of v z x y nz nx ny h.0 h.1))

-- of two in different directions one comes first
pub one_before : (v x y : Point) → (rises (v, x) ≡ rises (v, y) → turn v x y ≡ pos 0 → ⊥) → before v x y +ℤ before v y x ≡ pos 1
one_before v x y apart =
    ap (λ (t : ℤ). before v x y +ℤ bit (first_before (rises (v, y)) (rises (v, x)) t)) (turn_swap v x y)
    ∙ one_first (rises (v, x)) (rises (v, y)) (turn v x y) apart

-- none comes before itself
pub not_before : (v x : Point) → before v x x ≡ pos 0
not_before v x = ap (λ (t : ℤ). bit (first_before (rises (v, x)) (rises (v, x)) t)) (turn_end v x) ∙ by (rises (v, x))
  where
    by : (r : Bool) → bit (first_before r r (pos 0)) ≡ pos 0
    by true = refl
    by false = refl

-- ---- two ways in one direction

slides : (m : ℤ) (v x y : Point) → (tilt m v y *ℤ (x.0 -ℤ v.0) ≡ (tilt m v x *ℤ (y.0 -ℤ v.0)) +ℤ (m *ℤ turn v x y))
    × (tilt m v y *ℤ (x.1 -ℤ v.1) ≡ (tilt m v x *ℤ (y.1 -ℤ v.1)) +ℤ turn v x y)
slides m v x y =
    let a = (var 6 ⊗ (var 3 ⊖ var 1)) ⊖ (var 2 ⊖ var 0) in
    let b = (var 6 ⊗ (var 5 ⊖ var 1)) ⊖ (var 4 ⊖ var 0) in
    let t = turned (point_var 0) (point_var 1) (point_var 2) in (
      ring (coordinates (v ∷ x ∷ y ∷ []) (m ∷ [])) (b ⊗ (var 2 ⊖ var 0)) ((a ⊗ (var 4 ⊖ var 0)) ⊕ (var 6 ⊗ t)) refl,
      ring (coordinates (v ∷ x ∷ y ∷ []) (m ∷ [])) (b ⊗ (var 3 ⊖ var 1)) ((a ⊗ (var 5 ⊖ var 1)) ⊕ t) refl,
    )

-- on a fine enough grid the ways have an inner point in common
pub record Common (v x y : Point) : Type 0 where
  pub parts_first : ℤ
  pub parts_second : ℤ
  pub some_first : pos 0 <ℤ parts_first
  pub some_second : pos 0 <ℤ parts_second
  pub same : part (parts_first +ℤ parts_second) parts_first v x ≡ part (parts_first +ℤ parts_second) parts_second v y

pub common_point : (v x y : Point) → (v ≡ x → ⊥) → (v ≡ y → ⊥) → rises (v, x) ≡ rises (v, y) → turn v x y ≡ pos 0 → Common v x y
common_point v x y nx ny alike flat_turn =
    let f = flat v x y y in
    let m = f.by in
    let a = tilt m v x in
    let b = tilt m v y in
    let sa = tilt_signed m v x f.first nx in
    let sb = subst (λ (r : Bool). Signed r b) (sym alike) (tilt_signed m v y f.second ny) in
    let s = slides m v x y in
    let x0 : b *ℤ (x.0 -ℤ v.0) ≡ a *ℤ (y.0 -ℤ v.0) = s.0 ∙ (ap (λ (t : ℤ). (a *ℤ (y.0 -ℤ v.0)) +ℤ (m *ℤ t)) flat_turn ∙ (ap (λ (t : ℤ). (a *ℤ (y.0 -ℤ v.0)) +ℤ t) (mul_zero m) ∙ plus_none (a *ℤ (y.0 -ℤ v.0)))) in
    let x1 : b *ℤ (x.1 -ℤ v.1) ≡ a *ℤ (y.1 -ℤ v.1) = s.1 ∙ (ap (λ (t : ℤ). (a *ℤ (y.1 -ℤ v.1)) +ℤ t) flat_turn ∙ plus_none (a *ℤ (y.1 -ℤ v.1))) in
    let e0 = moved a b (x.0 -ℤ v.0) (y.0 -ℤ v.0) x0 in
    let e1 = moved a b (x.1 -ℤ v.1) (y.1 -ℤ v.1) x1 in
    record {
      parts_first = a *ℤ b;
      parts_second = a *ℤ a;
      some_first = one_sign_product (rises (v, x)) a b sa sb;
      some_second = one_sign_product (rises (v, x)) a a sa sa;
      same = λ i. ((((a *ℤ b) +ℤ (a *ℤ a)) *ℤ v.0) +ℤ e0 i, (((a *ℤ b) +ℤ (a *ℤ a)) *ℤ v.1) +ℤ e1 i);
    }
  where
    plus_none : (z : ℤ) → z +ℤ pos 0 ≡ z
    plus_none z = omega (arith, linear)

    moved : (a b d e : ℤ) → b *ℤ d ≡ a *ℤ e → (a *ℤ b) *ℤ d ≡ (a *ℤ a) *ℤ e
    moved a b d e h = mul_assoc a b d ∙ (ap (λ (z : ℤ). a *ℤ z) h ∙ sym (mul_assoc a a e))

    one_sign_product : (r : Bool) (a b : ℤ) → Signed r a → Signed r b → pos 0 <ℤ (a *ℤ b)
    one_sign_product true a b h k = mul_pos a b h k
    one_sign_product false a b h k = mul_both_neg a b h k

-- ---- three directions in order follow each other counterclockwise

-- one of two turns is to the left, where the tilts weigh the turns so
some_left : (a b c k l n : ℤ) → ((a *ℤ k) +ℤ (b *ℤ l)) +ℤ (c *ℤ n) ≡ pos 0 → pos 0 <ℤ a → k <ℤ pos 0 → pos 0 <ℤ l → pos 0 <ℤ n → (pos 0 <ℤ b) ⊎ (pos 0 <ℤ c)
some_left a b c k l n e ha hk hl hn =
    by_lt_z (pos 0) b (λ (h : pos 0 <ℤ b). inl h)
    (λ (h : b ≤ℤ pos 0).
    by_lt_z (pos 0) c (λ (i : pos 0 <ℤ c). inr i)
    (λ (i : c ≤ℤ pos 0).
    absurd (omega (arith, linear, mul_pos_neg a k ha hk, mul_nonpos_nonneg b l h (omega (arith, linear)), mul_nonpos_nonneg c n i (omega (arith, linear))))))

some_left_below : (a b c k l n : ℤ) → ((a *ℤ k) +ℤ (b *ℤ l)) +ℤ (c *ℤ n) ≡ pos 0 → pos 0 <ℤ b → k <ℤ pos 0 → pos 0 <ℤ l → n <ℤ pos 0 → (pos 0 <ℤ a) ⊎ (pos 0 <ℤ c)
some_left_below a b c k l n e hb hk hl hn =
    by_lt_z (pos 0) a (λ (h : pos 0 <ℤ a). inl h)
    (λ (h : a ≤ℤ pos 0).
    by_lt_z (pos 0) c (λ (i : pos 0 <ℤ c). inr i)
    (λ (i : c ≤ℤ pos 0).
    absurd (omega (arith, linear, mul_pos b l hb hl, mul_nonpos a k h (omega (arith, linear)), mul_nonpos c n i (omega (arith, linear))))))

left_of : (t : ℤ) → bit (int_lt (pos 0) t) ≡ pos 1 → pos 0 <ℤ t
left_of t h = by_lt_z (pos 0) t (λ (k : pos 0 <ℤ t). k) (λ (k : t ≤ℤ pos 0). absurd (omega (arith, ints, none t k)))

two_left : (r q p : Bool) (a b c k l n : ℤ) → ((a *ℤ k) +ℤ (b *ℤ l)) +ℤ (c *ℤ n) ≡ pos 0 → Signed p k → Signed r l → Signed q n
    → bit (first_before r q a) ≡ pos 1 → bit (first_before q p b) ≡ pos 1
    → ((pos 0 <ℤ a) × (pos 0 <ℤ b)) ⊎ (((pos 0 <ℤ b) × (pos 0 <ℤ c)) ⊎ ((pos 0 <ℤ c) × (pos 0 <ℤ a)))
two_left true true true a b c k l n e hk hl hn x y = inl (left_of a x, left_of b y)
two_left true true false a b c k l n e hk hl hn x y =
    let w = left_of a x in
    ⊎_elim (λ (h : pos 0 <ℤ b). inl (w, h)) (λ (h : pos 0 <ℤ c). inr (inr (h, w))) (some_left a b c k l n e w hk hl hn)
two_left true false true a b c k l n e hk hl hn x y = absurd (omega (arith, ints, y))
two_left true false false a b c k l n e hk hl hn x y =
    let w = left_of b y in
    ⊎_elim (λ (h : pos 0 <ℤ a). inl (h, w)) (λ (h : pos 0 <ℤ c). inr (inl (w, h))) (some_left_below a b c k l n e w hk hl hn)
two_left false true p a b c k l n e hk hl hn x y = absurd (omega (arith, ints, x))
two_left false false true a b c k l n e hk hl hn x y = absurd (omega (arith, ints, y))
two_left false false false a b c k l n e hk hl hn x y = inl (left_of a x, left_of b y)

pub ordered_turning : (v x y z : Point) → (v ≡ x → ⊥) → (v ≡ y → ⊥) → (v ≡ z → ⊥) → before v x y ≡ pos 1 → before v y z ≡ pos 1 → AreCounterclockwise (v, x) (v, y) (v, z)
ordered_turning v x y z nx ny nz a b =
    let f = flat v x y z in
    let m = f.by in
    two_left (rises (v, x)) (rises (v, y)) (rises (v, z)) (turn v x y) (turn v y z) (turn v z x) (tilt m v z) (tilt m v x) (tilt m v y) (tilts_turned m v x y z)
    (tilt_signed m v z f.third nz) (tilt_signed m v x f.first nx) (tilt_signed m v y f.second ny) a b
