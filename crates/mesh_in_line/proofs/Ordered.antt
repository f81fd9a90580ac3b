-- Lemmas over points and lists: places in their order, and those of one line.
use Rattle.std.proofs.Common.{◌≡◌, ◌⊎◌, inl, inr, ⊎_elim, ℕ, zero, suc, ◌+◌, ◌-◌, ◌<◌, ◌≤◌, Bool, true, false, ◌&&◌, List, length, get_or, refl, sym, ◌∙◌, ap, subst, arith}
use Rattle.std.specs.Prelude.{ℤ, pos, ◌-ℤ◌, ◌*ℤ◌, ◌≤ℤ◌, ◌<ℤ◌, int_lt}
use Rattle.std.specs.Ordering.{int_eq}
use Rattle.std.proofs.lemmas.Bool.{and_parts, or_cases}
use Rattle.std.proofs.lemmas.Bool.Decides.{Decides-int_eq}
use Rattle.std.proofs.lemmas.Int.{ints}
use Rattle.mesh_plane.specs.Order.{point_lt}
use Rattle.mesh_plane.specs.Plane.{Point}
use Rattle.mesh_plane.proofs.Comparing.{test_less}
use Rattle.mesh_plane.proofs.Whole.{mul_zero, zero_mul}
use Rattle.mesh_lattice.specs.Split.{IsBetween, IsInside}
use Rattle.mesh_in_line.specs.Private.Lines.{point_at, turned, AreRising}
use Rattle.mesh_in_line.proofs.Cutting.{elsewhere, AreApart}

-- before another in the order
abbrev pub Before : Point → Point → Type 0
Before p q = (p.0 <ℤ q.0) ⊎ ((p.0 ≡ q.0) × (p.1 <ℤ q.1))

before_of : (p q : Point) → point_lt p q ≡ true → Before p q
before_of p q h =
    ⊎_elim (λ (x : int_lt p.0 q.0 ≡ true). inl (test_less p.0 q.0 x))
    (λ (x : (int_eq p.0 q.0 && int_lt p.1 q.1) ≡ true).
    let parts = and_parts (int_eq p.0 q.0) (int_lt p.1 q.1) x in
    inr ((Decides-int_eq p.0 q.0).0 parts.0, test_less p.1 q.1 parts.1))
    (or_cases (int_lt p.0 q.0) (int_eq p.0 q.0 && int_lt p.1 q.1) h)

before_trans : (p q r : Point) → Before p q → Before q r → Before p r
before_trans p q r (inl a) (inl b) = inl (omega (arith, ints))
before_trans p q r (inl a) (inr b) = inl (omega (arith, ints, b.0))
before_trans p q r (inr a) (inl b) = inl (omega (arith, ints, a.0))
before_trans p q r (inr a) (inr b) = inr (omega (arith, ints, a.0, b.0), omega (arith, ints, a.1, b.1))

before_not_self : (p : Point) → Before p p → ⊥
before_not_self p (inl a) = omega (arith, ints)
before_not_self p (inr a) = omega (arith, ints, a.1)

-- the point of a place as it is ordered
abbrev pub place_at : List Point → ℕ → Point
place_at ps k = get_or ps k (pos 0, pos 0)

pub turned_twice : (level : Bool) (p : Point) → turned level (turned level p) ≡ p
turned_twice true p = refl
turned_twice false p = refl

far : (ps : List Point) → AreRising ps → (d i j : ℕ) → j ≡ i + d + 1 → j < length ps → Before (place_at ps i) (place_at ps j)
far ps r zero i j e within =
    let k : i + 1 ≡ j = omega arith in
    subst (λ (n : ℕ). Before (place_at ps i) (place_at ps n)) k (before_of (place_at ps i) (place_at ps (i + 1)) (r.rising i (omega arith)))
far ps r (suc d) i j e within =
    let k : (i + d + 1) + 1 ≡ j = omega arith in
    subst (λ (n : ℕ). Before (place_at ps i) (place_at ps n)) k
    (before_trans (place_at ps i) (place_at ps (i + d + 1)) (place_at ps ((i + d + 1) + 1)) (far ps r d i (i + d + 1) refl (omega arith))
    (before_of (place_at ps (i + d + 1)) (place_at ps ((i + d + 1) + 1)) (r.rising (i + d + 1) (omega arith))))

pub rises : (ps : List Point) → AreRising ps → (i j : ℕ) → i < j → j < length ps → Before (place_at ps i) (place_at ps j)
rises ps r i j low within =
    let d : ℕ = j - (i + 1) in
    far ps r (j - (i + 1)) i j (omega arith) within

pub rising_apart : (level : Bool) (ps : List Point) → AreRising ps → AreApart (point_at level ps) (length ps)
rising_apart level ps r i j low within e =
    let same : place_at ps i ≡ place_at ps j = sym (turned_twice level (place_at ps i)) ∙ (ap (turned level) e ∙ turned_twice level (place_at ps j)) in
    before_not_self (place_at ps j) (subst (λ (p : Point). Before p (place_at ps j)) same (rises ps r i j low within))

least_first : (p q : Point) → Before p q → p.0 ≤ℤ q.0
least_first p q (inl a) = omega (arith, ints)
least_first p q (inr a) = omega (arith, ints, a.0)

first_rises : (ps : List Point) → AreRising ps → (i j : ℕ) → i ≤ j → j < length ps → (place_at ps i).0 ≤ℤ (place_at ps j).0
first_rises ps r i j low within = by_cases (j - i) (omega arith)
  where
    by_cases : (d : ℕ) → j ≡ i + d → (place_at ps i).0 ≤ℤ (place_at ps j).0
    by_cases zero e =
        let k : i ≡ j = omega arith in
        subst (λ (n : ℕ). (place_at ps i).0 ≤ℤ (place_at ps n).0) k (omega (arith, ints))
    by_cases (suc d) e = least_first (place_at ps i) (place_at ps j) (rises ps r i j (omega arith) within)

-- between two places of one line all are on it
pub same_line : (ps : List Point) → AreRising ps → (i j k : ℕ) → i ≤ j → j ≤ k → k < length ps → (place_at ps i).0 ≡ (place_at ps k).0 → (place_at ps j).0 ≡ (place_at ps k).0
same_line ps r i j k low high within e =
    let u = first_rises ps r i j low (omega arith) in
    let v = first_rises ps r j k high within in
    omega (arith, ints, u, v, e)

-- ---- a point between two others of its line

second_less : (p q : Point) → Before p q → p.0 ≡ q.0 → p.1 <ℤ q.1
second_less p q (inl a) e = absurd (omega (arith, ints, a, e))
second_less p q (inr a) e = a.1

between_less : (a z b : ℤ) → a <ℤ z → z <ℤ b → IsBetween a z b
between_less a z b h k = record { up = λ _. (omega (arith, ints), omega (arith, ints)); down = λ (l : b ≤ℤ a). absurd (omega (arith, ints)) }

between_same : (a z b : ℤ) → a ≡ z → z ≡ b → IsBetween a z b
between_same a z b h k = record { up = λ _. (omega (arith, ints), omega (arith, ints)); down = λ _. (omega (arith, ints), omega (arith, ints)) }

pub no_turn : (a b c d : ℤ) → a ≡ pos 0 → d ≡ pos 0 → (a *ℤ b) -ℤ (c *ℤ d) ≡ pos 0
no_turn a b c d h k = (λ i. (h i *ℤ b) -ℤ (c *ℤ k i)) ∙ (λ i. zero_mul b i -ℤ mul_zero c i)

pub no_turn_level : (a b c d : ℤ) → b ≡ pos 0 → c ≡ pos 0 → (a *ℤ b) -ℤ (c *ℤ d) ≡ pos 0
no_turn_level a b c d h k = (λ i. (a *ℤ h i) -ℤ (k i *ℤ d)) ∙ (λ i. mul_zero a i -ℤ zero_mul d i)

same_less : (a b : ℤ) → a ≡ b → b -ℤ a ≡ pos 0
same_less a b e = omega (arith, ints)

inside_line : (level : Bool) (p q r : Point) → p.0 ≡ q.0 → q.0 ≡ r.0 → p.1 <ℤ q.1 → q.1 <ℤ r.1 → IsInside (turned level p, turned level r) (turned level q)
inside_line true p q r x y u v = record {
  on_line = no_turn_level (r.1 -ℤ p.1) (q.0 -ℤ p.0) (r.0 -ℤ p.0) (q.1 -ℤ p.1) (same_less p.0 q.0 x) (same_less p.0 r.0 (x ∙ y));
  in_box = record { by_x = between_less p.1 q.1 r.1 u v; by_y = between_same p.0 q.0 r.0 x y };
  no_end = elsewhere (q.1, q.0) (p.1, p.0) (r.1, r.0) (λ e. differ p.1 q.1 u (sym (ap (λ (z : Point). z.0) e))) (λ e. differ q.1 r.1 v (ap (λ (z : Point). z.0) e));
}
  where
    differ : (a b : ℤ) → a <ℤ b → a ≡ b → ⊥
    differ a b h e = omega (arith, ints)
inside_line false p q r x y u v = record {
  on_line = no_turn (r.0 -ℤ p.0) (q.1 -ℤ p.1) (r.1 -ℤ p.1) (q.0 -ℤ p.0) (same_less p.0 r.0 (x ∙ y)) (same_less p.0 q.0 x);
  in_box = record { by_x = between_same p.0 q.0 r.0 x y; by_y = between_less p.1 q.1 r.1 u v };
  no_end = elsewhere q p r (λ e. differ p.1 q.1 u (sym (ap (λ (z : Point). z.1) e))) (λ e. differ q.1 r.1 v (ap (λ (z : Point). z.1) e));
}
  where
    differ : (a b : ℤ) → a <ℤ b → a ≡ b → ⊥
    differ a b h e = omega (arith, ints)

-- the next place lies inside the edge from a place to a later one of its line
pub inside_next : (level : Bool) (ps : List Point) → AreRising ps → (j k : ℕ) → j + 1 < k → k < length ps → (place_at ps j).0 ≡ (place_at ps k).0 → IsInside (point_at level ps j, point_at level ps k) (point_at level ps (j + 1))
inside_next level ps r j k low within e =
    let y : (place_at ps (j + 1)).0 ≡ (place_at ps k).0 = same_line ps r j (j + 1) k (omega arith) (omega arith) within e in
    let x : (place_at ps j).0 ≡ (place_at ps (j + 1)).0 = e ∙ sym y in
    inside_line level (place_at ps j) (place_at ps (j + 1)) (place_at ps k) x y
    (second_less (place_at ps j) (place_at ps (j + 1)) (rises ps r j (j + 1) (omega arith) (omega arith)) x)
    (second_less (place_at ps (j + 1)) (place_at ps k) (rises ps r (j + 1) k low within) y)
