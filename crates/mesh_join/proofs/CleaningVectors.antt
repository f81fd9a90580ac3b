-- Lemmas over points and lists: whether a point is kept depends on the directions to its two neighbours alone.
use Rattle.std.proofs.Common.{◌≡◌, ℕ, ◌*◌, inl, inr, refl, sym, ◌∙◌, ap, subst, arith, true, false, not, ◌||◌, ◌&&◌, [], ◌∷◌}
use Rattle.std.specs.Prelude.{ℤ, pos, ◌-ℤ◌, ◌*ℤ◌, ◌≤ℤ◌, neg_ℤ, int_lt}
use Rattle.std.specs.Ordering.{int_eq}
use lib.Signed.{◌<ℤ◌}
use lib.IntN.{*ℤ_comm, *ℤ-zero, zero-*ℤ}
use Rattle.std.proofs.lemmas.Int.{by_lt_z}
use Rattle.std.proofs.lemmas.Bool.{true≢false, true_from_ne_false}
use Rattle.std.proofs.lemmas.Bool.Decides.{same_from_decides, Decides-int_eq, Decides-like}
use Rattle.mesh_plane.specs.Plane.{Point, minus, cross, dot}
use Rattle.mesh_plane.specs.Bounds.{IsSafe}
use Rattle.mesh_plane.specs.Winding.{same_point}
use Rattle.mesh_plane.proofs.Comparing.{point_self, points_apart, points_swap, less_test, not_less_test, test_less}
use Rattle.mesh_plane.proofs.Turning.{straight_parts}
use Rattle.mesh_plane.proofs.Whole.{linear, mul_pos, square_nonneg, mul_cancel, pos_of_mul, factor}
use Rattle.mesh_plane.proofs.Ring.{ring, var, lit, neg, ◌⊖◌, cross_of, dot_of}
use Rattle.mesh_plane.proofs.Identities.{lagrange, dot_through, cross_through, cross_flip, cross_self, dot_swap}
use Rattle.mesh_plane.specs.Turning.{turns_at}

-- ---- two vectors in one direction

pub record OneWay (v w : Point) : Type 0 where
  pub flat : cross v w ≡ pos 0
  pub ahead : pos 0 <ℤ dot v w

pub length_pos : (v : Point) → ((v.0 ≡ pos 0) → (v.1 ≡ pos 0) → ⊥) → pos 0 <ℤ dot v v
length_pos v n =
    by_lt_z (pos 0) (v.0 *ℤ v.0)
    (λ h. omega (arith, linear, square_nonneg v.1))
    (λ h.
    by_lt_z (pos 0) (v.1 *ℤ v.1)
    (λ k. omega (arith, linear, square_nonneg v.0))
    (λ k.
    let ex : v.0 *ℤ v.0 ≡ pos 0 = omega (arith, linear, square_nonneg v.0) in
    let ey : v.1 *ℤ v.1 ≡ pos 0 = omega (arith, linear, square_nonneg v.1) in
    absurd (n (zero_square v.0 ex) (zero_square v.1 ey))))
  where
    zero_square : (a : ℤ) → a *ℤ a ≡ pos 0 → a ≡ pos 0
    zero_square a e = elim (factor a a e) [ inl h ↦ h | inr h ↦ h ]

OneWay-length : (v w : Point) → OneWay v w → pos 0 <ℤ dot v v
OneWay-length v w h =
    let square : pos 0 <ℤ (dot v w *ℤ dot v w) = mul_pos (dot v w) (dot v w) h.ahead h.ahead in
    let none : cross v w *ℤ cross v w ≡ pos 0 = ap (λ (n : ℤ). n *ℤ n) h.flat in
    let product : pos 0 <ℤ (dot w w *ℤ dot v v) = omega (arith, linear, lagrange v w, *ℤ_comm (dot w w) (dot v v)) in
    let size : pos 0 ≤ℤ dot w w = omega (arith, linear, square_nonneg w.0, square_nonneg w.1) in
    pos_of_mul (dot w w) (dot v v) size product

-- numbers of which positive multiples are equal have one sign
same_zero : (s t x y : ℤ) → pos 0 <ℤ s → pos 0 <ℤ t → s *ℤ x ≡ t *ℤ y → x ≡ pos 0 → y ≡ pos 0
same_zero s t x y hs ht e z =
    let left : s *ℤ x ≡ pos 0 = ap (λ (n : ℤ). s *ℤ n) z ∙ *ℤ-zero s in
    let right : t *ℤ y ≡ t *ℤ pos 0 = sym e ∙ left ∙ sym (*ℤ-zero t) in
    mul_cancel t y (pos 0) ht right

same_sign : (s t x y : ℤ) → pos 0 <ℤ s → pos 0 <ℤ t → s *ℤ x ≡ t *ℤ y → pos 0 <ℤ x → pos 0 <ℤ y
same_sign s t x y hs ht e h =
    let left : pos 0 <ℤ (s *ℤ x) = mul_pos s x hs h in
    let right : pos 0 <ℤ (t *ℤ y) = subst (λ n. pos 0 <ℤ n) e left in
    let size : pos 0 ≤ℤ t = omega (arith, linear) in
    pos_of_mul t y size right

int_eq-same : (x y z w : ℤ) → (x ≡ y → z ≡ w) → (z ≡ w → x ≡ y) → int_eq x y ≡ int_eq z w
int_eq-same x y z w f g =
    same_from_decides (int_eq x y) (int_eq z w)
    (Decides-like (int_eq x y) f g (Decides-int_eq x y))
    (Decides-int_eq z w)

int_lt-same : (x y z w : ℤ) → (x <ℤ y → z <ℤ w) → (z <ℤ w → x <ℤ y) → int_lt x y ≡ int_lt z w
int_lt-same x y z w f g =
    same_from_decides (int_lt x y) (int_lt z w)
    ((λ e. f (test_less x y e)), (λ h. less_test x y (g h)))
    ((λ e. test_less z w e), (λ h. less_test z w h))

-- ---- judged

OneWay-turns : (v w b : Point) → OneWay v w → (not (int_eq (cross v b) (pos 0)) || int_lt (pos 0) (dot v b)) ≡ (not (int_eq (cross w b) (pos 0)) || int_lt (pos 0) (dot w b))
OneWay-turns v w b h =
    let s : pos 0 <ℤ dot v v = OneWay-length v w h in
    let t : pos 0 <ℤ dot v w = h.ahead in
    let none : (n : ℤ) → cross v w *ℤ n ≡ pos 0 = λ n. ap (λ (m : ℤ). m *ℤ n) h.flat ∙ zero-*ℤ n in
    let c : dot v v *ℤ cross w b ≡ dot v w *ℤ cross v b = omega (arith, linear, cross_through v w b, none (dot v b)) in
    let d : dot v v *ℤ dot w b ≡ dot v w *ℤ dot v b = omega (arith, linear, dot_through v w b, none (cross v b)) in
    let e : int_eq (cross v b) (pos 0) ≡ int_eq (cross w b) (pos 0) =
    int_eq-same (cross v b) (pos 0) (cross w b) (pos 0) (same_zero (dot v w) (dot v v) (cross v b) (cross w b) t s (sym c)) (same_zero (dot v v) (dot v w) (cross w b) (cross v b) s t c) in
    let g : int_lt (pos 0) (dot v b) ≡ int_lt (pos 0) (dot w b) =
    int_lt-same (pos 0) (dot v b) (pos 0) (dot w b) (same_sign (dot v w) (dot v v) (dot v b) (dot w b) t s (sym d)) (same_sign (dot v v) (dot v w) (dot w b) (dot v b) s t d) in
    λ i. not (e i) || g i

-- seen from `p`, the points `a` and `b` lie in one direction
abbrev pub SameWay : Point → Point → Point → Type 0
SameWay a b p = OneWay (minus p a) (minus p b)

pub judged : (a b p z : Point) → SameWay a b p → turns_at a p z ≡ turns_at b p z
judged a b p z h = OneWay-turns (minus p a) (minus p b) (minus p z) h

turns-swap : (v w : Point) → (not (int_eq (cross v w) (pos 0)) || int_lt (pos 0) (dot v w)) ≡ (not (int_eq (cross w v) (pos 0)) || int_lt (pos 0) (dot w v))
turns-swap v w =
    let e : int_eq (cross v w) (pos 0) ≡ int_eq (cross w v) (pos 0) =
    int_eq-same (cross v w) (pos 0) (cross w v) (pos 0) (λ z. cross_flip v w ∙ ap neg_ℤ z) (λ z. cross_flip w v ∙ ap neg_ℤ z) in
    let g : int_lt (pos 0) (dot v w) ≡ int_lt (pos 0) (dot w v) = ap (int_lt (pos 0)) (dot_swap w v) in
    λ i. not (e i) || g i

pub turns_at-swap : (a p z : Point) → turns_at a p z ≡ turns_at z p a
turns_at-swap a p z = turns-swap (minus p a) (minus p z)

pub judged_ahead : (a p y z : Point) → SameWay y z p → turns_at a p y ≡ turns_at a p z
judged_ahead a p y z h = turns_at-swap a p y ∙ judged y z p a h ∙ turns_at-swap z p a

-- ---- a point that a way runs straight through

pub turns_at-straight : (a p z : Point) → cross (minus p a) (minus p z) ≡ pos 0 → dot (minus p a) (minus p z) ≤ℤ pos 0 → turns_at a p z ≡ false
turns_at-straight a p z e h =
    let flat : int_eq (cross (minus p a) (minus p z)) (pos 0) ≡ true = (Decides-int_eq (cross (minus p a) (minus p z)) (pos 0)).1 e in
    let back : int_lt (pos 0) (dot (minus p a) (minus p z)) ≡ false = not_less_test (pos 0) (dot (minus p a) (minus p z)) h in
    λ i. not (flat i) || back i

pub length_apart : (p x : Point) → same_point p x ≡ false → pos 0 <ℤ dot (minus p x) (minus p x)
length_apart p x n =
    length_pos (minus p x) (λ h k. absurd (true≢false (sym (together h k) ∙ n)))
  where
    together : p.0 -ℤ x.0 ≡ pos 0 → p.1 -ℤ x.1 ≡ pos 0 → same_point p x ≡ true
    together h k =
        let e : p.0 ≡ x.0 = omega (arith, linear) in
        let g : p.1 ≡ x.1 = omega (arith, linear) in
        let same : same_point p p ≡ same_point p x = λ i. int_eq p.0 (e i) && int_eq p.1 (g i) in
        sym same ∙ point_self p

pub SameWay-straight : (a p x : Point) → same_point p x ≡ false → turns_at a p x ≡ false → SameWay a p x
SameWay-straight a p x n e =
    let flat : cross (minus x a) (minus x p) ≡ neg_ℤ (cross (minus p a) (minus p x)) =
    ring (a.0 ∷ a.1 ∷ p.0 ∷ p.1 ∷ x.0 ∷ x.1 ∷ [])
    (cross_of (var 4 ⊖ var 0) (var 5 ⊖ var 1) (var 4 ⊖ var 2) (var 5 ⊖ var 3))
    (neg (cross_of (var 2 ⊖ var 0) (var 3 ⊖ var 1) (var 2 ⊖ var 4) (var 3 ⊖ var 5)))
    refl in
    let ahead : dot (minus x a) (minus x p) ≡ dot (minus p x) (minus p x) -ℤ dot (minus p a) (minus p x) =
    ring (a.0 ∷ a.1 ∷ p.0 ∷ p.1 ∷ x.0 ∷ x.1 ∷ [])
    (dot_of (var 4 ⊖ var 0) (var 5 ⊖ var 1) (var 4 ⊖ var 2) (var 5 ⊖ var 3))
    (dot_of (var 2 ⊖ var 4) (var 3 ⊖ var 5) (var 2 ⊖ var 4) (var 3 ⊖ var 5) ⊖ dot_of (var 2 ⊖ var 0) (var 3 ⊖ var 1) (var 2 ⊖ var 4) (var 3 ⊖ var 5))
    refl in
    record {
      flat = flat ∙ ap neg_ℤ (straight_parts a p x e).0;
      ahead = omega (arith, linear, ahead, length_apart p x n, (straight_parts a p x e).1);
    }

-- the point goes straight on from `p` to `y` and to `z`
pub SameWay-ahead : (p y z : Point) → same_point p y ≡ false → turns_at p y z ≡ false → SameWay z y p
SameWay-ahead p y z n e =
    SameWay-straight z y p (points_swap p y ∙ n) (turns_at-swap z y p ∙ e)

pub SameWay-self : (p x : Point) → same_point p x ≡ false → SameWay p p x
SameWay-self p x n =
    record {
      flat = cross_self (minus x p);
      ahead = subst (λ n. pos 0 <ℤ n) (back) (length_apart p x n);
    }
  where
    back : dot (minus p x) (minus p x) ≡ dot (minus x p) (minus x p)
    back =
        ring (p.0 ∷ p.1 ∷ x.0 ∷ x.1 ∷ [])
        (dot_of (var 0 ⊖ var 2) (var 1 ⊖ var 3) (var 0 ⊖ var 2) (var 1 ⊖ var 3))
        (dot_of (var 2 ⊖ var 0) (var 3 ⊖ var 1) (var 2 ⊖ var 0) (var 3 ⊖ var 1))
        refl

pub SameWay-apart : (a b p : Point) → SameWay a b p → same_point a p ≡ false
SameWay-apart a b p h =
    points_apart a p (λ e.
    let none : dot (minus p a) (minus p a) ≡ pos 0 = ap (λ (q : Point). dot (minus p q) (minus p q)) e ∙ zero in
    absurd (omega (arith, linear, OneWay-length (minus p a) (minus p b) h, none)))
  where
    zero : dot (minus p p) (minus p p) ≡ pos 0
    zero = ring (p.0 ∷ p.1 ∷ []) (dot_of (var 0 ⊖ var 0) (var 1 ⊖ var 1) (var 0 ⊖ var 0) (var 1 ⊖ var 1)) (lit (pos 0)) refl

-- ---- repeats and reversals

pub turns_at-from_self : (p z : Point) → turns_at p p z ≡ false
turns_at-from_self p z =
    turns_at-straight p p z
    (ring (p.0 ∷ p.1 ∷ z.0 ∷ z.1 ∷ []) (cross_of (var 0 ⊖ var 0) (var 1 ⊖ var 1) (var 0 ⊖ var 2) (var 1 ⊖ var 3)) (lit (pos 0)) refl)
    (omega (arith, linear, ring (p.0 ∷ p.1 ∷ z.0 ∷ z.1 ∷ []) (dot_of (var 0 ⊖ var 0) (var 1 ⊖ var 1) (var 0 ⊖ var 2) (var 1 ⊖ var 3)) (lit (pos 0)) refl))

pub turns_at-to_self : (a p : Point) → turns_at a p p ≡ false
turns_at-to_self a p = turns_at-swap a p p ∙ turns_at-from_self p a

pub turns_at-back : (a p : Point) → same_point p a ≡ false → turns_at a p a ≡ true
turns_at-back a p n =
    true_from_ne_false (turns_at a p a) (λ e.
    absurd (omega (arith, linear, length_apart p a n, (straight_parts a p a e).1)))

-- ---- ranges

pub minus_safe : (u : ℕ) (p q v : Point) → v ≡ minus p q → IsSafe u p → IsSafe u q → IsSafe (2 * u) v
minus_safe u p q v e h k =
    subst (IsSafe (2 * u)) (sym e)
    (record {
      x = record { low = omega (arith, linear, h.x.low, k.x.high); high = omega (arith, linear, h.x.high, k.x.low) };
      y = record { low = omega (arith, linear, h.y.low, k.y.high); high = omega (arith, linear, h.y.high, k.y.low) };
    })
