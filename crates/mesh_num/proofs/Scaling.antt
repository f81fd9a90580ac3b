-- Lemmas over points: directions times a radius keep signs, turns and opposites, and stay within the radius.
use Rattle.std.proofs.Common.{◌≡◌, ℕ, ◌+◌, ◌*◌, ◌-◌, ◌<◌, ◌≤◌, sym, ◌∙◌, ap, subst, arith, ⊎_elim}
use Rattle.std.specs.Prelude.{ℤ, pos, ◌*ℤ◌, ◌≤ℤ◌, neg_ℤ, unsigned_abs}
use Rattle.std.proofs.Math.Nat.{mul-le-mul_left, mul-le-mul_right}
use Rattle.std.proofs.lemmas.Nat.{mul-lt}
use Rattle.std.proofs.lemmas.Int.{unsigned_abs-mul, by_lt_z}
use Rattle.std.proofs.lemmas.Bool.{cases_lt}
use Rattle.mesh_plane.specs.Plane.{Point, opposite, cross, dot, length_sq}
use Rattle.mesh_plane.specs.Signs.{HasSignOf}
use Rattle.mesh_num.specs.Direction.{IsDirection, IsShort, IsFresh, KeepsScaledTurns, scaled, scaled_direction}
use Rattle.mesh_plane.specs.Rounding.{rounded}
use Rattle.mesh_plane.proofs.Whole.{linear, mul_neg, neg_mul}
use Rattle.mesh_plane.proofs.Identities.{cross_opposites}
use Rattle.mesh_plane.proofs.Sizes.{size_zero, le_of_squares, square_none}
use Rattle.mesh_plane.proofs.Signs.{sign_self, sign_through, sign_square, sign_times}
use Rattle.mesh_plane.proofs.Rounding.{rounded_sign, rounded_neg, rounded_grows, rounded_within, rounded_zero}
use Rattle.mesh_num.proofs.Turns.{KeepsProducts, turn_kept_by, parallel_kept_by}

-- ---- one component

pub scaled_sign : {x k : ℤ} → (unit : ℕ) (r : ℤ) → 0 < unit → pos 0 ≤ℤ r → HasSignOf x k → HasSignOf x (scaled unit r k)
scaled_sign {x} {k} unit r h l p = sign_through p (sign_through (sign_times k r l) (rounded_sign (k *ℤ r) unit h))

pub scaled_grows : (unit : ℕ) (r k j : ℤ) → 0 < unit → unsigned_abs k ≤ unsigned_abs j → unsigned_abs (scaled unit r k) ≤ unsigned_abs (scaled unit r j)
scaled_grows unit r k j h l =
    let a : unsigned_abs k * unsigned_abs r ≤ unsigned_abs j * unsigned_abs r = mul-le-mul_right (unsigned_abs r) l in
    let b : unsigned_abs (k *ℤ r) ≤ unsigned_abs (j *ℤ r) = omega (arith, unsigned_abs-mul k r, unsigned_abs-mul j r) in
    rounded_grows (k *ℤ r) (j *ℤ r) unit h b

keeps_scaled : (unit : ℕ) (r : ℤ) → 0 < unit → pos 0 ≤ℤ r → KeepsProducts (scaled unit r)
keeps_scaled unit r h l = record { signs = λ x. scaled_sign unit r h l (sign_self x); grows = λ x y. scaled_grows unit r x y h }

pub scaled_opposite_radius : (unit : ℕ) (r k : ℤ) → 0 < unit → scaled unit (neg_ℤ r) k ≡ neg_ℤ (scaled unit r k)
scaled_opposite_radius unit r k h = ap (λ (n : ℤ). rounded n unit) (mul_neg k r) ∙ rounded_neg (k *ℤ r) unit h

pub scaled_opposite_part : (unit : ℕ) (r k : ℤ) → 0 < unit → scaled unit r (neg_ℤ k) ≡ neg_ℤ (scaled unit r k)
scaled_opposite_part unit r k h = ap (λ (n : ℤ). rounded n unit) (neg_mul k r) ∙ rounded_neg (k *ℤ r) unit h

pub scaled_bound : (unit : ℕ) (r k : ℤ) → 0 < unit → unsigned_abs k ≤ unit → unsigned_abs (scaled unit r k) ≤ unsigned_abs r
scaled_bound unit r k h l =
    let a : unsigned_abs k * unsigned_abs r ≤ unit * unsigned_abs r = mul-le-mul_right (unsigned_abs r) l in
    let b : unsigned_abs (k *ℤ r) ≤ unsigned_abs r * unit = omega (arith, unsigned_abs-mul k r) in
    rounded_within (k *ℤ r) unit (unsigned_abs r) h b

-- ---- both components

pub scaled_direction_opposite_radius : (unit : ℕ) (r : ℤ) (n : Point) → 0 < unit → scaled_direction unit (neg_ℤ r) n ≡ opposite (scaled_direction unit r n)
scaled_direction_opposite_radius unit r n h = λ i. (scaled_opposite_radius unit r n.0 h i, scaled_opposite_radius unit r n.1 h i)

-- for the two sides of strokes
pub scaled_direction_opposite : (unit : ℕ) (r : ℤ) (n : Point) → 0 < unit → scaled_direction unit r (opposite n) ≡ opposite (scaled_direction unit r n)
scaled_direction_opposite unit r n h = λ i. (scaled_opposite_part unit r n.0 h i, scaled_opposite_part unit r n.1 h i)

-- the components of a direction that is at most `unit` long are at most `unit`
pub short_bounded : (unit : ℕ) (n : Point) → IsShort unit n → (unsigned_abs n.0 ≤ unit) × (unsigned_abs n.1 ≤ unit)
short_bounded unit n h = (le_of_squares (unsigned_abs n.0) unit (omega arith), le_of_squares (unsigned_abs n.1) unit (omega arith))

-- a direction times a radius is at most the radius in each coordinate
pub scaled_direction_bounded : (unit : ℕ) (r : ℤ) (n : Point) → 0 < unit → IsShort unit n → (unsigned_abs (scaled_direction unit r n).0 ≤ unsigned_abs r) × (unsigned_abs (scaled_direction unit r n).1 ≤ unsigned_abs r)
scaled_direction_bounded unit r n h s =
    let b : (unsigned_abs n.0 ≤ unit) × (unsigned_abs n.1 ≤ unit) = short_bounded unit n s in
    (scaled_bound unit r n.0 h b.0, scaled_bound unit r n.1 h b.1)

-- a vector looks the way of its direction times a radius of at least 0, in each coordinate
pub along_scaled : {unit : ℕ} {v n : Point} → (r : ℤ) → 0 < unit → pos 0 ≤ℤ r → IsDirection unit v n
    → (pos 0 ≤ℤ (v.0 *ℤ scaled unit r n.0)) × (pos 0 ≤ℤ (v.1 *ℤ scaled unit r n.1))
along_scaled {unit} r h l p = (sign_square (scaled_sign unit r h l p.x.sign), sign_square (scaled_sign unit r h l p.y.sign))

pub dot_scaled_nonneg : {unit : ℕ} {v n : Point} → (r : ℤ) → 0 < unit → pos 0 ≤ℤ r → IsDirection unit v n → pos 0 ≤ℤ dot v (scaled_direction unit r n)
dot_scaled_nonneg {unit} {v} {n} r h l p = omega (arith, linear, along_scaled r h l p)

pub dot_scaled_nonpos : {unit : ℕ} {v n : Point} → (r : ℤ) → 0 < unit → r ≤ℤ pos 0 → IsDirection unit v n → dot v (scaled_direction unit r n) ≤ℤ pos 0
dot_scaled_nonpos {unit} {v} {n} r h l p =
    let a : pos 0 ≤ℤ dot v (scaled_direction unit (neg_ℤ r) n) = dot_scaled_nonneg (neg_ℤ r) h (omega (arith, linear)) p in
    let b : v.0 *ℤ scaled unit (neg_ℤ r) n.0 ≡ neg_ℤ (v.0 *ℤ scaled unit r n.0) = ap (λ (k : ℤ). v.0 *ℤ k) (scaled_opposite_radius unit r n.0 h) ∙ mul_neg v.0 (scaled unit r n.0) in
    let c : v.1 *ℤ scaled unit (neg_ℤ r) n.1 ≡ neg_ℤ (v.1 *ℤ scaled unit r n.1) = ap (λ (k : ℤ). v.1 *ℤ k) (scaled_opposite_radius unit r n.1 h) ∙ mul_neg v.1 (scaled unit r n.1) in
    omega (arith, linear)

-- ---- turns

-- the two signs of opposite radii cancel
scaled_cross : (unit : ℕ) (r : ℤ) (n m : Point) → 0 < unit → cross (scaled_direction unit (neg_ℤ r) n) (scaled_direction unit (neg_ℤ r) m) ≡ cross (scaled_direction unit r n) (scaled_direction unit r m)
scaled_cross unit r n m h =
    (λ i. cross (scaled_direction_opposite_radius unit r n h i) (scaled_direction_opposite_radius unit r m h i))
    ∙ cross_opposites (scaled_direction unit r n) (scaled_direction unit r m)

-- a turn to the left, by at most half a turn, is not turned to the right for directions times a radius
pub scaled_turn_kept : {unit : ℕ} {v n w m : Point} → (r : ℤ) → 0 < unit → IsDirection unit v n → IsDirection unit w m
    → pos 0 ≤ℤ cross v w → pos 0 ≤ℤ cross (scaled_direction unit r n) (scaled_direction unit r m)
scaled_turn_kept {unit} {v} {n} {w} {m} r h p q t =
    by_lt_z r (pos 0)
    (λ l.
    let a : pos 0 ≤ℤ neg_ℤ r = omega (arith, linear) in
    let b : pos 0 ≤ℤ cross (scaled_direction unit (neg_ℤ r) n) (scaled_direction unit (neg_ℤ r) m) = turn_kept_by (scaled unit (neg_ℤ r)) (keeps_scaled unit (neg_ℤ r) h a) p q t in
    subst (λ (z : ℤ). pos 0 ≤ℤ z) (scaled_cross unit r n m h) b)
    (λ l. turn_kept_by (scaled unit r) (keeps_scaled unit r h l) p q t)

pub scaled_parallel_kept : {unit : ℕ} {v n w m : Point} → (r : ℤ) → 0 < unit → IsDirection unit v n → IsDirection unit w m
    → cross v w ≡ pos 0 → cross (scaled_direction unit r n) (scaled_direction unit r m) ≡ pos 0
scaled_parallel_kept {unit} {v} {n} {w} {m} r h p q t =
    by_lt_z r (pos 0)
    (λ l.
    let a : pos 0 ≤ℤ neg_ℤ r = omega (arith, linear) in
    sym (scaled_cross unit r n m h) ∙ parallel_kept_by (scaled unit (neg_ℤ r)) (keeps_scaled unit (neg_ℤ r) h a) p q t)
    (λ l. parallel_kept_by (scaled unit r) (keeps_scaled unit r h l) p q t)

pub direction_keeps_scaled_turns : (unit : ℕ) (r : ℤ) (n : Point) → 0 < unit → KeepsScaledTurns unit r n (scaled_direction unit r n)
direction_keeps_scaled_turns unit r n h v w m p q t = scaled_turn_kept r h p q t

-- ---- a fresh direction times a radius other than 0 is not 0, for joins and caps that are no point

small_part : (unit : ℕ) (r k : ℤ) → 0 < unit → 1 ≤ unsigned_abs r → unsigned_abs (scaled unit r k) ≡ 0 → 4 * (unsigned_abs k * unsigned_abs k) < unit * unit
small_part unit r k h l e =
    let a : 2 * unsigned_abs (k *ℤ r) < unit = rounded_zero (k *ℤ r) unit h (size_zero (scaled unit r k) e) in
    let b : unsigned_abs k * 1 ≤ unsigned_abs k * unsigned_abs r = mul-le-mul_left (unsigned_abs k) l in
    let c : 2 * unsigned_abs k < unit = omega (arith, unsigned_abs-mul k r) in
    omega (arith, mul-lt (2 * unsigned_abs k) (2 * unsigned_abs k) unit unit c c)

pub scaled_direction_length : (unit : ℕ) (r : ℤ) (n : Point) → 7 ≤ unit → 1 ≤ unsigned_abs r → IsFresh unit n → 0 < length_sq (scaled_direction unit r n)
scaled_direction_length unit r n h l f =
    ⊎_elim
    (λ a. a)
    (λ a.
    let x : 4 * (unsigned_abs n.0 * unsigned_abs n.0) < unit * unit = small_part unit r n.0 (omega arith) l (square_none (unsigned_abs (scaled unit r n.0)) (omega arith)) in
    let y : 4 * (unsigned_abs n.1 * unsigned_abs n.1) < unit * unit = small_part unit r n.1 (omega arith) l (square_none (unsigned_abs (scaled unit r n.1)) (omega arith)) in
    absurd (omega (arith, long (unit - 7) unit (omega arith))))
    (cases_lt 0 (length_sq (scaled_direction unit r n)))
  where
    long : (t u : ℕ) → u ≡ t + 7 → 2 * (u * u) < 4 * ((u - 2) * (u - 2))
    long t u e =
        let a : u - 2 ≡ t + 5 = omega arith in
        rw (a, e) (omega arith)
