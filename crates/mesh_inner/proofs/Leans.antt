-- Lemmas over points: how far a direction times a radius may turn off its vector, on either side.
use Rattle.std.proofs.Common.{ℕ, ◌+◌, ◌*◌, ◌<◌, ◌≤◌, ◌⊎◌, inl, inr, ⊎_elim, arith, zero, suc, refl, ◌≡◌, [], ◌∷◌}
use Rattle.std.specs.Prelude.{ℤ, pos, ◌+ℤ◌, ◌-ℤ◌, ◌*ℤ◌, ◌≤ℤ◌, unsigned_abs}
use Rattle.std.proofs.Math.Nat.{mul-le-mul, mul-le-mul_right, le_of_mul-le-mul_right, le_of_mul-le-mul_left}
use Rattle.std.proofs.lemmas.Bool.{cases_lt}
use Rattle.std.proofs.lemmas.Int.{ints, unsigned_abs-mul, by_lt_z}
use lib.IntN.{*ℤ_comm}
use Rattle.mesh_plane.specs.Plane.{Point, cross, length_sq}
use Rattle.mesh_plane.specs.Rounding.{rounded}
use Rattle.mesh_plane.specs.Signs.{HasSignOf}
use Rattle.mesh_plane.proofs.Ring.{ring, var, ◌⊕◌, ◌⊖◌, ◌⊗◌, cross_of}
use Rattle.mesh_plane.proofs.Rounding.{rounded_sign, rounded_not_above, rounded_not_below}
use Rattle.mesh_plane.proofs.Signs.{sign_self, sign_through, sign_times, sign_product}
use Rattle.mesh_plane.proofs.Sizes.{le_of_squares, two_products}
use Rattle.mesh_plane.proofs.Whole.{linear}
use Rattle.mesh_num.specs.Direction.{IsDirection, scaled_direction}
use Rattle.mesh_num.proofs.Parts.{has_length, part_ends}

-- ---- a direction itself

-- what the parts of a vector lost when they were cut
parts_apart : (u l x a y b : ℕ) → 0 < l → a * a * l ≤ u * u * (x * x) → u * u * (y * y) < (b + 1) * (b + 1) * l →
    a * y ≤ b * x + x
parts_apart u l x a y b some within ends =
    let first : a * a * l * (y * y) ≤ u * u * (x * x) * (y * y) = mul-le-mul_right (y * y) within in
    let most : u * u * (y * y) ≤ (b + 1) * (b + 1) * l = omega (arith, ends) in
    let second : u * u * (y * y) * (x * x) ≤ (b + 1) * (b + 1) * l * (x * x) = mul-le-mul_right (x * x) most in
    let both : a * y * (a * y) * l ≤ (b + 1) * x * ((b + 1) * x) * l = omega (arith, first, second) in
    let sides : a * y ≤ (b + 1) * x = le_of_squares (a * y) ((b + 1) * x) (le_of_mul-le-mul_right both some) in
    omega (arith, sides)

-- two numbers with the signs of one differ as their sizes do
same_side : (w i j : ℤ) (t : ℕ) → HasSignOf w i → HasSignOf w j → unsigned_abs i ≤ unsigned_abs j + t →
    unsigned_abs j ≤ unsigned_abs i + t →
    unsigned_abs (i -ℤ j) ≤ t
same_side w i j t p q h k =
    by_lt_z w (pos 0)
    (λ l. let n : w ≤ℤ pos 0 = omega (arith, linear, l) in omega (arith, ints, p.nonpos n, q.nonpos n, h, k))
    (λ l. omega (arith, ints, p.nonneg l, q.nonneg l, h, k))

-- `t` stands for the greater part of the vector
direction_leans : {unit : ℕ} {v n : Point} → (t : ℕ) → unsigned_abs v.0 ≤ t → unsigned_abs v.1 ≤ t →
    IsDirection unit v n →
    unsigned_abs (cross n v) ≤ t
direction_leans {unit} {v} {n} t x y p =
    same_side (v.0 *ℤ v.1) (n.0 *ℤ v.1) (n.1 *ℤ v.0) t (sign_product p.x.sign (sign_self v.1)) second
    (omega (arith, above, x, sizes.0, sizes.1)) (omega (arith, below, y, sizes.0, sizes.1))
  where
    second : HasSignOf (v.0 *ℤ v.1) (n.1 *ℤ v.0)
    second = rw (*ℤ_comm v.0 v.1) (sign_product p.y.sign (sign_self v.0))

    sizes : (unsigned_abs (n.0 *ℤ v.1) ≡ unsigned_abs n.0 * unsigned_abs v.1) ×
        (unsigned_abs (n.1 *ℤ v.0) ≡ unsigned_abs n.1 * unsigned_abs v.0)
    sizes = (unsigned_abs-mul n.0 v.1, unsigned_abs-mul n.1 v.0)

    above : unsigned_abs n.0 * unsigned_abs v.1 ≤ unsigned_abs n.1 * unsigned_abs v.0 + unsigned_abs v.0
    above =
        parts_apart unit (length_sq v) (unsigned_abs v.0) (unsigned_abs n.0) (unsigned_abs v.1) (unsigned_abs n.1)
        (has_length p) p.x.within (part_ends p.y)

    below : unsigned_abs n.1 * unsigned_abs v.0 ≤ unsigned_abs n.0 * unsigned_abs v.1 + unsigned_abs v.1
    below =
        parts_apart unit (length_sq v) (unsigned_abs v.1) (unsigned_abs n.1) (unsigned_abs v.0) (unsigned_abs n.0)
        (has_length p) p.y.within (part_ends p.x)

-- ---- a direction times a radius

-- a rounded quotient lies at most a half away, on either side
rounded_apart : (a : ℤ) (d : ℕ) → 0 < d → 2 * unsigned_abs ((rounded a d *ℤ pos d) -ℤ a) ≤ d
rounded_apart a d some =
    by_lt_z a (pos 0)
    (λ l. let n : a ≤ℤ pos 0 = omega (arith, linear, l) in negative n (sign.nonpos n))
    (λ l. positive l (sign.nonneg l))
  where
    sign : HasSignOf a (rounded a d *ℤ pos d)
    sign = sign_through (rounded_sign a d some) (sign_times (rounded a d) (pos d) (omega (arith, ints)))

    size : unsigned_abs (rounded a d *ℤ pos d) ≡ unsigned_abs (rounded a d) * d
    size = unsigned_abs-mul (rounded a d) (pos d)

    negative : a ≤ℤ pos 0 → (rounded a d *ℤ pos d) ≤ℤ pos 0 → 2 * unsigned_abs ((rounded a d *ℤ pos d) -ℤ a) ≤ d
    negative h k = omega (arith, ints, h, k, size, rounded_not_above a d, rounded_not_below a d some)

    positive : pos 0 ≤ℤ a → pos 0 ≤ℤ (rounded a d *ℤ pos d) → 2 * unsigned_abs ((rounded a d *ℤ pos d) -ℤ a) ≤ d
    positive h k = omega (arith, ints, h, k, size, rounded_not_above a d, rounded_not_below a d some)

-- what cutting and what rounding turn
turned_off : (u r n o s t x y : ℤ) →
    u *ℤ cross (s, t) (x, y) ≡ ((r *ℤ cross (n, o) (x, y)) +ℤ (((s *ℤ u) -ℤ (n *ℤ r)) *ℤ y)) -ℤ
    (((t *ℤ u) -ℤ (o *ℤ r)) *ℤ x)
turned_off u r n o s t x y =
    ring (u ∷ r ∷ n ∷ o ∷ s ∷ t ∷ x ∷ y ∷ [])
    (var 0 ⊗ cross_of (var 4) (var 5) (var 6) (var 7))
    (((var 1 ⊗ cross_of (var 2) (var 3) (var 6) (var 7)) ⊕
    (((var 4 ⊗ var 0) ⊖ (var 2 ⊗ var 1)) ⊗ var 7)) ⊖ (((var 5 ⊗ var 0) ⊖ (var 3 ⊗ var 1)) ⊗ var 6))
    refl

sum_sizes : (whole a b c : ℤ) → whole ≡ (a +ℤ b) -ℤ c →
    unsigned_abs whole ≤ unsigned_abs a + unsigned_abs b + unsigned_abs c
sum_sizes whole a b c e = omega (arith, ints, e)

turned_size : (u c r n d e x y t : ℕ) → 0 < u → u * c ≤ r * n + d * y + e * x → 4 * r ≤ u → n ≤ t → 2 * d ≤ u →
    2 * e ≤ u →
    4 * c ≤ t + 2 * (x + y)
turned_size u c r n d e x y t some sum small most p q =
    let first : 4 * r * n ≤ u * t = mul-le-mul small most in
    let second : 2 * d * y ≤ u * y = mul-le-mul_right y p in
    let third : 2 * e * x ≤ u * x = mul-le-mul_right x q in
    let all : u * (4 * c) ≤ u * (t + 2 * (x + y)) = omega (arith, sum, first, second, third) in
    le_of_mul-le-mul_left all some

-- a quarter of what the direction loses, and a half of each part's size
scaled_leans : {unit : ℕ} {v n : Point} → (r : ℤ) (t : ℕ) → 0 < unit → 4 * unsigned_abs r ≤ unit → unsigned_abs v.0 ≤ t →
    unsigned_abs v.1 ≤ t →
    IsDirection unit v n →
    4 * unsigned_abs (cross (scaled_direction unit r n) v) ≤ t + 2 * (unsigned_abs v.0 + unsigned_abs v.1)
scaled_leans {unit} {v} {n} r t some small x y p =
    turned_size unit (unsigned_abs (cross (scaled_direction unit r n) v)) (unsigned_abs r) (unsigned_abs (cross n v))
    (unsigned_abs (lost n.0)) (unsigned_abs (lost n.1)) (unsigned_abs v.0) (unsigned_abs v.1) t some sum small
    (direction_leans t x y p) (rounded_apart (n.0 *ℤ r) unit some) (rounded_apart (n.1 *ℤ r) unit some)
  where
    lost : ℤ → ℤ
    lost k = (rounded (k *ℤ r) unit *ℤ pos unit) -ℤ (k *ℤ r)

    sum : unit * unsigned_abs (cross (scaled_direction unit r n) v) ≤ unsigned_abs r * unsigned_abs (cross n v) +
        unsigned_abs (lost n.0) * unsigned_abs v.1 + unsigned_abs (lost n.1) * unsigned_abs v.0
    sum =
        omega (
          arith,
          sum_sizes (pos unit *ℤ cross (scaled_direction unit r n) v) (r *ℤ cross n v) (lost n.0 *ℤ v.1)
              (lost n.1 *ℤ v.0)
              (turned_off (pos unit) r n.0 n.1 (rounded (n.0 *ℤ r) unit) (rounded (n.1 *ℤ r) unit) v.0 v.1),
          unsigned_abs-mul (pos unit) (cross (scaled_direction unit r n) v),
          unsigned_abs-mul r (cross n v),
          unsigned_abs-mul (lost n.0) v.1,
          unsigned_abs-mul (lost n.1) v.0,
        )

-- ---- the squares

-- `x` and `y` are the sizes of a vector's parts, the greater one first, and `c` is what leans
record IsLean (c x y : ℕ) : Type 0 where
  pub greater : y ≤ x
  pub most : 4 * c ≤ 3 * x + 2 * y

square_bound : {c x y : ℕ} → IsLean c x y → c * c ≤ x * x + y * y
square_bound {c} {x} {y} h =
    let squares : 4 * c * (4 * c) ≤ (3 * x + 2 * y) * (3 * x + 2 * y) = mul-le-mul h.most h.most in
    omega (arith, squares, two_products x y)

half_bound : (c x y : ℕ) → IsLean c x y → 2 * c ≤ x * x + y * y
half_bound c zero y h = omega (arith, h.most, h.greater)
half_bound c (suc zero) zero h = omega (arith, h.most)
half_bound c (suc zero) (suc y) h = omega (arith, h.most, h.greater)
half_bound c (suc (suc x)) zero h = omega (arith, h.most)
half_bound c (suc (suc x)) (suc y) h = omega (arith, h.most, h.greater)

-- of either part the size may be the greater
leans_by : {unit : ℕ} {v n : Point} → (r : ℤ) → 0 < unit → 4 * unsigned_abs r ≤ unit → IsDirection unit v n →
    IsLean (unsigned_abs (cross (scaled_direction unit r n) v)) (unsigned_abs v.0) (unsigned_abs v.1) ⊎
    IsLean (unsigned_abs (cross (scaled_direction unit r n) v)) (unsigned_abs v.1) (unsigned_abs v.0)
leans_by {unit} {v} {n} r some small p =
    ⊎_elim
    (λ (l : unsigned_abs v.0 < unsigned_abs v.1). inr (record {
      greater = omega (arith, l);
      most = omega (arith, scaled_leans r (unsigned_abs v.1) some small (omega (arith, l)) (omega arith) p);
    }))
    (λ (l : unsigned_abs v.1 ≤ unsigned_abs v.0). inl (record {
      greater = l;
      most = omega (arith, scaled_leans r (unsigned_abs v.0) some small (omega arith) l p);
    }))
    (cases_lt (unsigned_abs v.0) (unsigned_abs v.1))

-- a direction times a radius of at most a quarter of the unit lies at most 1 beside its vector
pub lean : {unit : ℕ} {v n : Point} → (r : ℤ) → 0 < unit → 4 * unsigned_abs r ≤ unit → IsDirection unit v n →
    unsigned_abs (cross (scaled_direction unit r n) v) * unsigned_abs (cross (scaled_direction unit r n) v) ≤ length_sq v
lean {unit} {v} {n} r some small p =
    ⊎_elim
    (λ (h : IsLean c (unsigned_abs v.0) (unsigned_abs v.1)). square_bound h)
    (λ (h : IsLean c (unsigned_abs v.1) (unsigned_abs v.0)). omega (arith, square_bound h))
    (leans_by r some small p)
  where
    c : ℕ
    c = unsigned_abs (cross (scaled_direction unit r n) v)

-- and at most half the vector's length
pub half_lean : {unit : ℕ} {v n : Point} → (r : ℤ) → 0 < unit → 4 * unsigned_abs r ≤ unit → IsDirection unit v n →
    2 * unsigned_abs (cross (scaled_direction unit r n) v) ≤ length_sq v
half_lean {unit} {v} {n} r some small p =
    ⊎_elim
    (λ (h : IsLean c (unsigned_abs v.0) (unsigned_abs v.1)). half_bound c (unsigned_abs v.0) (unsigned_abs v.1) h)
    (λ (h : IsLean c (unsigned_abs v.1) (unsigned_abs v.0)). omega
    (arith, half_bound c (unsigned_abs v.1) (unsigned_abs v.0) h))
    (leans_by r some small p)
  where
    c : ℕ
    c = unsigned_abs (cross (scaled_direction unit r n) v)
