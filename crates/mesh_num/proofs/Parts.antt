-- Lemmas over points: each vector other than 0 has one direction, which is odd, short and fresh.
use Rattle.std.proofs.Common.{◌≡◌, ℕ, ◌+◌, ◌*◌, ◌-◌, ◌<◌, ◌≤◌, refl, sym, subst, arith, zero, suc, ⊎_elim}
use Rattle.std.specs.Prelude.{true, false, ℤ, pos, negsuc, neg_ℤ, unsigned_abs}
use Rattle.std.specs.Int.Signed.{lt_z}
use Rattle.std.proofs.Math.Nat.{mul-le-mul, mul-le-mul_left, mul-le-mul_right, le_of_mul-le-mul_right, lt_of_mul-lt-mul_right}
use Rattle.std.proofs.lemmas.Bool.{cases_lt, ltb-true, true≢false}
use Rattle.std.proofs.lemmas.Int.{ints}
use Rattle.mesh_plane.specs.Plane.{Point, opposite, length_sq}
use Rattle.mesh_num.specs.Direction.{IsShare, IsPart, IsDirection, IsShort, IsFresh, KeepsOpposites}
use Rattle.mesh_plane.proofs.Sizes.{size_neg, length_opposite, lt_of_squares, two_products}
use Rattle.mesh_plane.proofs.Signs.{sign_neg, same_number}

-- ---- one component

pub part_unique : {unit square : ℕ} {x k j : ℤ} → IsPart unit square x k → IsPart unit square x j → k ≡ j
part_unique {unit} {square} {x} {k} {j} p q =
    let a : unsigned_abs k ≤ unsigned_abs j = q.greatest (unsigned_abs k) p.within in
    let b : unsigned_abs j ≤ unsigned_abs k = p.greatest (unsigned_abs j) q.within in
    same_number p.sign q.sign (omega arith)

pub part_opposite : {unit square : ℕ} {x k : ℤ} → IsPart unit square x k → IsPart unit square (neg_ℤ x) (neg_ℤ k)
part_opposite {unit} {square} {x} {k} p =
    record {
      sign = sign_neg p.sign;
      within = rw (size_neg x, size_neg k) p.within;
      greatest = rw (size_neg x, size_neg k) p.greatest;
    }

-- a component with at least the share of another has at least its size
pub part_grows : {unit l m : ℕ} {x k y j : ℤ} → 0 < l → IsPart unit l x k → IsPart unit m y j
    → unsigned_abs x * unsigned_abs x * m ≤ unsigned_abs y * unsigned_abs y * l → unsigned_abs k ≤ unsigned_abs j
part_grows {unit} {l} {m} {x} {k} {y} {j} h p q e = q.greatest (unsigned_abs k) (grown unit l m (unsigned_abs x) (unsigned_abs k) (unsigned_abs y) h p.within e)
  where
    grown : (u l m x k y : ℕ) → 0 < l → k * k * l ≤ u * u * (x * x) → x * x * m ≤ y * y * l → k * k * m ≤ u * u * (y * y)
    grown u l m x k y h p e =
        let a : k * k * l * m ≤ u * u * (x * x) * m = mul-le-mul_right m p in
        let b : u * u * (x * x * m) ≤ u * u * (y * y * l) = mul-le-mul_left (u * u) e in
        let c : k * k * m * l ≤ u * u * (y * y) * l = omega arith in
        le_of_mul-le-mul_right c h

-- one more than the size of a component has a greater share
pub part_ends : {unit square : ℕ} {x k : ℤ} → IsPart unit square x k
    → unit * unit * (unsigned_abs x * unsigned_abs x) < (unsigned_abs k + 1) * (unsigned_abs k + 1) * square
part_ends {unit} {square} {x} {k} p =
    ⊎_elim (λ l. l) (λ l. absurd (omega (arith, p.greatest (unsigned_abs k + 1) l))) (cases_lt (unit * unit * (unsigned_abs x * unsigned_abs x)) ((unsigned_abs k + 1) * (unsigned_abs k + 1) * square))

-- only 0 has a share of 0
no_share : (unit square k : ℕ) → 0 < square → IsShare unit square 0 k → k ≡ 0
no_share unit square zero l h = refl
no_share unit square (suc k) l h =
    let one : 1 ≤ suc k = omega arith in
    let product : 1 * 1 * square ≤ suc k * suc k * square = mul-le-mul_right square (mul-le-mul one one) in
    absurd (omega arith)

-- the greatest number with a share is the size of the component
pub part_positive : (unit square k : ℕ) (x : ℤ) → 0 < square → lt_z x (pos 0) ≡ false → IsShare unit square (unsigned_abs x) k
    → ((j : ℕ) → IsShare unit square (unsigned_abs x) j → j ≤ k) → IsPart unit square x (pos k)
part_positive unit square k (negsuc x) l f w g = absurd (true≢false f)
part_positive unit square k (pos zero) l f w g = record {
  sign = record { nonneg = λ h. omega (arith, ints); nonpos = λ h. omega (arith, ints, no_share unit square k l w) };
  within = w;
  greatest = g;
}
part_positive unit square k (pos (suc x)) l f w g = record {
  sign = record { nonneg = λ h. omega (arith, ints); nonpos = λ h. absurd (omega (arith, ints)) };
  within = w;
  greatest = g;
}

pub part_negative : (unit square k : ℕ) (x : ℤ) → lt_z x (pos 0) ≡ true → IsShare unit square (unsigned_abs x) k
    → ((j : ℕ) → IsShare unit square (unsigned_abs x) j → j ≤ k) → IsPart unit square x (neg_ℤ (pos k))
part_negative unit square k (pos x) f w g = absurd (omega (arith, ltb-true x 0 f))
part_negative unit square k (negsuc x) f w g = record {
  sign = record { nonneg = λ h. absurd (omega (arith, ints)); nonpos = λ h. omega (arith, ints) };
  within = rw (size_neg (pos k)) w;
  greatest = λ j. rw (size_neg (pos k)) (g j);
}

-- ---- both components

pub direction_unique : {unit : ℕ} {v n m : Point} → IsDirection unit v n → IsDirection unit v m → n ≡ m
direction_unique p q = λ i. (part_unique p.x q.x i, part_unique p.y q.y i)

pub direction_opposite : {unit : ℕ} {v n : Point} → IsDirection unit v n → IsDirection unit (opposite v) (opposite n)
direction_opposite {unit} {v} {n} p =
    let e : length_sq v ≡ length_sq (opposite v) = sym (length_opposite v) in
    record {
      x = subst (λ (l : ℕ). IsPart unit l (neg_ℤ v.0) (neg_ℤ n.0)) e (part_opposite p.x);
      y = subst (λ (l : ℕ). IsPart unit l (neg_ℤ v.1) (neg_ℤ n.1)) e (part_opposite p.y);
    }

pub direction_odd : {unit : ℕ} {v n : Point} → IsDirection unit v n → KeepsOpposites unit v n
direction_odd p m q = direction_unique q (direction_opposite p)

-- a vector with a direction is not 0
pub has_length : {unit : ℕ} {v n : Point} → IsDirection unit v n → 0 < length_sq v
has_length {unit} {v} {n} p = omega (arith, long unit (length_sq v) (unsigned_abs v.0) (unsigned_abs n.0) (part_ends p.x))
  where
    long : (u l x k : ℕ) → u * u * (x * x) < (k + 1) * (k + 1) * l → 0 < l
    long u zero x k h = absurd (omega arith)
    long u (suc l) x k h = omega arith

pub direction_short : {unit : ℕ} {v n : Point} → IsDirection unit v n → IsShort unit n
direction_short {unit} {v} {n} p =
    let h : length_sq n * length_sq v ≤ unit * unit * length_sq v = omega (arith, p.x.within, p.y.within) in
    le_of_mul-le-mul_right h (has_length p)

-- two components of one vector are a direction
pub parts_join : {unit square : ℕ} {x y k l : ℤ} → square ≡ length_sq (x, y) → IsPart unit square x k → IsPart unit square y l → IsDirection unit (x, y) (k, l)
parts_join {unit} {square} {x} {y} {k} {l} e p q =
    record {
      x = subst (λ (n : ℕ). IsPart unit n x k) e p;
      y = subst (λ (n : ℕ). IsPart unit n y l) e q;
    }

fresh_size : (u k l : ℕ) → (u + 2) * (u + 2) < (k + 1) * (k + 1) + (l + 1) * (l + 1) → u * u ≤ k * k + l * l
fresh_size u k l h =
    ⊎_elim
    (λ a.
    let b : (k + l) * (k + l) < (2 * u) * (2 * u) = omega (arith, two_products k l) in
    let c : k + l < 2 * u = lt_of_squares (k + l) (2 * u) b in
    absurd (omega arith))
    (λ a. a)
    (cases_lt (k * k + l * l) (u * u))

pub direction_fresh : {unit : ℕ} {v n : Point} → 2 ≤ unit → IsDirection unit v n → IsFresh unit n
direction_fresh {unit} {v} {n} h p =
    let k = unsigned_abs n.0 in
    let l = unsigned_abs n.1 in
    let a : unit * unit * length_sq v < ((k + 1) * (k + 1) + (l + 1) * (l + 1)) * length_sq v = omega (arith, part_ends p.x, part_ends p.y) in
    let b : unit * unit < (k + 1) * (k + 1) + (l + 1) * (l + 1) = lt_of_mul-lt-mul_right (length_sq v) a in
    let e : unit - 2 + 2 ≡ unit = omega arith in
    fresh_size (unit - 2) k l (rw e b)
