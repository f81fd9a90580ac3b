-- Lemmas over points: how far a point lies from an edge, rounded up.
use Rattle.std.proofs.Common.{ℕ, ◌≡◌, ◌+◌, ◌*◌, ◌/◌, ◌%◌, ◌<◌, ◌≤◌, ◌^◌, min, max, arith, ap, zero, suc}
use Rattle.std.specs.Prelude.{ℤ, ◌-ℤ◌, ◌*ℤ◌, unsigned_abs}
use Rattle.std.specs.Int.{div_ceil}
use Rattle.std.proofs.lemmas.Grind.{div_ceil_times}
use Rattle.std.proofs.lemmas.Int.{ints, unsigned_abs-mul}
use Rattle.std.proofs.Math.Nat.{mul-le-mul_left, lt_of_mul-lt-mul_right}
use mir.Syntax.{w32}
use mir.Val.{SFits}
use Rattle.mesh_plane.specs.Plane.{Point, Edge, turn}
use Rattle.mesh_lattice.specs.Nearness.{IsNearTo}
use Rattle.mesh_lattice.specs.Split.{IsInBox}
use Rattle.mesh_lattice.proofs.Nearness.{near_of_turn, turn_of_near}
use Rattle.mesh_store.specs.Steps.{extent}

-- a turn about an edge is no greater than its extent times the greatest difference of coordinates
pub turn_small : (e : Edge) (c : Point) → SFits w32 e.0.0 → SFits w32 e.0.1 → SFits w32 c.0 → SFits w32 c.1
    → unsigned_abs (turn e.0 e.1 c) ≤ 2 ^ 32 * extent e
turn_small e c a b p q =
    let x : unsigned_abs (c.0 -ℤ e.0.0) ≤ 2 ^ 32 = omega (arith, ints) in
    let y : unsigned_abs (c.1 -ℤ e.0.1) ≤ 2 ^ 32 = omega (arith, ints) in
    let first = product (e.1.0 -ℤ e.0.0) (c.1 -ℤ e.0.1) y in
    let second = product (e.1.1 -ℤ e.0.1) (c.0 -ℤ e.0.0) x in
    less ((e.1.0 -ℤ e.0.0) *ℤ (c.1 -ℤ e.0.1)) ((e.1.1 -ℤ e.0.1) *ℤ (c.0 -ℤ e.0.0)) (unsigned_abs (e.1.0 -ℤ e.0.0)) (unsigned_abs (e.1.1 -ℤ e.0.1)) first second
  where
    product : (a b : ℤ) → unsigned_abs b ≤ 2 ^ 32 → unsigned_abs (a *ℤ b) ≤ 2 ^ 32 * unsigned_abs a
    product a b h = omega (arith, unsigned_abs-mul a b, mul-le-mul_left (unsigned_abs a) h)

    less : (a b : ℤ) (m n : ℕ) → unsigned_abs a ≤ 2 ^ 32 * m → unsigned_abs b ≤ 2 ^ 32 * n → unsigned_abs (a -ℤ b) ≤ 2 ^ 32 * (m + n)
    less a b m n h k = omega (arith, ints, h, k)

-- what is known of a distance: 64 times the turn over the extent, rounded up
pub record IsDistance (e : Edge) (c : Point) (k : ℕ) : Type 0 where
  pub small : unsigned_abs (turn e.0 e.1 c) ≤ 2 ^ 32 * extent e
  pub value : k ≡ div_ceil (unsigned_abs (turn e.0 e.1 c) * 64) (max (extent e) 1)

pub distance_small : (e : Edge) (c : Point) (k : ℕ) → IsDistance e c k → k ≤ 2 ^ 38
distance_small e c k h = by (unsigned_abs (turn e.0 e.1 c)) (extent e) h.small h.value
  where
    by : (t x : ℕ) → t ≤ 2 ^ 32 * x → k ≡ div_ceil (t * 64) (max x 1) → k ≤ 2 ^ 38
    by t x small value =
        let times = (div_ceil_times (t * 64) (max x 1) (omega arith)).1 in
        let same : k * max x 1 ≡ (t * 64 / max x 1 + min 1 (t * 64 % max x 1)) * max x 1 = ap (λ (n : ℕ). n * max x 1) value in
        let most : k * max x 1 < (2 ^ 38 + 1) * max x 1 = omega (arith, same, times) in
        let r : k < 2 ^ 38 + 1 = lt_of_mul-lt-mul_right (max x 1) most in
        omega arith

pub distance_near : (e : Edge) (c : Point) (k : ℕ) → IsDistance e c k → IsInBox e c → IsNearTo k 1 e c
distance_near e c k h box = near_of_turn k e c box (by (unsigned_abs (turn e.0 e.1 c)) (extent e) h.small h.value)
  where
    by : (t x : ℕ) → t ≤ 2 ^ 32 * x → k ≡ div_ceil (t * 64) (max x 1) → 64 * t ≤ k * x
    by t zero small value = omega arith
    by t (suc x) small value =
        let times = (div_ceil_times (t * 64) (max (suc x) 1) (omega arith)).0 in
        let same : k * max (suc x) 1 ≡ (t * 64 / max (suc x) 1 + min 1 (t * 64 % max (suc x) 1)) * max (suc x) 1 = ap (λ (n : ℕ). n * max (suc x) 1) value in
        let all : k * max (suc x) 1 ≡ k * suc x = ap (λ (n : ℕ). k * n) (let m : max (suc x) 1 ≡ suc x = omega arith in m) in
        omega (arith, same, times, all)

pub distance_least : (e : Edge) (c : Point) (k : ℕ) → IsDistance e c k → (l : ℕ) → l < k → IsNearTo l 1 e c → ⊥
distance_least e c k h l less near = by (unsigned_abs (turn e.0 e.1 c)) (extent e) h.value (turn_of_near l e c near)
  where
    by : (t x : ℕ) → k ≡ div_ceil (t * 64) (max x 1) → 64 * t ≤ l * x → ⊥
    by t x value most =
        let times = (div_ceil_times (t * 64) (max x 1) (omega arith)).1 in
        let same : k * max x 1 ≡ (t * 64 / max x 1 + min 1 (t * 64 % max x 1)) * max x 1 = ap (λ (n : ℕ). n * max x 1) value in
        let wide : l * x ≤ l * max x 1 = mul-le-mul_left l (let w : x ≤ max x 1 = omega arith in w) in
        let past : k * max x 1 < (l + 1) * max x 1 = omega (arith, same, times) in
        let r : k < l + 1 = lt_of_mul-lt-mul_right (max x 1) past in
        omega arith
