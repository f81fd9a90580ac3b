-- Lemmas over points and lists: turns, and the crossing of one edge at one point.
use Rattle.std.proofs.Common.{◌≡◌, ℕ, ◌⊎◌, arith}
use Rattle.std.specs.Prelude.{ℤ, pos, negsuc, ◌+ℤ◌, ◌*ℤ◌, ◌≤ℤ◌, neg_ℤ}
use lib.Signed.{◌<ℤ◌}
use Rattle.std.proofs.lemmas.Int.{ints}
use Rattle.mesh_plane.specs.Plane.{Point, turn}
use Rattle.mesh_plane.specs.Winding.{IsStraight, crossing_of, crossing, refined, crossing_on}
use Rattle.mesh_plane.proofs.Whole.{linear, multiplied, mul_nonneg}

-- turns
pub turn_flip : (p r q : Point) → turn r p q ≡ neg_ℤ (turn p r q)
turn_flip p r q = simp multiplied (omega (arith, linear))

pub turn_cycle : (p r s : Point) → turn p r s ≡ turn r s p
turn_cycle p r s = simp multiplied (omega (arith, linear))

pub turn_swap : (p r s : Point) → turn p s r ≡ neg_ℤ (turn p r s)
turn_swap p r s = simp multiplied (omega (arith, linear))

-- what adds up along lines is 0 from a point to itself
pub straight_none : (f : Point → Point → ℤ) → IsStraight f → (p : Point) → f p p ≡ pos 0
straight_none f straight p = omega (arith, linear, straight p p p (omega (arith, linear, turn_swap p p p)))

-- the crossing over bare numbers: the heights of both ends, the height of the point and its turn
pub crossing_of_flip : (a b h t s : ℤ) → s ≡ neg_ℤ t → crossing_of a b h t +ℤ crossing_of b a h s ≡ pos 0
crossing_of_flip a b h t s e = grind (arith, ints)

pub crossing_odd : (q p r : Point) → crossing q p r +ℤ crossing q r p ≡ pos 0
crossing_odd q p r = crossing_of_flip p.1 r.1 q.1 (turn p r q) (turn r p q) (turn_flip p r q)

pub crossing_low : (a b h t : ℤ) → a ≤ℤ h → b ≤ℤ h → crossing_of a b h t ≡ pos 0
crossing_low a b h t x y = grind (arith, ints)

pub crossing_high : (a b h t : ℤ) → h <ℤ a → h <ℤ b → crossing_of a b h t ≡ pos 0
crossing_high a b h t x y = grind (arith, ints)

pub crossing_up : (a b h t : ℤ) → a ≤ℤ h → h <ℤ b → ((crossing_of a b h t ≡ pos 1) × (pos 0 <ℤ t)) ⊎ ((crossing_of a b h t ≡ pos 0) × (t ≤ℤ pos 0))
crossing_up a b h t x y = grind (arith, ints)

pub crossing_down : (a b h t : ℤ) → h <ℤ a → b ≤ℤ h → ((crossing_of a b h t ≡ negsuc 0) × (t <ℤ pos 0)) ⊎ ((crossing_of a b h t ≡ pos 0) × (pos 0 ≤ℤ t))
crossing_down a b h t x y = grind (arith, ints)

-- an edge that crosses upwards starts no higher than the point and ends above it
pub crossing_rises : (a b h t : ℤ) →
    (crossing_of a b h t ≤ℤ pos 1) × ((crossing_of a b h t ≤ℤ pos 0) ⊎ ((a ≤ℤ h) × (h <ℤ b)))
crossing_rises a b h t = grind (arith, ints)

-- turns on the finer grid
pub turn_refined : (m : ℕ) (p r s : Point) →
    turn (refined m p) (refined m r) (refined m s) ≡ pos m *ℤ (pos m *ℤ turn p r s)
turn_refined m p r s = simp multiplied (omega (arith, linear))

pub turn_refined_left : (m : ℕ) (p r s : Point) → pos 0 ≤ℤ turn p r s → pos 0 ≤ℤ turn (refined m p) (refined m r) (refined m s)
turn_refined_left m p r s h =
    let k : pos 0 ≤ℤ pos m = omega (arith, ints) in
    rw (turn_refined m p r s) (mul_nonneg (pos m) (pos m *ℤ turn p r s) k (mul_nonneg (pos m) (turn p r s) k h))

pub turn_refined_right : (m : ℕ) (p r s : Point) → turn p r s ≤ℤ pos 0 → turn (refined m p) (refined m r) (refined m s) ≤ℤ pos 0
turn_refined_right m p r s h =
    let k : pos 0 ≤ℤ turn p s r = omega (arith, linear, turn_swap p r s) in
    omega (arith, linear, turn_refined_left m p s r k, turn_swap (refined m p) (refined m r) (refined m s))

pub turn_refined_flat : (m : ℕ) (p r s : Point) → turn p r s ≡ pos 0 → turn (refined m p) (refined m r) (refined m s) ≡ pos 0
turn_refined_flat m p r s h =
    omega (arith, linear, turn_refined_left m p r s (omega (arith, linear)), turn_refined_right m p r s (omega (arith, linear)))

pub crossing_on_odd : (m : ℕ) (q p r : Point) → crossing_on m q p r +ℤ crossing_on m q r p ≡ pos 0
crossing_on_odd m q p r = crossing_odd q (refined m p) (refined m r)
