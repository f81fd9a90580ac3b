-- Lemmas over points: a line from one height up to another, which a point's height lies between, and a point that lies
-- to the west of both of its ends, or to the east.
use Rattle.std.proofs.Common.{◌≡◌, true, false, ◌&&◌, [], ◌∷◌, refl, sym, arith}
use Rattle.std.specs.Prelude.{ℤ, pos, negsuc, ◌+ℤ◌, ◌-ℤ◌, ◌*ℤ◌, ◌≤ℤ◌, ◌<ℤ◌, neg_ℤ, int_le, int_lt}
use Rattle.std.proofs.lemmas.Int.{ints}
use Rattle.mesh_plane.specs.Plane.{Point, turn}
use Rattle.mesh_plane.specs.Winding.{crossing_of}
use Rattle.mesh_plane.proofs.Comparing.{less_test, not_less_test}
use Rattle.mesh_plane.proofs.Whole.{linear, mul_nonneg, mul_pos}
use Rattle.mesh_plane.proofs.Ring.{ring, var, neg, ◌⊕◌, ◌⊖◌, ◌⊗◌, cross_of}

-- the turn from both ends, as the point sees them
pub turn_between : (p r q : Point) → turn p r q ≡ ((r.0 -ℤ q.0) *ℤ (q.1 -ℤ p.1)) +ℤ ((p.0 -ℤ q.0) *ℤ (r.1 -ℤ q.1))
turn_between p r q =
    let a = var 0 in
    let b = var 1 in
    let c = var 2 in
    let d = var 3 in
    let x = var 4 in
    let y = var 5 in
    ring (p.0 ∷ p.1 ∷ r.0 ∷ r.1 ∷ q.0 ∷ q.1 ∷ []) (cross_of (c ⊖ a) (d ⊖ b) (x ⊖ a) (y ⊖ b)) (((c ⊖ x) ⊗ (y ⊖ b)) ⊕ ((a ⊖ x) ⊗ (d ⊖ y))) refl

-- the same from the other side
turn_beyond : (p r q : Point) → turn p r q ≡ neg_ℤ (((q.0 -ℤ r.0) *ℤ (q.1 -ℤ p.1)) +ℤ ((q.0 -ℤ p.0) *ℤ (r.1 -ℤ q.1)))
turn_beyond p r q =
    let a = var 0 in
    let b = var 1 in
    let c = var 2 in
    let d = var 3 in
    let x = var 4 in
    let y = var 5 in
    ring (p.0 ∷ p.1 ∷ r.0 ∷ r.1 ∷ q.0 ∷ q.1 ∷ []) (cross_of (c ⊖ a) (d ⊖ b) (x ⊖ a) (y ⊖ b)) (neg (((x ⊖ c) ⊗ (y ⊖ b)) ⊕ ((x ⊖ a) ⊗ (d ⊖ y)))) refl

west_of_both : (p r q : Point) → p.1 ≤ℤ q.1 → q.1 <ℤ r.1 → q.0 <ℤ p.0 → q.0 <ℤ r.0 → pos 0 <ℤ turn p r q
west_of_both p r q h k f g =
    omega (
      arith,
      linear,
      turn_between p r q,
      mul_nonneg (r.0 -ℤ q.0) (q.1 -ℤ p.1) (omega (arith, linear, g)) (omega (arith, linear, h)),
      mul_pos (p.0 -ℤ q.0) (r.1 -ℤ q.1) (omega (arith, linear, f)) (omega (arith, linear, k)),
    )

east_of_both : (p r q : Point) → p.1 ≤ℤ q.1 → q.1 <ℤ r.1 → p.0 ≤ℤ q.0 → r.0 ≤ℤ q.0 → turn p r q ≤ℤ pos 0
east_of_both p r q h k f g =
    omega (
      arith,
      linear,
      turn_beyond p r q,
      mul_nonneg (q.0 -ℤ r.0) (q.1 -ℤ p.1) (omega (arith, linear, g)) (omega (arith, linear, h)),
      mul_nonneg (q.0 -ℤ p.0) (r.1 -ℤ q.1) (omega (arith, linear, f)) (omega (arith, linear, k)),
    )

-- ---- the tests of the code

spanned : (a b h : ℤ) → (int_le a h && int_lt h b) ≡ true → (a ≤ℤ h) × (h <ℤ b)
spanned a b h t = grind (arith, ints)

below_both : (a b x : ℤ) → (int_lt x a && int_lt x b) ≡ true → (x <ℤ a) × (x <ℤ b)
below_both a b x t = grind (arith, ints)

above_both : (a b x : ℤ) → (int_le a x && int_le b x) ≡ true → (a ≤ℤ x) × (b ≤ℤ x)
above_both a b x t = grind (arith, ints)

pub west_test : (p r q : Point) → (int_le p.1 q.1 && int_lt q.1 r.1) ≡ true → (int_lt q.0 p.0 && int_lt q.0 r.0) ≡ true → true ≡ int_lt (pos 0) (turn p r q)
west_test p r q h w =
    let s = spanned p.1 r.1 q.1 h in
    let b = below_both p.0 r.0 q.0 w in
    sym (less_test (pos 0) (turn p r q) (west_of_both p r q s.0 s.1 b.0 b.1))

pub east_test : (p r q : Point) → (int_le p.1 q.1 && int_lt q.1 r.1) ≡ true → (int_le p.0 q.0 && int_le r.0 q.0) ≡ true → false ≡ int_lt (pos 0) (turn p r q)
east_test p r q h w =
    let s = spanned p.1 r.1 q.1 h in
    let b = above_both p.0 r.0 q.0 w in
    sym (not_less_test (pos 0) (turn p r q) (east_of_both p r q s.0 s.1 b.0 b.1))

-- an edge that goes down past a point's height, seen from its lower end
pub down_west : (a b h t s : ℤ) → s ≡ neg_ℤ t → (int_le a h && int_lt h b) ≡ false → (int_le b h && int_lt h a) ≡ true → true ≡ int_lt (pos 0) s → negsuc 0 ≡ crossing_of a b h t
down_west a b h t s e x y z = grind (arith, ints)

pub down_east : (a b h t s : ℤ) → s ≡ neg_ℤ t → (int_le a h && int_lt h b) ≡ false → (int_le b h && int_lt h a) ≡ true → false ≡ int_lt (pos 0) s → pos 0 ≡ crossing_of a b h t
down_east a b h t s e x y z = grind (arith, ints)
