-- Lemmas over whole numbers: what 64 bits keep.
use Rattle.std.proofs.Common.{◌≡◌, ℕ, ◌≤◌, ◌^◌, true, eqb, eqb-true, eq-eqb, lit≤, sym, ◌∙◌, ap, subst, arith}
use Rattle.std.specs.Prelude.{ℤ, pos, ◌+ℤ◌, ◌-ℤ◌, ◌*ℤ◌, neg_ℤ, unsigned_abs}
use Rattle.std.proofs.lemmas.Int.{ints, to_z-of_z}
use mir.Syntax.{w32, w64, w128}
use mir.Val.{SFits, to_z, of_z}
use Rattle.mesh_plane.specs.Bounds.{IsSafe, IsSmall}
use Rattle.mesh_plane.specs.Plane.{Point, Edge, minus, cross, turn}
use Rattle.mesh_meeting.specs.Small.{HasSmallEnds}
use Rattle.mesh_meeting.proofs.Nearest.{turn_shifted}
use Rattle.mesh_lattice.proofs.Arithmetic as wide

pub small_fits : (h : ℕ) (z : ℤ) → h ≤ 2 ^ 63 → IsSmall h z → SFits w64 z
small_fits h z m s = omega (arith, ints, s.low, s.high)

-- what 64 bits keep of a small number
pub small_kept : (h : ℕ) (z : ℤ) → h ≤ 2 ^ 63 → IsSmall h z → to_z w64 (of_z w64 z) ≡ z
small_kept h z m s = to_z-of_z w64 z (small_fits h z m s)

-- the test of 0 on the bits of a number
pub zero_bits : (z : ℤ) → SFits w64 z → (eqb (of_z w64 z) 0 ≡ true → z ≡ pos 0) × (z ≡ pos 0 → eqb (of_z w64 z) 0 ≡ true)
zero_bits z f = ((λ h. let e = eqb-true (of_z w64 z) 0 h in omega (arith, ints)), λ h. eq-eqb (of_z w64 z) 0 (omega (arith, ints)))

-- ---- a remainder of 128 bits, as the code computes it

abbrev pub wide_of : ℤ → ℤ
wide_of z = to_z w128 (of_z w128 (to_z w64 (of_z w64 z)))

abbrev pub rest_of : ℤ → ℤ → ℤ → ℤ → ℤ
rest_of w h d g =
    to_z w128 (of_z w128 (wide_of w *ℤ wide_of h)) -ℤ to_z w128 (of_z w128 (to_z w128 (of_z w128 (to_z w32 (of_z w32 g))) *ℤ wide_of d))

pub record IsRest (w h d g : ℤ) : Type 0 where
  pub way : IsSmall (2 ^ 31) w
  pub height : IsSmall (2 ^ 63) h
  pub whole : IsSmall (2 ^ 63) d
  pub guess : SFits w32 g

guess_small : (g : ℤ) → SFits w32 g → IsSmall (2 ^ 32) g
guess_small g f = wide.i32_small g f

rest_parts : (w h d g : ℤ) → IsRest w h d g → IsSmall (2 ^ 96) (w *ℤ h) × IsSmall (2 ^ 96) (g *ℤ d)
rest_parts w h d g r = (
  wide.small_product (2 ^ 31) (2 ^ 63) (2 ^ 96) w h (lit≤ tt) r.way r.height,
  wide.small_product (2 ^ 32) (2 ^ 63) (2 ^ 96) g d (lit≤ tt) (guess_small g r.guess) r.whole,
)

pub rest_small : (w h d g : ℤ) → IsRest w h d g → IsSmall (2 ^ 97) ((w *ℤ h) -ℤ (g *ℤ d))
rest_small w h d g r =
    wide.small_difference (2 ^ 96) (2 ^ 96) (2 ^ 97) (w *ℤ h) (g *ℤ d) (lit≤ tt) (rest_parts w h d g r).0 (rest_parts w h d g r).1

wide_kept : (m : ℕ) (z : ℤ) → m ≤ 2 ^ 63 → IsSmall m z → wide_of z ≡ z
wide_kept m z l s =
    let l128 : m ≤ 2 ^ 127 = omega arith in
    rw (small_kept m z l s) (wide.small_kept m z l128 s)

pub rest_is : (w h d g : ℤ) → IsRest w h d g → rest_of w h d g ≡ (w *ℤ h) -ℤ (g *ℤ d)
rest_is w h d g r =
    let narrow : to_z w128 (of_z w128 (to_z w32 (of_z w32 g))) ≡ g = rw (to_z-of_z w32 g r.guess) (wide.small_kept (2 ^ 32) g (lit≤ tt) (guess_small g r.guess)) in
    let way = wide_kept (2 ^ 31) w (lit≤ tt) r.way in
    let height = wide_kept (2 ^ 63) h (lit≤ tt) r.height in
    let whole = wide_kept (2 ^ 63) d (lit≤ tt) r.whole in
    let first : to_z w128 (of_z w128 (wide_of w *ℤ wide_of h)) ≡ w *ℤ h =
    ap (λ (z : ℤ). to_z w128 (of_z w128 z)) (λ i. way i *ℤ height i) ∙ wide.small_kept (2 ^ 96) (w *ℤ h) (lit≤ tt) (rest_parts w h d g r).0
    in
    let second : to_z w128 (of_z w128 (to_z w128 (of_z w128 (to_z w32 (of_z w32 g))) *ℤ wide_of d)) ≡ g *ℤ d =
    ap (λ (z : ℤ). to_z w128 (of_z w128 z)) (λ i. narrow i *ℤ whole i) ∙ wide.small_kept (2 ^ 96) (g *ℤ d) (lit≤ tt) (rest_parts w h d g r).1
    in
    λ i. first i -ℤ second i

pub rest_fits : (w h d g : ℤ) → IsRest w h d g → SFits w128 (rest_of w h d g)
rest_fits w h d g r = subst (SFits w128) (sym (rest_is w h d g r)) (wide.small_fits (2 ^ 97) ((w *ℤ h) -ℤ (g *ℤ d)) (lit≤ tt) (rest_small w h d g r))

pub rest_size : (w h d g : ℤ) → IsRest w h d g → unsigned_abs (to_z w128 (of_z w128 (rest_of w h d g))) ≡ unsigned_abs ((w *ℤ h) -ℤ (g *ℤ d))
rest_size w h d g r = ap unsigned_abs (to_z-of_z w128 (rest_of w h d g) (rest_fits w h d g r) ∙ rest_is w h d g r)

-- ---- a sum of two numbers of 32 bits

abbrev pub sum_of_two : ℤ → ℤ → ℤ
sum_of_two a g = to_z w64 (of_z w64 (to_z w64 (of_z w64 (to_z w32 (of_z w32 a))) +ℤ to_z w64 (of_z w64 (to_z w32 (of_z w32 g)))))

pub sum_is : (a g : ℤ) → SFits w32 a → SFits w32 g → sum_of_two a g ≡ a +ℤ g
sum_is a g f h =
    let first : to_z w64 (of_z w64 (to_z w32 (of_z w32 a))) ≡ a = rw (to_z-of_z w32 a f) (small_kept (2 ^ 32) a (lit≤ tt) (guess_small a f)) in
    let second : to_z w64 (of_z w64 (to_z w32 (of_z w32 g))) ≡ g = rw (to_z-of_z w32 g h) (small_kept (2 ^ 32) g (lit≤ tt) (guess_small g h)) in
    ap (λ (z : ℤ). to_z w64 (of_z w64 z)) (λ i. first i +ℤ second i)
    ∙ small_kept (2 ^ 33) (a +ℤ g) (lit≤ tt) (wide.small_sum (2 ^ 32) (2 ^ 32) (2 ^ 33) a g (lit≤ tt) (guess_small a f) (guess_small g h))

pub difference_is : (a b : ℤ) → SFits w32 a → SFits w32 b
    → to_z w64 (of_z w64 (to_z w64 (of_z w64 (to_z w32 (of_z w32 b))) -ℤ to_z w64 (of_z w64 (to_z w32 (of_z w32 a))))) ≡ b -ℤ a
difference_is a b f h =
    let first : to_z w64 (of_z w64 (to_z w32 (of_z w32 a))) ≡ a = rw (to_z-of_z w32 a f) (small_kept (2 ^ 32) a (lit≤ tt) (guess_small a f)) in
    let second : to_z w64 (of_z w64 (to_z w32 (of_z w32 b))) ≡ b = rw (to_z-of_z w32 b h) (small_kept (2 ^ 32) b (lit≤ tt) (guess_small b h)) in
    ap (λ (z : ℤ). to_z w64 (of_z w64 z)) (λ i. second i -ℤ first i)
    ∙ small_kept (2 ^ 33) (b -ℤ a) (lit≤ tt) (wide.small_difference (2 ^ 32) (2 ^ 32) (2 ^ 33) b a (lit≤ tt) (guess_small b h) (guess_small a f))

-- ---- turns

minus_small : (p q : Point) → IsSafe (2 ^ 30) p → IsSafe (2 ^ 30) q → IsSafe (2 ^ 31) (minus p q)
minus_small p q f h = record {
  x = wide.small_difference (2 ^ 30) (2 ^ 30) (2 ^ 31) p.0 q.0 (lit≤ tt) f.x h.x;
  y = wide.small_difference (2 ^ 30) (2 ^ 30) (2 ^ 31) p.1 q.1 (lit≤ tt) f.y h.y;
}

cross_small : (v w : Point) → IsSafe (2 ^ 31) v → IsSafe (2 ^ 31) w → IsSmall (2 ^ 63) (cross v w)
cross_small v w f h =
    wide.small_difference (2 ^ 62) (2 ^ 62) (2 ^ 63) (v.0 *ℤ w.1) (v.1 *ℤ w.0) (lit≤ tt) (wide.small_product (2 ^ 31) (2 ^ 31) (2 ^ 62) v.0 w.1 (lit≤ tt) f.x h.y)
    (wide.small_product (2 ^ 31) (2 ^ 31) (2 ^ 62) v.1 w.0 (lit≤ tt) f.y h.x)

pub turn_small : (e : Edge) (p : Point) → HasSmallEnds e → IsSafe (2 ^ 30) p → IsSmall (2 ^ 63) (turn e.0 e.1 p)
turn_small e p h s = cross_small (minus e.1 e.0) (minus p e.0) (minus_small e.1 e.0 h.end h.start) (minus_small p e.0 s h.start)

pub negated : (z t : ℤ) → IsSmall (2 ^ 63) z → z ≡ t → to_z w64 (of_z w64 (pos 0 -ℤ to_z w64 (of_z w64 z))) ≡ neg_ℤ t
negated z t s e =
    let other : IsSmall (2 ^ 63) (pos 0 -ℤ z) = record { low = omega (arith, ints, s.high); high = omega (arith, ints, s.low) } in
    ap (λ (x : ℤ). to_z w64 (of_z w64 (pos 0 -ℤ x))) (small_kept (2 ^ 63) z (lit≤ tt) s) ∙ (small_kept (2 ^ 63) (pos 0 -ℤ z) (lit≤ tt) other ∙ omega (arith, ints, e))

-- what the heights of both ends of an edge differ by
pub whole_small : (e f : Edge) (s : ℤ × ℤ) → HasSmallEnds e → HasSmallEnds f → s ≡ (turn f.0 f.1 e.0, turn f.0 f.1 e.1) → IsSmall (2 ^ 63) (s.0 -ℤ s.1)
whole_small e f s h k is =
    let product = cross_small (minus f.1 f.0) (minus e.1 e.0) (minus_small f.1 f.0 k.end k.start) (minus_small e.1 e.0 h.end h.start) in
    let first : s.0 ≡ turn f.0 f.1 e.0 = ap (λ (v : ℤ × ℤ). v.0) is in
    let second : s.1 ≡ turn f.0 f.1 e.0 +ℤ cross (minus f.1 f.0) (minus e.1 e.0) = ap (λ (v : ℤ × ℤ). v.1) is ∙ turn_shifted f.0 f.1 e.0 e.1 in
    opposite_small s.0 s.1 (turn f.0 f.1 e.0) (cross (minus f.1 f.0) (minus e.1 e.0)) first second product
  where
    opposite_small : (x y m n : ℤ) → x ≡ m → y ≡ m +ℤ n → IsSmall (2 ^ 63) n → IsSmall (2 ^ 63) (x -ℤ y)
    opposite_small x y m n a b s = record { low = omega (arith, ints, s.high); high = omega (arith, ints, s.low) }
