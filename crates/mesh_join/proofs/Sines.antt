-- Lemmas over whole numbers and points: what a miter reads from its sines and cosines.
use Rattle.std.proofs.Common.{◌≡◌, ◌≢◌, ℕ, ◌≤◌, ◌^◌, ◌∙◌, Bool, true, false, ap, arith, refl, sym, subst}
use Rattle.std.specs.Prelude.{ℤ, pos, neg_ℤ, ◌*ℤ◌, ◌||◌, unsigned_abs, int_lt}
use Rattle.std.specs.Ordering.{int_eq}
use Rattle.std.proofs.lemmas.Bool.{true≢false}
use Rattle.std.proofs.lemmas.Int.{to_z-of_z, ints}
use mir.Syntax.{w32, w128}
use mir.Val.{to_z, of_z, SFits}
use Rattle.mesh_plane.specs.Plane.{Point, opposite, cross, dot}
use Rattle.mesh_plane.proofs.Identities.{cross_opposite, dot_opposite}
use Rattle.mesh_plane.proofs.Sizes.{le_of_squares, size_neg}
use Rattle.mesh_sine.specs.Sine.{sin_cos, IsWithinOne}
use Rattle.mesh_join.specs.Joints.{Joint}
use Rattle.mesh_join.specs.Private.Miters.{IsHalfSine}
use Rattle.mesh_join.specs.Miters.{slightest, sharpest, half_sharpest, is_angle_below, is_slight, is_sharp}
use Rattle.mesh_join.proofs.Miters.{half_sine}

-- a sine or a cosine fits 32 bits
pub sine_fits : (p : Point) → IsWithinOne p → SFits w32 p.0 × SFits w32 p.1
sine_fits p h =
    let x : unsigned_abs p.0 ≤ 2 ^ 30 = le_of_squares (unsigned_abs p.0) (2 ^ 30) (omega arith) in
    let y : unsigned_abs p.1 ≤ 2 ^ 30 = le_of_squares (unsigned_abs p.1) (2 ^ 30) (omega arith) in
    (omega (arith, ints), omega (arith, ints))

-- the test of an angle, as the code makes it
pub slight_test : (angle : Point) (v w : Point) (sine cosine x d : ℤ) (t : Bool) → t ≡ int_lt (cosine *ℤ pos (unsigned_abs x)) (sine *ℤ d) → cosine ≡ angle.1 → sine ≡ angle.0 →
    x ≡ cross v w → d ≡ dot v w → t ≡ is_angle_below angle v w
slight_test angle v w sine cosine x d t e k s h l = e ∙ rw (k, s, h, l) refl

pub sharp_test : (angle : Point) (v w : Point) (sine cosine x d : ℤ) (t : Bool) → t ≡ int_lt (cosine *ℤ pos (unsigned_abs x)) (sine *ℤ d) → cosine ≡ angle.1 → sine ≡ angle.0 →
    x ≡ cross v w → d ≡ neg_ℤ (dot v w) → t ≡ is_angle_below angle (opposite v) w
sharp_test angle v w sine cosine x d t e k s h l =
    e ∙ rw (k, s, h, l, cross_opposite v w, dot_opposite v w, size_neg (cross v w)) refl

-- a number of 128 bits that is 0
pub is_zero : (x : ℤ) → SFits w128 x → of_z w128 x ≡ 0 → x ≡ pos 0
is_zero x fits e = sym (to_z-of_z w128 x fits) ∙ ap (to_z w128) e

-- a number of 128 bits whose bits are not 0
pub not_zero : (x : ℤ) → (of_z w128 x ≡ 0 → ⊥) → int_eq x (pos 0) ≡ false
not_zero x h = by (int_eq x (pos 0)) refl
  where
    by : (t : Bool) → int_eq x (pos 0) ≡ t → t ≡ false
    by true e = let z : x ≡ pos 0 = grind (arith, ints) in absurd (h (ap (of_z w128) z))
    by false e = refl

-- whether a corner is bevelled at once
pub slight_at_once : (min_turn : ℕ) (j : Joint) (x : ℤ) → x ≡ cross j.incoming j.outgoing → x ≡ pos 0 → is_slight min_turn j ≡ true
unfolding is_slight
slight_at_once min_turn j x e z = rw (sym e ∙ z) refl

pub slight_by_angle : (min_turn : ℕ) (j : Joint) (x : ℤ) (t : Bool) → x ≡ cross j.incoming j.outgoing → int_eq x (pos 0) ≡ false →
    t ≡ is_angle_below (sin_cos (slightest min_turn)) j.incoming j.outgoing → is_slight min_turn j ≡ t
unfolding is_slight
slight_by_angle min_turn j x t e f g =
    ap (λ (b : Bool). b || is_angle_below (sin_cos (slightest min_turn)) j.incoming j.outgoing) (subst (λ (z : ℤ). int_eq z (pos 0) ≡ false) e f) ∙ sym g

pub sharp_by_angle : (angle : ℕ) (j : Joint) (t : Bool) → t ≡ is_angle_below (sin_cos (sharpest angle)) (opposite j.incoming) j.outgoing → is_sharp angle j ≡ t
unfolding is_sharp
sharp_by_angle angle j t g = sym g

-- what is not bevelled at once turns
pub turns : (min_turn : ℕ) (j : Joint) → is_slight min_turn j ≡ false → cross j.incoming j.outgoing ≢ pos 0
unfolding is_slight
turns min_turn j h z = absurd (true≢false (sym (slight_at_once min_turn j (cross j.incoming j.outgoing) refl z) ∙ h))

pub half_is_sine : (angle : ℕ) (half : Point) → half ≡ half_sharpest angle → IsHalfSine half.0
half_is_sine angle half e = subst (λ (p : Point). IsHalfSine p.0) (sym e) (half_sine angle)
