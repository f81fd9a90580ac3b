-- Lemmas over whole numbers: what the code puts together are the normals of their definitions, and no number on the way
-- is too great.
use Rattle.std.proofs.Common.{◌≡◌, ℕ, ◌-◌, ◌*◌, ◌<◌, ◌≤◌, ◌^◌, ◌∙◌, ap, arith}
use Rattle.std.specs.Prelude.{ℤ, pos, ◌+ℤ◌, ◌-ℤ◌, ◌*ℤ◌, neg_ℤ, unsigned_abs}
use Rattle.std.proofs.lemmas.Int.{ints}
use Rattle.std.proofs.lemmas.Nat.{mul-lt}
use mir.Syntax.{w128}
use mir.Val.{SFits}
use Rattle.mesh_plane.specs.Plane.{Point, length_sq}
use Rattle.mesh_plane.proofs.Sizes.{lt_of_squares}
use Rattle.mesh_plane.proofs.Whole.{linear, neg_mul}
use Rattle.mesh_num.specs.Widths.{IsUnit}
use Rattle.mesh_sine.specs.Sine.{root}
use Rattle.mesh_circle.specs.Tangents.{lift, tangent_length, left_normal, right_normal, normal_length}
use Rattle.mesh_circle.specs.Private.Normals.{IsBounded}
use Rattle.mesh_circle.proofs.Contacts.{left_normal_most, right_normal_most}
use Rattle.mesh_circle.proofs.Lifts.{bound_most, normal_length_most, lift_some}

-- ---- sizes

pub square_most : (unit square : ℕ) → IsUnit unit → square < 8 * unit * unit → square < 2 ^ 63
square_most unit square u h = omega (arith, bound_most unit u, h)

pub root_small : (n square : ℕ) → n * n ≤ square → square < 2 ^ 63 → n < 2 ^ 32
root_small n square h l = lt_of_squares n (2 ^ 32) (omega (arith, h, l))

pub length_small : (unit square l : ℕ) → square < 2 ^ 63 → l ≡ lift unit square → square * l < 2 ^ 63
length_small unit square l h e =
    let p : square * l ≡ square * lift unit square = ap (λ (n : ℕ). square * n) e in
    omega (arith, p, normal_length_most unit square h)

-- a difference and a sum of two products
pub difference_fits : (p q : ℤ) → unsigned_abs p ≤ 2 ^ 96 → unsigned_abs q ≤ 2 ^ 96 → SFits w128 (p -ℤ q)
difference_fits p q h k = omega (arith, ints)

pub sum_fits : (p q : ℤ) → unsigned_abs p ≤ 2 ^ 96 → unsigned_abs q ≤ 2 ^ 96 → SFits w128 (p +ℤ q)
sum_fits p q h k = omega (arith, ints)

-- ---- bounds

normal_some : (unit d : ℕ) (v : Point) → d < length_sq v → 0 < normal_length unit v
normal_some unit d v h =
    mul-lt 0 0 (length_sq v) (lift unit (length_sq v)) (omega (arith, h)) (lift_some unit (length_sq v))

pub left_bounded : (unit l : ℕ) (v n : Point) (delta : ℤ) → unsigned_abs delta * unsigned_abs delta < length_sq v →
    length_sq v < 2 ^ 63 →
    l ≡ normal_length unit v → n ≡ left_normal unit v delta → IsBounded l n
left_bounded unit l v n delta h m e f =
    let b : IsBounded (normal_length unit v) (left_normal unit v delta) = record {
      some = normal_some unit _ v h;
      most = normal_length_most unit (length_sq v) m;
      short = left_normal_most unit v delta (omega (arith, h));
    } in
    rw (e, f) b

pub right_bounded : (unit l : ℕ) (v n : Point) (delta : ℤ) → unsigned_abs delta * unsigned_abs delta < length_sq v →
    length_sq v < 2 ^ 63 →
    l ≡ normal_length unit v → n ≡ right_normal unit v delta → IsBounded l n
right_bounded unit l v n delta h m e f =
    let b : IsBounded (normal_length unit v) (right_normal unit v delta) = record {
      some = normal_some unit _ v h;
      most = normal_length_most unit (length_sq v) m;
      short = right_normal_most unit v delta (omega (arith, h));
    } in
    rw (e, f) b

-- ---- values

pub lift_made : (unit square l : ℕ) (v : Point) → square ≡ length_sq v → l ≡ lift unit square →
    l ≡ lift unit (length_sq v)
lift_made unit square l v e f = f ∙ ap (lift unit) e

pub along_made : (unit square l d t : ℕ) (v : Point) (delta : ℤ) → square ≡ length_sq v → l ≡ lift unit square →
    d ≡ unsigned_abs delta →
    t ≡ root ((square - d * d) * (l * l)) → t ≡ tangent_length unit v delta
along_made unit square l d t v delta e f g h =
    let k : l ≡ lift unit (length_sq v) = lift_made unit square l v e f in
    h ∙ (λ i. root ((e i - g i * g i) * (k i * k i)))

pub length_made : (unit square l : ℕ) (v : Point) → square ≡ length_sq v → l ≡ lift unit square →
    square * l ≡ normal_length unit v
length_made unit square l v e f =
    let k : l ≡ lift unit (length_sq v) = lift_made unit square l v e f in
    λ i. e i * k i

-- with the lift, the tangent's length and the lifted difference of the radii
pub left_made : (unit : ℕ) (v : Point) (delta : ℤ) (l t : ℕ) (c : ℤ) (n : Point) → l ≡ lift unit (length_sq v) →
    t ≡ tangent_length unit v delta →
    c ≡ delta *ℤ pos l → n.0 ≡ (c *ℤ v.0) -ℤ (pos t *ℤ v.1) → n.1 ≡ (c *ℤ v.1) +ℤ (pos t *ℤ v.0) → n ≡ left_normal
    unit v delta
left_made unit v delta l t c n e f g x y =
    let h : c ≡ delta *ℤ pos (lift unit (length_sq v)) = g ∙ ap (λ (k : ℕ). delta *ℤ pos k) e in
    let p : n.0 ≡ (left_normal unit v delta).0 = x ∙ (λ i. (h i *ℤ v.0) -ℤ (pos (f i) *ℤ v.1)) in
    let q : n.1 ≡ (left_normal unit v delta).1 = y ∙ (λ i. (h i *ℤ v.1) +ℤ (pos (f i) *ℤ v.0)) in
    λ i. (p i, q i)

-- turned to the other side
pub right_made : (unit : ℕ) (v : Point) (delta : ℤ) (l t : ℕ) (c : ℤ) (n : Point) → l ≡ lift unit (length_sq v) →
    t ≡ tangent_length unit v delta →
    c ≡ delta *ℤ pos l → n.0 ≡ (c *ℤ v.0) -ℤ (neg_ℤ (pos t) *ℤ v.1) → n.1 ≡ (c *ℤ v.1) +ℤ (neg_ℤ (pos t) *ℤ v.0) → n ≡
    right_normal unit v delta
right_made unit v delta l t c n e f g x y =
    let h : c ≡ delta *ℤ pos (lift unit (length_sq v)) = g ∙ ap (λ (k : ℕ). delta *ℤ pos k) e in
    let a : n.0 ≡ (c *ℤ v.0) +ℤ (pos t *ℤ v.1) = omega (arith, linear, x, neg_mul (pos t) v.1) in
    let b : n.1 ≡ (c *ℤ v.1) -ℤ (pos t *ℤ v.0) = omega (arith, linear, y, neg_mul (pos t) v.0) in
    let p : n.0 ≡ (right_normal unit v delta).0 = a ∙ (λ i. (h i *ℤ v.0) +ℤ (pos (f i) *ℤ v.1)) in
    let q : n.1 ≡ (right_normal unit v delta).1 = b ∙ (λ i. (h i *ℤ v.1) -ℤ (pos (f i) *ℤ v.0)) in
    λ i. (p i, q i)
