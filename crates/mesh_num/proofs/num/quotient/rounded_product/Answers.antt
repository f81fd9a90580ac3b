-- The sign of the divisor moves to the product, which fits 128 bits.
use Rattle.std.proofs.Common.{◌≡◌, ◌^◌, ◌∙◌, ap, refl, arith, lit<}
use Rattle.std.specs.Prelude.{ℤ, true, false, pos, negsuc, neg_ℤ, ◌*ℤ◌, ◌-ℤ◌, unsigned_abs}
use Rattle.std.specs.Int.Signed.{lt_z}
use Rattle.std.proofs.lemmas.Bool.{ltb-true, true≢false}
use Rattle.std.proofs.lemmas.Int.{to_z-of_z, fits_signed_mul}
use mir.Syntax.{w128}
use mir.Val.{to_z, of_z}
use Rattle.mesh_plane.specs.Rounding.{rounded}
use Rattle.mesh_plane.proofs.Sizes.{size_neg}
use Rattle.mesh_num.specs.Quotient.{rounded_product}
use Rattle.mesh_plane.proofs.Sizes.{size_positive}
use Rattle.mesh_num.proofs.Passed.{product_small, opposite_fits, passed_opposite}
use Rattle.mesh_num.proofs.num.quotient.rounded_product.Goals as goal

below : (a b d : ℤ) → lt_z d (pos 0) ≡ true → rounded (neg_ℤ (a *ℤ b)) (unsigned_abs d) ≡ rounded_product a b d
below a b (pos d) h = absurd (omega (arith, ltb-true d 0 h))
below a b (negsuc d) h = refl

above : (a b d : ℤ) → lt_z d (pos 0) ≡ false → rounded (a *ℤ b) (unsigned_abs d) ≡ rounded_product a b d
above a b (pos d) h = refl
above a b (negsuc d) h = absurd (true≢false h)

pub overflow_mul-product : goal.overflow_mul-product
overflow_mul-product c =
    rw (to_z-of_z w128 c.args.a c.ranges.a, to_z-of_z w128 c.args.b c.ranges.b)
    (fits_signed_mul w128 c.args.a c.args.b (2 ^ 63) (2 ^ 63) c.requires.a c.requires.b (lit< tt))

pub overflow_sub-product : goal.overflow_sub-product
overflow_sub-product c =
    rw (to_z-of_z w128 c.args.a c.ranges.a, to_z-of_z w128 c.args.b c.ranges.b)
    (opposite_fits (c.args.a *ℤ c.args.b) (product_small c.args.a c.args.b c.requires.a c.requires.b))

pub rounded_quotient-requires-clause-divisor : goal.rounded_quotient-requires-clause-divisor
rounded_quotient-requires-clause-divisor c =
    rw (c.unsigned_abs.ensures.value, to_z-of_z w128 c.args.d c.ranges.d) (size_positive c.args.d c.requires.divisor)

pub rounded_quotient-requires-clause-divisor_size : goal.rounded_quotient-requires-clause-divisor_size
rounded_quotient-requires-clause-divisor_size c =
    rw (c.unsigned_abs.ensures.value, to_z-of_z w128 c.args.d c.ranges.d) (omega (arith, c.requires.size))

pub rounded_quotient-requires-clause-size : goal.rounded_quotient-requires-clause-size
rounded_quotient-requires-clause-size c =
    let s = product_small c.args.a c.args.b c.requires.a c.requires.b in
    rw
    (to_z-of_z w128 c.args.a c.ranges.a, to_z-of_z w128 c.args.b c.ranges.b, passed_opposite (c.args.a *ℤ c.args.b) s, size_neg (c.args.a *ℤ c.args.b))
    s

pub rounded_quotient-requires-else-d-lt0-clause-divisor : goal.rounded_quotient-requires-else-d-lt0-clause-divisor
rounded_quotient-requires-else-d-lt0-clause-divisor c =
    rw (c.unsigned_abs-else-d-lt0.ensures.value, to_z-of_z w128 c.args.d c.ranges.d) (size_positive c.args.d c.requires.divisor)

pub rounded_quotient-requires-else-d-lt0-clause-divisor_size : goal.rounded_quotient-requires-else-d-lt0-clause-divisor_size
rounded_quotient-requires-else-d-lt0-clause-divisor_size c =
    rw (c.unsigned_abs-else-d-lt0.ensures.value, to_z-of_z w128 c.args.d c.ranges.d) (omega (arith, c.requires.size))

pub rounded_quotient-requires-else-d-lt0-clause-size : goal.rounded_quotient-requires-else-d-lt0-clause-size
rounded_quotient-requires-else-d-lt0-clause-size c =
    let p = fits_signed_mul w128 c.args.a c.args.b (2 ^ 63) (2 ^ 63) c.requires.a c.requires.b (lit< tt) in
    rw (to_z-of_z w128 c.args.a c.ranges.a, to_z-of_z w128 c.args.b c.ranges.b, to_z-of_z w128 (c.args.a *ℤ c.args.b) p)
    (product_small c.args.a c.args.b c.requires.a c.requires.b)

pub returns-then-d-lt0 : goal.returns-then-d-lt0
returns-then-d-lt0 c =
    let x = to_z-of_z w128 c.args.a c.ranges.a in
    let y = to_z-of_z w128 c.args.b c.ranges.b in
    let z = to_z-of_z w128 c.args.d c.ranges.d in
    let s = product_small c.args.a c.args.b c.requires.a c.requires.b in
    let p = ap (λ (n : ℤ). to_z w128 (of_z w128 (pos 0 -ℤ to_z w128 (of_z w128 n)))) (λ i. x i *ℤ y i) ∙ passed_opposite (c.args.a *ℤ c.args.b) s in
    let u = c.unsigned_abs.ensures.value ∙ ap unsigned_abs z in
    to_z-of_z w128 c.rounded_quotient.result (record { sfits = c.rounded_quotient.type_inv }) ∙ c.rounded_quotient.ensures
    ∙ (λ i. rounded (p i) (u i)) ∙ below c.args.a c.args.b c.args.d (rw z at c.if-d-lt0.true)

pub returns-else-d-lt0 : goal.returns-else-d-lt0
returns-else-d-lt0 c =
    let x = to_z-of_z w128 c.args.a c.ranges.a in
    let y = to_z-of_z w128 c.args.b c.ranges.b in
    let z = to_z-of_z w128 c.args.d c.ranges.d in
    let f = fits_signed_mul w128 c.args.a c.args.b (2 ^ 63) (2 ^ 63) c.requires.a c.requires.b (lit< tt) in
    let p = ap (λ (n : ℤ). to_z w128 (of_z w128 n)) (λ i. x i *ℤ y i) ∙ to_z-of_z w128 (c.args.a *ℤ c.args.b) f in
    let u = c.unsigned_abs-else-d-lt0.ensures.value ∙ ap unsigned_abs z in
    to_z-of_z w128 c.rounded_quotient-else-d-lt0.result (record { sfits = c.rounded_quotient-else-d-lt0.type_inv })
    ∙ c.rounded_quotient-else-d-lt0.ensures ∙ (λ i. rounded (p i) (u i))
    ∙ above c.args.a c.args.b c.args.d (rw z at c.if-d-lt0.false)
