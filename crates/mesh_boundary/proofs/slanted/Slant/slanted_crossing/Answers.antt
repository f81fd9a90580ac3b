use Rattle.std.proofs.Common.{◌≡◌, lit≤, ◌∙◌, ap, arith}
use Rattle.std.specs.Prelude.{ℤ, ◌+ℤ◌, ◌-ℤ◌}
use mir.Syntax.{w128}
use mir.Val.{to_z, of_z}
use Rattle.std.proofs.lemmas.Int.{ints}
use Rattle.mesh_plane.specs.Bounds.{IsSmall}
use Rattle.mesh_plane.specs.Winding.{crossing}
use Rattle.mesh_lattice.specs.Counted.{bit}
use Rattle.mesh_lattice.proofs.Arithmetic.{small_kept, small_fits}
use Rattle.mesh_boundary.proofs.slanted.Slant.slanted_crossing.Goals as goal

gap_small : (y z : ℤ) → IsSmall 2 y → IsSmall 2 z → IsSmall 3 (y -ℤ z)
gap_small y z s t = record { low = omega (arith, ints, s.low, t.high); high = omega (arith, ints, s.high, t.low) }

sum_small : (y z : ℤ) → IsSmall 2 y → IsSmall 3 z → IsSmall 4 (y +ℤ z)
sum_small y z s t = record { low = omega (arith, ints, s.low, t.low); high = omega (arith, ints, s.high, t.high) }

kept : (z : ℤ) → IsSmall 2 z → to_z w128 (of_z w128 z) ≡ z
kept z s = small_kept 2 z (lit≤ tt) s

gap_kept : (y z : ℤ) → IsSmall 2 y → IsSmall 2 z → to_z w128 (of_z w128 (to_z w128 (of_z w128 y) -ℤ to_z w128 (of_z w128 z))) ≡ y -ℤ z
gap_kept y z s t = (λ i. to_z w128 (of_z w128 (kept y s i -ℤ kept z t i))) ∙ small_kept 3 (y -ℤ z) (lit≤ tt) (gap_small y z s t)

all_kept : (x y z : ℤ) → IsSmall 2 x → IsSmall 2 y → IsSmall 2 z
    → to_z w128 (of_z w128 (to_z w128 (of_z w128 x) +ℤ to_z w128 (of_z w128 (to_z w128 (of_z w128 y) -ℤ to_z w128 (of_z w128 z))))) ≡ x +ℤ (y -ℤ z)
all_kept x y z r s t =
    (λ i. to_z w128 (of_z w128 (kept x r i +ℤ gap_kept y z s t i))) ∙ small_kept 4 (x +ℤ (y -ℤ z)) (lit≤ tt) (sum_small x (y -ℤ z) r (gap_small y z s t))

pub overflow_sub-gained : goal.overflow_sub-gained
overflow_sub-gained c =
    let y = c.bit.result in
    let z = c.bit-2.result in
    rw (kept y c.bit.ensures.size, kept z c.bit-2.ensures.size) (small_fits 3 (y -ℤ z) (lit≤ tt) (gap_small y z c.bit.ensures.size c.bit-2.ensures.size))

pub overflow_add-result : goal.overflow_add-result
overflow_add-result c =
    let x = c.crossing.result in
    let y = c.bit.result in
    let z = c.bit-2.result in
    rw (kept x c.crossing.ensures.size, gap_kept y z c.bit.ensures.size c.bit-2.ensures.size)
    (small_fits 4 (x +ℤ (y -ℤ z)) (lit≤ tt) (sum_small x (y -ℤ z) c.crossing.ensures.size (gap_small y z c.bit.ensures.size c.bit-2.ensures.size)))

pub returns-clause-value : goal.returns-clause-value
returns-clause-value c =
    all_kept c.crossing.result c.bit.result c.bit-2.result c.crossing.ensures.size c.bit.ensures.size c.bit-2.ensures.size
    ∙ (λ i. (c.crossing.ensures.value ∙ (λ j. crossing c.args.q (c.doubled.ensures j) (c.doubled-2.ensures j))) i +ℤ ((c.bit.ensures.value ∙ ap bit c.is_between.ensures) i -ℤ (c.bit-2.ensures.value ∙ ap bit c.is_between-2.ensures) i))

pub returns-clause-size : goal.returns-clause-size
returns-clause-size c =
    let x = c.crossing.result in
    let y = c.bit.result in
    let z = c.bit-2.result in
    rw (all_kept x y z c.crossing.ensures.size c.bit.ensures.size c.bit-2.ensures.size)
    (sum_small x (y -ℤ z) c.crossing.ensures.size (gap_small y z c.bit.ensures.size c.bit-2.ensures.size))
