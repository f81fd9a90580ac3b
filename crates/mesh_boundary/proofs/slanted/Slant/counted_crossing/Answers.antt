use Rattle.std.proofs.Common.{◌≡◌, ℕ, ◌^◌, ◌≤◌, ◌*◌, lit≤, ◌∙◌, ap, arith}
use Rattle.std.specs.Prelude.{ℤ, pos, ◌*ℤ◌, ◌≤ℤ◌, unsigned_abs}
use mir.Syntax.{w128}
use mir.Val.{to_z, of_z}
use Rattle.std.proofs.lemmas.Int.{ints, unsigned_abs-mul}
use Rattle.std.proofs.Math.Nat.{mul-le-mul_left}
use Rattle.mesh_plane.specs.Bounds.{IsSmall}
use Rattle.mesh_lattice.proofs.Arithmetic.{small_kept, small_fits, small_of_size}
use Rattle.mesh_boundary.proofs.SidesCode.{count_small}
use Rattle.mesh_boundary.proofs.slanted.Slant.counted_crossing.Goals as goal

three_times : (m n : ℕ) → n ≤ 3 → m * n ≤ 3 * m
three_times m n h = omega (arith, mul-le-mul_left m h)

times_size : (n t : ℤ) → IsSmall 4 t → unsigned_abs (n *ℤ t) ≤ 3 * unsigned_abs n
times_size n t s =
    let few : unsigned_abs t ≤ 3 = omega (arith, ints, s.low, s.high) in
    omega (arith, unsigned_abs-mul n t, three_times (unsigned_abs n) (unsigned_abs t) few)

times_small : (n t : ℤ) → IsSmall 4 t → pos (unsigned_abs n) ≤ℤ pos (2 ^ 120) → IsSmall (2 ^ 122) (n *ℤ t)
times_small n t s h = small_of_size (2 ^ 122) (n *ℤ t) (omega (arith, ints, times_size n t s, h))

both_kept : (n t : ℤ) → IsSmall 4 t → pos (unsigned_abs n) ≤ℤ pos (2 ^ 120) → to_z w128 (of_z w128 n) *ℤ to_z w128 (of_z w128 t) ≡ n *ℤ t
both_kept n t s h = λ i. small_kept (2 ^ 121) n (lit≤ tt) (count_small n h) i *ℤ small_kept 4 t (lit≤ tt) s i

product_kept : (n t : ℤ) → IsSmall 4 t → pos (unsigned_abs n) ≤ℤ pos (2 ^ 120) → to_z w128 (of_z w128 (to_z w128 (of_z w128 n) *ℤ to_z w128 (of_z w128 t))) ≡ n *ℤ t
product_kept n t s h = ap (λ (z : ℤ). to_z w128 (of_z w128 z)) (both_kept n t s h) ∙ small_kept (2 ^ 122) (n *ℤ t) (lit≤ tt) (times_small n t s h)

pub overflow_mul-result : goal.overflow_mul-result
overflow_mul-result c =
    let n = c.args.s.1 in
    let t = c.slanted_crossing.result in
    rw (both_kept n t c.slanted_crossing.ensures.size c.requires.count_small)
    (small_fits (2 ^ 122) (n *ℤ t) (lit≤ tt) (times_small n t c.slanted_crossing.ensures.size c.requires.count_small))

pub returns-clause-value : goal.returns-clause-value
returns-clause-value c =
    product_kept c.args.s.1 c.slanted_crossing.result c.slanted_crossing.ensures.size c.requires.count_small ∙ ap (λ (z : ℤ). c.args.s.1 *ℤ z) c.slanted_crossing.ensures.value

pub returns-clause-size : goal.returns-clause-size
returns-clause-size c =
    let n = c.args.s.1 in
    let t = c.slanted_crossing.result in
    rw (product_kept n t c.slanted_crossing.ensures.size c.requires.count_small) (omega (arith, ints, times_size n t c.slanted_crossing.ensures.size))
