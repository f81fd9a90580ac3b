-- Both products fit 128 bits.
use Rattle.std.proofs.Common.{◌^◌, arith, lit<}
use Rattle.std.specs.Prelude.{pos, ◌*ℤ◌, unsigned_abs}
use Rattle.std.proofs.lemmas.Int.{to_z-of_z, fits_signed_mul, ints}
use mir.Syntax.{w32, w128}
use Rattle.mesh_join.proofs.Wide.{small_read, opposite_fits, factor_fits}
use Rattle.mesh_join.proofs.miter.is_angle_below.Goals as goal

pub returns : goal.returns
returns c =
    let s = to_z-of_z w32 c.args.sine c.ranges.sine in
    let k = to_z-of_z w32 c.args.cosine c.ranges.cosine in
    let s' = to_z-of_z w128 c.args.sine (omega (arith, ints, c.ranges.sine)) in
    let k' = to_z-of_z w128 c.args.cosine (omega (arith, ints, c.ranges.cosine)) in
    let x = to_z-of_z w128 c.args.cross c.ranges.cross in
    let d = to_z-of_z w128 c.args.dot c.ranges.dot in
    let a = c.abs.ensures.value in
    let a' = to_z-of_z w128 (pos (unsigned_abs c.args.cross)) (omega (arith, ints)) in
    let p = to_z-of_z w128 (c.args.cosine *ℤ pos (unsigned_abs c.args.cross))
    (fits_signed_mul w128 c.args.cosine (pos (unsigned_abs c.args.cross)) (2 ^ 31) (2 ^ 64) (omega (arith, ints, c.ranges.cosine)) c.requires.cross (lit< tt)) in
    let q = to_z-of_z w128 (c.args.sine *ℤ c.args.dot) (fits_signed_mul w128 c.args.sine c.args.dot (2 ^ 31) (2 ^ 64) (omega (arith, ints, c.ranges.sine)) c.requires.dot (lit< tt)) in
    simp (a, s, k, s', k', x, d, a', p, q)

pub abs-requires : goal.abs-requires
abs-requires c = opposite_fits c.args.cross (omega arith)

pub overflow_mul-result : goal.overflow_mul-result
overflow_mul-result c =
    rw (c.abs.ensures.value, small_read c.args.cross (omega arith))
    (factor_fits c.args.cosine (pos (unsigned_abs c.args.cross)) c.ranges.cosine c.requires.cross)

pub overflow_mul-result-2 : goal.overflow_mul-result-2
overflow_mul-result-2 c = factor_fits c.args.sine c.args.dot c.ranges.sine c.requires.dot
