-- Both products fit 128 bits.
use Rattle.std.proofs.Common.{◌^◌, arith, lit<}
use Rattle.std.specs.Prelude.{◌*ℤ◌}
use Rattle.std.proofs.lemmas.Int.{to_z-of_z, fits_signed_mul, ints}
use mir.Syntax.{w32, w128}
use Rattle.mesh_arc.proofs.steps.is_flat.Goals as goal

pub returns : goal.returns
returns c =
    let s = to_z-of_z w32 c.args.sine c.ranges.sine in
    let k = to_z-of_z w32 c.args.cosine c.ranges.cosine in
    let s' = to_z-of_z w128 c.args.sine (omega (arith, ints, c.ranges.sine)) in
    let k' = to_z-of_z w128 c.args.cosine (omega (arith, ints, c.ranges.cosine)) in
    let a = to_z-of_z w128 c.args.ahead c.ranges.ahead in
    let d = to_z-of_z w128 c.args.dot c.ranges.dot in
    let p = to_z-of_z w128 (c.args.ahead *ℤ c.args.cosine)
    (fits_signed_mul w128 c.args.ahead c.args.cosine (2 ^ 63) (2 ^ 31) c.requires.ahead (omega (arith, ints, c.ranges.cosine)) (lit< tt)) in
    let q = to_z-of_z w128 (c.args.dot *ℤ c.args.sine)
    (fits_signed_mul w128 c.args.dot c.args.sine (2 ^ 63) (2 ^ 31) c.requires.dot (omega (arith, ints, c.ranges.sine)) (lit< tt)) in
    simp (s, k, s', k', a, d, p, q)
