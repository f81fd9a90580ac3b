-- No number on the way is too great, and the normals are what their definitions say.
use Rattle.std.proofs.Common.{◌≡◌, ◌≤◌, ◌^◌, arith, rules}
use Rattle.std.specs.Prelude.{pos, ◌-ℤ◌, neg_ℤ, unsigned_abs}
use Rattle.std.proofs.lemmas.Int.{to_z-of_z, to_z_pos, ints}
use mir.Syntax.{w128}
use mir.Val.{SFits, to_z}
use Rattle.mesh_circle.proofs.Directions.{square_most, root_small, length_small, lift_made, along_made, length_made}
use Rattle.mesh_circle.proofs.Directions.{left_made, right_made, left_bounded, right_bounded}
use Rattle.mesh_circle.proofs.normals.tangent_normals.Goals as goal

pub overflow_cast-square : goal.overflow_cast-square
overflow_cast-square c = omega (arith, square_most c.args.unit c.args.square c.requires.unit c.requires.most)

pub tangent_length-along-requires-clause-square : goal.tangent_length-along-requires-clause-square
tangent_length-along-requires-clause-square c = square_most c.args.unit c.args.square c.requires.unit c.requires.most

pub lifted-across-requires-clause-delta : goal.lifted-across-requires-clause-delta
lifted-across-requires-clause-delta c =
    let l = square_most c.args.unit c.args.square c.requires.unit c.requires.most in
    let s : unsigned_abs c.args.delta ≤ 2 ^ 32 =
    omega (arith, root_small (unsigned_abs c.args.delta) c.args.square (omega (arith, c.requires.delta)) l) in
    simp (to_z-of_z w128 c.args.delta c.ranges.delta) s

pub turned-requires-clause-x : goal.turned-requires-clause-x
turned-requires-clause-x c =
    let l = square_most c.args.unit c.args.square c.requires.unit c.requires.most in
    let s : unsigned_abs c.args.x ≤ 2 ^ 32 =
    omega (arith, root_small (unsigned_abs c.args.x) c.args.square (omega (arith, c.requires.square)) l) in
    simp (to_z-of_z w128 c.args.x c.ranges.x) s

pub turned-requires-clause-y : goal.turned-requires-clause-y
turned-requires-clause-y c =
    let l = square_most c.args.unit c.args.square c.requires.unit c.requires.most in
    let s : unsigned_abs c.args.y ≤ 2 ^ 32 =
    omega (arith, root_small (unsigned_abs c.args.y) c.args.square (omega (arith, c.requires.square)) l) in
    simp (to_z-of_z w128 c.args.y c.ranges.y) s

pub turned-requires-2-clause-along : goal.turned-requires-2-clause-along
turned-requires-2-clause-along c =
    let a : to_z w128 c.tangent_length-along.result ≡ pos c.tangent_length-along.result =
    to_z_pos w128 _ (omega (arith, c.tangent_length-along.ensures.size)) in
    let n : SFits w128 (pos 0 -ℤ pos c.tangent_length-along.result) =
    omega (arith, ints, c.tangent_length-along.ensures.size) in
    let s : unsigned_abs (pos 0 -ℤ pos c.tangent_length-along.result) ≤ 2 ^ 64 =
    omega (arith, ints, c.tangent_length-along.ensures.size) in
    rw a (rw (to_z-of_z w128 _ n) s)

pub turned-requires-2-clause-x : goal.turned-requires-2-clause-x
turned-requires-2-clause-x c =
    let l = square_most c.args.unit c.args.square c.requires.unit c.requires.most in
    let s : unsigned_abs c.args.x ≤ 2 ^ 32 =
    omega (arith, root_small (unsigned_abs c.args.x) c.args.square (omega (arith, c.requires.square)) l) in
    simp (to_z-of_z w128 c.args.x c.ranges.x) s

pub turned-requires-2-clause-y : goal.turned-requires-2-clause-y
turned-requires-2-clause-y c =
    let l = square_most c.args.unit c.args.square c.requires.unit c.requires.most in
    let s : unsigned_abs c.args.y ≤ 2 ^ 32 =
    omega (arith, root_small (unsigned_abs c.args.y) c.args.square (omega (arith, c.requires.square)) l) in
    simp (to_z-of_z w128 c.args.y c.ranges.y) s

pub overflow_mul-result : goal.overflow_mul-result
overflow_mul-result c =
    let l = square_most c.args.unit c.args.square c.requires.unit c.requires.most in
    omega (arith, length_small c.args.unit c.args.square c.lift-lift.result l c.lift-lift.ensures.value)

pub returns-clause-left : goal.returns-clause-left
returns-clause-left c =
    let a : to_z w128 c.tangent_length-along.result ≡ pos c.tangent_length-along.result =
    to_z_pos w128 _ (omega (arith, c.tangent_length-along.ensures.size)) in
    let r : SFits w128 c.lifted-across.result = search rules in
    let x = to_z-of_z w128 c.args.x c.ranges.x in
    let y = to_z-of_z w128 c.args.y c.ranges.y in
    let d = to_z-of_z w128 c.args.delta c.ranges.delta in
    let s = to_z-of_z w128 c.lifted-across.result r in
    let l =
    lift_made c.args.unit c.args.square c.lift-lift.result (c.args.x, c.args.y) c.requires.square
    c.lift-lift.ensures.value in
    let t =
    along_made c.args.unit c.args.square c.lift-lift.result c.unsigned_abs.result c.tangent_length-along.result
    (c.args.x, c.args.y) c.args.delta
    c.requires.square c.lift-lift.ensures.value (simp d at c.unsigned_abs.ensures.value)
    c.tangent_length-along.ensures.value in
    left_made c.args.unit (c.args.x, c.args.y) c.args.delta c.lift-lift.result c.tangent_length-along.result
    c.lifted-across.result c.turned.result
    l t (simp d at c.lifted-across.ensures.value) (simp (x, y, s, a) at c.turned.ensures.x)
    (simp (x, y, s, a) at c.turned.ensures.y)

pub returns-clause-right : goal.returns-clause-right
returns-clause-right c =
    let a : to_z w128 c.tangent_length-along.result ≡ pos c.tangent_length-along.result =
    to_z_pos w128 _ (omega (arith, c.tangent_length-along.ensures.size)) in
    let n : SFits w128 (neg_ℤ (pos c.tangent_length-along.result)) =
    omega (arith, ints, c.tangent_length-along.ensures.size) in
    let m : (pos 0 -ℤ pos c.tangent_length-along.result) ≡ neg_ℤ (pos c.tangent_length-along.result) =
    omega (arith, ints) in
    let w = to_z-of_z w128 (neg_ℤ (pos c.tangent_length-along.result)) n in
    let r : SFits w128 c.lifted-across.result = search rules in
    let x = to_z-of_z w128 c.args.x c.ranges.x in
    let y = to_z-of_z w128 c.args.y c.ranges.y in
    let d = to_z-of_z w128 c.args.delta c.ranges.delta in
    let s = to_z-of_z w128 c.lifted-across.result r in
    let l =
    lift_made c.args.unit c.args.square c.lift-lift.result (c.args.x, c.args.y) c.requires.square
    c.lift-lift.ensures.value in
    let t =
    along_made c.args.unit c.args.square c.lift-lift.result c.unsigned_abs.result c.tangent_length-along.result
    (c.args.x, c.args.y) c.args.delta
    c.requires.square c.lift-lift.ensures.value (simp d at c.unsigned_abs.ensures.value)
    c.tangent_length-along.ensures.value in
    right_made c.args.unit (c.args.x, c.args.y) c.args.delta c.lift-lift.result c.tangent_length-along.result
    c.lifted-across.result c.turned-2.result
    l t (simp d at c.lifted-across.ensures.value) (simp (x, y, s, a, m, w) at c.turned-2.ensures.x)
    (simp (x, y, s, a, m, w) at c.turned-2.ensures.y)

pub returns-clause-length : goal.returns-clause-length
returns-clause-length c =
    length_made c.args.unit c.args.square c.lift-lift.result (c.args.x, c.args.y) c.requires.square
    c.lift-lift.ensures.value

pub returns-clause-left_bounded : goal.returns-clause-left_bounded
returns-clause-left_bounded c =
    let l = square_most c.args.unit c.args.square c.requires.unit c.requires.most in
    left_bounded c.args.unit _ (c.args.x, c.args.y) c.turned.result c.args.delta
    (omega (arith, c.requires.square, c.requires.delta)) (omega (arith, c.requires.square, l))
    (returns-clause-length c) (returns-clause-left c)

pub returns-clause-right_bounded : goal.returns-clause-right_bounded
returns-clause-right_bounded c =
    let l = square_most c.args.unit c.args.square c.requires.unit c.requires.most in
    right_bounded c.args.unit _ (c.args.x, c.args.y) c.turned-2.result c.args.delta
    (omega (arith, c.requires.square, c.requires.delta)) (omega (arith, c.requires.square, l))
    (returns-clause-length c) (returns-clause-right c)
