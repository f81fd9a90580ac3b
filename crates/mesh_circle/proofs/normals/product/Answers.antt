use Rattle.std.proofs.Common.{◌*◌, ◌≤◌, ◌^◌, refl, arith, lit<}
use Rattle.std.specs.Prelude.{◌*ℤ◌, unsigned_abs}
use Rattle.std.proofs.Math.Nat.{mul-le-mul}
use Rattle.std.proofs.lemmas.Int.{to_z-of_z, fits_signed_mul, unsigned_abs-mul}
use mir.Syntax.{w128}
use mir.Val.{SFits}
use Rattle.mesh_circle.proofs.normals.product.Goals as goal

pub returns-clause-value : goal.returns-clause-value
returns-clause-value c =
    let p : SFits w128 (c.args.a *ℤ c.args.b) =
    fits_signed_mul w128 c.args.a c.args.b (2 ^ 64) (2 ^ 32) c.requires.a c.requires.b (lit< tt) in
    simp (
      to_z-of_z w128 c.args.a c.ranges.a,
      to_z-of_z w128 c.args.b c.ranges.b,
      to_z-of_z w128
          (c.args.a *ℤ c.args.b) p,
    ) refl

pub returns-clause-size : goal.returns-clause-size
returns-clause-size c =
    let p : SFits w128 (c.args.a *ℤ c.args.b) =
    fits_signed_mul w128 c.args.a c.args.b (2 ^ 64) (2 ^ 32) c.requires.a c.requires.b (lit< tt) in
    let m : unsigned_abs c.args.a * unsigned_abs c.args.b ≤ 2 ^ 64 * 2 ^ 32 = mul-le-mul c.requires.a c.requires.b in
    let s : unsigned_abs (c.args.a *ℤ c.args.b) ≤ 2 ^ 96 = omega (arith, unsigned_abs-mul c.args.a c.args.b, m) in
    simp (
      to_z-of_z w128 c.args.a c.ranges.a,
      to_z-of_z w128 c.args.b c.ranges.b,
      to_z-of_z w128
          (c.args.a *ℤ c.args.b) p,
    ) s
