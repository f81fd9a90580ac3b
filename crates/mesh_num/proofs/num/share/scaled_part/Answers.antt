use Rattle.std.proofs.Common.{◌^◌, ◌≤◌, arith, lit<}
use Rattle.std.specs.Prelude.{◌*ℤ◌, unsigned_abs}
use Rattle.std.proofs.lemmas.Int.{to_z-of_z, fits_signed_mul}
use mir.Syntax.{w128}
use mir.Val.{SFits}
use Rattle.mesh_num.proofs.Scaling.{scaled_bound}
use Rattle.mesh_num.proofs.num.share.scaled_part.Goals as goal

pub returns-clause-bounded : goal.returns-clause-bounded
returns-clause-bounded c =
    let r : SFits w128 c.rounded_quotient.result = record { sfits = c.rounded_quotient.type_inv } in
    let f : SFits w128 c.args.part = c.ranges.part in
    let g : SFits w128 c.args.radius = c.ranges.radius in
    let p : unsigned_abs c.args.part ≤ 2 ^ 30 = omega arith in
    let h : SFits w128 (c.args.part *ℤ c.args.radius) = fits_signed_mul w128 c.args.part c.args.radius (2 ^ 30) (2 ^ 31) p c.requires.radius (lit< tt) in
    let e = simp to_z-of_z at c.rounded_quotient.ensures in
    rw (to_z-of_z w128 c.rounded_quotient.result r, e) (scaled_bound c.args.unit c.args.radius c.args.part c.requires.unit c.requires.part)
