-- The leading digits of the root are a root of fewer digits, and enough for the unit.
use Rattle.std.proofs.Common.{arith, mod-eq_of_lt}
use Rattle.mesh_num.proofs.Roots.{leading, leading_few, quotient_enough, quotient_near, quotient_bounded}
use Rattle.mesh_num.proofs.num.share.near_part.Goals as goal

pub overflow_sub-leading : goal.overflow_sub-leading
overflow_sub-leading c =
    let r = c.requires in
    leading_few c.args.square c.args.root r.square r.length r.root_within r.root_above

pub overflow_shl-result : goal.overflow_shl-result
overflow_shl-result c =
    let r = c.requires in
    omega (arith, leading_few c.args.square c.args.root r.square r.length r.root_within r.root_above)

pub returns-clause-enough : goal.returns-clause-enough
returns-clause-enough c =
    let r = c.requires in
    let h = leading c.args.unit c.args.square c.args.root c.args.size r.unit r.square r.length r.root_within r.root_above r.size in
    rw (mod-eq_of_lt h.fits) (λ j. quotient_enough c.args.unit c.args.square _ c.args.size _ j h)

pub returns-clause-near : goal.returns-clause-near
returns-clause-near c =
    let r = c.requires in
    let h = leading c.args.unit c.args.square c.args.root c.args.size r.unit r.square r.length r.root_within r.root_above r.size in
    rw (mod-eq_of_lt h.fits) (quotient_near c.args.unit c.args.square _ c.args.size _ _ h r.unit r.size (omega arith))

pub returns-clause-bounded : goal.returns-clause-bounded
returns-clause-bounded c =
    let r = c.requires in
    let h = leading c.args.unit c.args.square c.args.root c.args.size r.unit r.square r.length r.root_within r.root_above r.size in
    rw (mod-eq_of_lt h.fits) (quotient_bounded c.args.unit c.args.square _ c.args.size _ h r.unit r.length r.size)
