-- Both components fit the coordinate type, so the squared length is not too great.
use Rattle.std.proofs.Common.{arith, rules}
use Rattle.mesh_stroke.proofs.CustomCaps.{raised_root_most, square_most}
use Rattle.mesh_stroke.proofs.cap.custom.raised_length.Goals as goal

pub returns-clause-most : goal.returns-clause-most
returns-clause-most g c =
    let least = g.met.I.IntNumber.least_law in
    let m =
    square_most g.I.IntNumber.unit c.unsigned_abs-x.result c.unsigned_abs-y.result (search rules) (search rules) in
    let r = raised_root_most _ g.I.IntNumber.unit m (omega (arith, least)) in
    omega (arith, r, c.raised_root.ensures.value)
