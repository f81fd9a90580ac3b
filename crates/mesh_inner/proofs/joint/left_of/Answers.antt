-- The point fits.
use Rattle.std.proofs.Common.{◌≡◌, arith, rules}
use Rattle.std.specs.Prelude.{◌+ℤ◌}
use Rattle.std.proofs.lemmas.Int.{ints}
use Rattle.mesh_inner.proofs.joint.left_of.Goals as goal

pub from_wide-requires-2 : goal.from_wide-requires-2
from_wide-requires-2 g c =
    let e : g.I.Wide.WideNumber.value c.plus-y.result ≡ (c.args.point.1 +ℤ c.args.step.now.0) = search rules in
    record { low = omega (arith, ints, e, c.requires.y.low); high = omega (arith, ints, e, c.requires.y.high) }
