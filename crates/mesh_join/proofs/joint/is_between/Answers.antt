-- Both sums fit 128 bits.
use Rattle.std.proofs.Common.{◌≡◌, true, false, refl}
use Rattle.std.specs.Prelude.{◌-ℤ◌, int_le}
use Rattle.std.proofs.lemmas.Int.{to_z-of_z}
use mir.Syntax.{w128}
use Rattle.mesh_join.proofs.Wide.{close_sum, close_difference}
use Rattle.mesh_join.proofs.joint.is_between.Goals as goal

pub returns-then-center-padding : goal.returns-then-center-padding
returns-then-center-padding c =
    let x = to_z-of_z w128 c.args.coordinate c.ranges.coordinate in
    let l = close_difference c.args.center c.args.padding c.requires.center c.requires.padding in
    let h = close_sum c.args.center c.args.padding c.requires.center c.requires.padding in
    let t : int_le (c.args.center -ℤ c.args.padding) c.args.coordinate ≡ true = rw (l, x) at c.if-center-padding.true in
    rw (h, x, t) refl

pub returns-else-center-padding : goal.returns-else-center-padding
returns-else-center-padding c =
    let x = to_z-of_z w128 c.args.coordinate c.ranges.coordinate in
    let l = close_difference c.args.center c.args.padding c.requires.center c.requires.padding in
    let t : int_le (c.args.center -ℤ c.args.padding) c.args.coordinate ≡ false =
    rw (l, x) at c.if-center-padding.false in
    rw (l, x, t) refl
