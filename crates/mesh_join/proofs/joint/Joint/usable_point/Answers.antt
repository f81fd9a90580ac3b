-- The point is near, and the edges through it run ahead.
use Rattle.std.proofs.Common.{◌∙◌, refl, sym}
use Rattle.std.proofs.lemmas.Int.{to_z-of_z}
use mir.Syntax.{w128}
use Rattle.mesh_join.specs.Miters.{is_near}
use Rattle.mesh_join.proofs.Miters.{one_far, one_near, some_if, none_if}
use Rattle.mesh_join.proofs.joint.Joint.usable_point.Goals as goal

pub returns-in_err-point : goal.returns-in_err-point
returns-in_err-point g c =
    let near = rw (to_z-of_z w128 c.args.padding c.ranges.padding) at c.near.ensures in
    let far = none_if (is_near c.args.padding c.args.self.now.center c.args.point) c.args.point (sym c.in_err-point.was ∙ near) in
    rw (one_far c.args.padding c.args.self.now c.args.point far) c.from_residual.ensures

pub returns-then-runs_through : goal.returns-then-runs_through
returns-then-runs_through g c =
    let near = rw (to_z-of_z w128 c.args.padding c.ranges.padding) at c.near.ensures in
    let n = some_if (is_near c.args.padding c.args.self.now.center c.args.point) c.args.point c.in_ok-point.point (sym c.in_ok-point.was ∙ near) in
    let t = rw n.1 at c.runs_through.ensures in
    rw (n.1, one_near c.args.padding c.args.self.now c.args.point _ n.0 t, c.if-runs_through.true) refl

pub returns-else-runs_through : goal.returns-else-runs_through
returns-else-runs_through g c =
    let near = rw (to_z-of_z w128 c.args.padding c.ranges.padding) at c.near.ensures in
    let n = some_if (is_near c.args.padding c.args.self.now.center c.args.point) c.args.point c.in_ok-point.point (sym c.in_ok-point.was ∙ near) in
    let t = rw n.1 at c.runs_through.ensures in
    rw (one_near c.args.padding c.args.self.now c.args.point _ n.0 t, c.if-runs_through.false) refl
