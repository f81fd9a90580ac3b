-- Both points are near, and the edges through them run ahead.
use Rattle.std.proofs.Common.{◌∙◌, refl, sym}
use Rattle.std.proofs.lemmas.Int.{to_z-of_z}
use mir.Syntax.{w128}
use Rattle.mesh_join.specs.Miters.{is_near}
use Rattle.mesh_join.proofs.Miters.{start_far, end_far, both_near, some_if, none_if}
use Rattle.mesh_join.proofs.joint.Joint.usable_pair.Goals as goal

pub returns-in_err-start : goal.returns-in_err-start
returns-in_err-start g c =
    let near = rw (to_z-of_z w128 c.args.padding c.ranges.padding) at c.near.ensures in
    let far = none_if (is_near c.args.padding c.args.self.now.center c.args.start) c.args.start (sym c.in_err-start.was ∙ near) in
    rw (start_far c.args.padding c.args.self.now c.args.start c.args.end far) c.from_residual.ensures

pub returns-in_err-end : goal.returns-in_err-end
returns-in_err-end g c =
    let near = rw (to_z-of_z w128 c.args.padding c.ranges.padding) at c.near.ensures in
    let start = some_if (is_near c.args.padding c.args.self.now.center c.args.start) c.args.start c.in_ok-start.start (sym c.in_ok-start.was ∙ near) in
    let near_end = rw (to_z-of_z w128 c.args.padding c.ranges.padding) at c.near-2.ensures in
    let far = none_if (is_near c.args.padding c.args.self.now.center c.args.end) c.args.end (sym c.in_err-end.was ∙ near_end) in
    rw (end_far c.args.padding c.args.self.now c.args.start c.args.end start.0 far) c.from_residual-in_err-end.ensures

pub returns-then-runs_through_both : goal.returns-then-runs_through_both
returns-then-runs_through_both g c =
    let near = rw (to_z-of_z w128 c.args.padding c.ranges.padding) at c.near.ensures in
    let start = some_if (is_near c.args.padding c.args.self.now.center c.args.start) c.args.start c.in_ok-start.start (sym c.in_ok-start.was ∙ near) in
    let near_end = rw (to_z-of_z w128 c.args.padding c.ranges.padding) at c.near-2.ensures in
    let end = some_if (is_near c.args.padding c.args.self.now.center c.args.end) c.args.end c.in_ok-end.end (sym c.in_ok-end.was ∙ near_end) in
    let t = rw (start.1, end.1) at c.runs_through_both.ensures in
    rw (start.1, end.1, both_near c.args.padding c.args.self.now c.args.start c.args.end _ start.0 end.0 t, c.if-runs_through_both.true) refl

pub returns-else-runs_through_both : goal.returns-else-runs_through_both
returns-else-runs_through_both g c =
    let near = rw (to_z-of_z w128 c.args.padding c.ranges.padding) at c.near.ensures in
    let start = some_if (is_near c.args.padding c.args.self.now.center c.args.start) c.args.start c.in_ok-start.start (sym c.in_ok-start.was ∙ near) in
    let near_end = rw (to_z-of_z w128 c.args.padding c.ranges.padding) at c.near-2.ensures in
    let end = some_if (is_near c.args.padding c.args.self.now.center c.args.end) c.args.end c.in_ok-end.end (sym c.in_ok-end.was ∙ near_end) in
    let t = rw (start.1, end.1) at c.runs_through_both.ensures in
    rw (both_near c.args.padding c.args.self.now c.args.start c.args.end _ start.0 end.0 t, c.if-runs_through_both.false) refl
