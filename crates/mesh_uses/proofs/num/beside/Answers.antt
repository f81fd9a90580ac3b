-- The vector between safe points is short, and its direction's multiple is no longer than the distance.
use Rattle.std.proofs.Common.{◌^◌, ◌∙◌, ap, arith}
use Rattle.std.specs.Prelude.{pos, unsigned_abs}
use Rattle.std.proofs.lemmas.Bool.{true≢false}
use Rattle.std.proofs.lemmas.Int.{ints, to_z-of_z}
use mir.Syntax.{w32}
use Rattle.mesh_num.specs.Directed.{direction_of}
use Rattle.mesh_num.specs.Direction.{scaled_direction}
use Rattle.mesh_num.specs.Plane.{minus, plus, right_quarter}
use Rattle.mesh_num.proofs.Directed.{is_direction_of}
use Rattle.mesh_num.proofs.Moving.{safe_difference, stays_safe}
use Rattle.mesh_uses.proofs.Points.{beside_near, minus_self}
use Rattle.mesh_uses.proofs.num.beside.Goals as goal

pub fast_normalize-requires : goal.fast_normalize-requires
fast_normalize-requires c =
    rw c.sub.ensures (safe_difference (2 ^ 30) c.args.to c.args.from c.requires.to
    (stays_safe (2 ^ 30) (pos (unsigned_abs c.args.distance)) c.args.from (omega (arith, ints)) c.requires.from))

pub returns-clause-none : goal.returns-clause-none
returns-clause-none c = (
  λ h. absurd (true≢false h),
  λ e. c.in_ok-direction.ensures.none.1 (c.sub.ensures ∙ ap (λ p. minus c.args.to p) e ∙ minus_self c.args.to),
)

pub returns-clause-value : goal.returns-clause-value
returns-clause-value c =
    let distance = to_z-of_z w32 c.args.distance c.ranges.distance in
    let direction = is_direction_of (2 ^ 30) c.sub.result c.in_ok-direction.direction c.in_ok-direction.ensures.value in
    let along = rw distance at c.scale.ensures.value in
    c.moved_right.ensures ∙ ap (λ v. plus c.args.from (right_quarter v))
    (along ∙ ap (scaled_direction (2 ^ 30) c.args.distance) (direction ∙ ap (direction_of (2 ^ 30)) c.sub.ensures))

pub returns-clause-near : goal.returns-clause-near
returns-clause-near c =
    let distance = to_z-of_z w32 c.args.distance c.ranges.distance in
    rw c.moved_right.ensures
    (beside_near (unsigned_abs c.args.distance) c.args.from c.scale.result (rw distance at c.scale.ensures.x_bound) (rw distance at c.scale.ensures.y_bound))
