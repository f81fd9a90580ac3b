use Rattle.std.proofs.Common.{◌≡◌, ◌^◌, ◌∙◌, refl, sym, subst, lit≤}
use Rattle.std.specs.Prelude.{ℤ, ◌<ℤ◌, ◌≤ℤ◌}
use Rattle.std.proofs.lemmas.Bool.{false≢true}
use Rattle.std.proofs.lemmas.Int.{by_lt_z}
use Rattle.mesh_plane.specs.Plane.{dot, minus}
use Rattle.mesh_lattice.specs.Split.{back}
use Rattle.mesh_lattice.proofs.Arithmetic.{small_kept}
use Rattle.mesh_clearance.proofs.Points.{half_way, less_or_same, separation_back}
use Rattle.mesh_clearance.proofs.distance.from_point.Goals as goal
use mir.Syntax.{w128}
use mir.Val.{to_z, of_z}

pub from_start-requires : goal.from_start-requires
from_start-requires c =
    let behind : to_z w128 (of_z w128 c.dot-behind.result) ≡ dot (minus c.args.e.0 c.args.e.1) (minus c.args.p c.args.e.1) =
    small_kept (2 ^ 65) c.dot-behind.result (lit≤ tt) c.dot-behind.ensures.size ∙ (c.dot-behind.ensures.value ∙ (λ i. dot (c.minus-3.ensures.value i) (c.minus-4.ensures.value i))) in
    let ahead : to_z w128 (of_z w128 c.dot-ahead.result) ≡ dot (minus c.args.e.1 c.args.e.0) (minus c.args.p c.args.e.0) =
    small_kept (2 ^ 65) c.dot-ahead.result (lit≤ tt) c.dot-ahead.ensures.size ∙ (c.dot-ahead.ensures.value ∙ (λ i. dot (c.minus.ensures.value i) (c.minus-2.ensures.value i))) in
    half_way c.args.p (back c.args.e) (less_or_same (subst (λ (z : ℤ × ℤ). z.0 <ℤ z.1) (λ i. (behind i, ahead i)) (c.if-is_less.ensures.0 refl)))

pub returns-then-is_less : goal.returns-then-is_less
returns-then-is_less c = separation_back c.args.p c.args.e c.from_start.result c.from_start.ensures

pub from_start-requires-2 : goal.from_start-requires-2
from_start-requires-2 c =
    let behind : to_z w128 (of_z w128 c.dot-behind.result) ≡ dot (minus c.args.e.0 c.args.e.1) (minus c.args.p c.args.e.1) =
    small_kept (2 ^ 65) c.dot-behind.result (lit≤ tt) c.dot-behind.ensures.size ∙ (c.dot-behind.ensures.value ∙ (λ i. dot (c.minus-3.ensures.value i) (c.minus-4.ensures.value i))) in
    let ahead : to_z w128 (of_z w128 c.dot-ahead.result) ≡ dot (minus c.args.e.1 c.args.e.0) (minus c.args.p c.args.e.0) =
    small_kept (2 ^ 65) c.dot-ahead.result (lit≤ tt) c.dot-ahead.ensures.size ∙ (c.dot-ahead.ensures.value ∙ (λ i. dot (c.minus.ensures.value i) (c.minus-2.ensures.value i))) in
    half_way c.args.p c.args.e
    (by_lt_z (dot (minus c.args.e.0 c.args.e.1) (minus c.args.p c.args.e.1)) (dot (minus c.args.e.1 c.args.e.0) (minus c.args.p c.args.e.0))
    (λ (h : dot (minus c.args.e.0 c.args.e.1) (minus c.args.p c.args.e.1) <ℤ dot (minus c.args.e.1 c.args.e.0) (minus c.args.p c.args.e.0)).
    absurd (false≢true (c.if-is_less.ensures.1 (subst (λ (z : ℤ × ℤ). z.0 <ℤ z.1) (λ i. (sym behind i, sym ahead i)) h))))
    (λ (h : dot (minus c.args.e.1 c.args.e.0) (minus c.args.p c.args.e.0) ≤ℤ dot (minus c.args.e.0 c.args.e.1) (minus c.args.p c.args.e.1)). h))
