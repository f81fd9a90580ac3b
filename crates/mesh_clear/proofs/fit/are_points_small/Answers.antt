use Rattle.std.proofs.Common.{ℕ, ◌^◌, subst, arith, rules}
use borrow.Author.Count.{below_more}
use Rattle.mesh_plane.specs.Bounds.{IsSafe}
use Rattle.mesh_plane.specs.Plane.{Point}
use Rattle.mesh_points.specs.Points.{point_at}
use Rattle.mesh_clear.proofs.fit.are_points_small.Goals as goal

pub loop-k-preserved : goal.loop-k-preserved
loop-k-preserved c =
    below_more (λ (i : ℕ). IsSafe (2 ^ 30) (point_at c.args.points.now i)) c.loop-k.k
    c.loop-k.invariant (subst (λ (p : Point). IsSafe (2 ^ 30) p) c.point-at.ensures (c.has_small_ends.ensures.0 c.if-not-has_small_ends.false).start)

pub returns : goal.returns
returns c = (
  λ t i low. c.loop-k.invariant i (omega (arith, c.loop-k-test.false, c.loop-k.auto.k-end, c.len-k-end.ensures.value, low)),
  search rules,
)
