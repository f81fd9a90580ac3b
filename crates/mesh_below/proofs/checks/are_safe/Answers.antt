use Rattle.std.proofs.Common.{refl}
use Rattle.mesh_plane.specs.Bounds.{IsSafe}
use Rattle.mesh_plane.specs.Plane.{Edge}
use Rattle.mesh_below.proofs.Asking.{all_more, all_taken}
use Rattle.mesh_below.proofs.checks.are_safe.Goals as goal

pub loop-e-preserved : goal.loop-e-preserved
loop-e-preserved c =
    all_more (λ (e : Edge). IsSafe c.args.unit e.0 × IsSafe c.args.unit e.1) c.args.edges.now c.loop-e.e-index _ c.loop-e-test.true c.loop-e.invariant
    (c.if-not-is_safe.ensures.0 refl, c.if-not-is_safe-2.ensures.0 refl)

pub returns : goal.returns
returns c = ((λ _. all_taken (λ (e : Edge). IsSafe c.args.unit e.0 × IsSafe c.args.unit e.1) c.args.edges.now c.loop-e.e-index c.loop-e-test.false c.loop-e.invariant), (λ _. refl))
