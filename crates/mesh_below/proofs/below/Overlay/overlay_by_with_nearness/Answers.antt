-- What is counted is a resolution, made of regions that are exact beyond the nearness.
use Rattle.std.proofs.lemmas.Result.{IfOk-weaker}
use Rattle.mesh_below.proofs.below.Overlay.overlay_by_with_nearness.Goals as goal

pub returns-clause-resolution : goal.returns-clause-resolution
returns-clause-resolution g c =
    IfOk-weaker c.resolved_with_nearness.result _ _ (λ near a. a.beyond.regions.resolution)
    c.resolved_with_nearness.ensures.standing

pub returns-clause-regions : goal.returns-clause-regions
returns-clause-regions g c =
    IfOk-weaker c.resolved_with_nearness.result _ _ (λ near a. a.beyond)
    c.resolved_with_nearness.ensures.standing
