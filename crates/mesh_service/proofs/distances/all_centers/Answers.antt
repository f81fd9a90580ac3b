-- One path more.
use Rattle.std.proofs.Common.{ap, ◌∙◌}
use Rattle.mesh_variable_stroke.specs.Drawn.{vertex_points}
use Rattle.mesh_service.proofs.ToldDistances.{path_more}
use Rattle.mesh_service.proofs.distances.all_centers.Goals as goal

pub loop-path-preserved : goal.loop-path-preserved
loop-path-preserved g c =
    path_more c.loop-path.all.items _ c.args.paths.now c.loop-path.path-index c.in_ok-centers.field-0 c.path-item.result c.loop-path-test.true c.path-item.is
    (c.in_ok-centers.ensures ∙ ap vertex_points c.deref.ensures.value) c.in_ok-push.ensures.items c.loop-path.invariant
