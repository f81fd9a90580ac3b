use Rattle.std.proofs.Common.{[], ◌∷◌, ◌++◌, sym, ◌∙◌, get_or}
use Rattle.std.proofs.lemmas.List.{map_more}
use Rattle.mesh_plane.specs.Plane.{Edge}
use Rattle.mesh_convex.specs.Convex.{no_edge}
use Rattle.mesh_below.proofs.resolve.starts.Goals as goal

pub loop-e-preserved : goal.loop-e-preserved
loop-e-preserved c =
    c.in_ok-push.ensures.items ∙ (λ j. c.loop-e.invariant j ++ (get_or c.args.edges.now c.loop-e.e-index no_edge).0 ∷ [])
    ∙ sym (map_more (λ (e : Edge). e.0) c.args.edges.now c.loop-e.e-index no_edge c.loop-e-test.true)
