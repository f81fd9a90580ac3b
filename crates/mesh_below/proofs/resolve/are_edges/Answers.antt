use Rattle.std.proofs.Common.{[], ◌∷◌, ◌++◌, sym, ◌∙◌, get_or, arith}
use Rattle.std.specs.Prelude.{pos}
use Rattle.std.proofs.lemmas.List.{map_more, take_more}
use Rattle.mesh_plane.specs.Plane.{Edge}
use Rattle.mesh_convex.specs.Convex.{no_edge}
use Rattle.mesh_below.proofs.resolve.are_edges.Goals as goal

pub loop-k-preserved : goal.loop-k-preserved
loop-k-preserved c =
    take_more c.args.segments.now c.loop-k.k (no_edge, pos 0) (omega (arith, c.loop-k-test.true, c.if-segments-edges.false))
    ∙ ((λ j. c.loop-k.invariant j ++ c.is_once.ensures c.if-not-is_once.false j ∷ [])
    ∙ sym (map_more (λ (e : Edge). (e, pos 1)) c.args.edges.now c.loop-k.k no_edge c.loop-k-test.true))
