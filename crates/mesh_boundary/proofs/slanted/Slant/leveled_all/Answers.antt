use Rattle.std.proofs.Common.{[], ◌∷◌, ◌++◌, sym, ◌∙◌}
use Rattle.std.proofs.lemmas.List.{map_more}
use Rattle.mesh_boundary.specs.Private.Slants.{leveled_by}
use Rattle.mesh_boundary.proofs.slanted.Slant.leveled_all.Goals as goal

pub loop-s-preserved : goal.loop-s-preserved
loop-s-preserved c =
    c.in_ok-push.ensures.items ∙ (λ j. c.loop-s.invariant j ++ c.leveled.ensures j ∷ [])
    ∙ sym (map_more (leveled_by c.args.self) c.args.segments.now c.loop-s.s-index _ c.loop-s-test.true)
