use Rattle.std.proofs.Common.{take}
use Rattle.mesh_join.specs.Styles.{style_of}
use Rattle.mesh_outline.specs.Private.Gathered.{AreGathered, so_far}
use Rattle.mesh_outline.proofs.gather.gather_all.Given as goal

-- what comes of the paths so far
abbrev pub invariant-loop-index : goal.invariant-loop-index
invariant-loop-index g l =
    AreGathered g.I.IntNumber.unit (style_of g.I.IntNumber.value l.style) (take l.index (g.S.IntShapeResource.paths l.source))
    (so_far l.gathered)
