use Rattle.std.proofs.Common.{take}
use Rattle.mesh_join.specs.Styles.{style_of}
use Rattle.mesh_outline.specs.Private.Given.{AreGiven}
use Rattle.mesh_outline.proofs.resolve.given_segments.Given as goal

-- what the paths so far give
abbrev pub invariant-loop-index : goal.invariant-loop-index
invariant-loop-index g l =
    AreGiven g.I.IntNumber.unit (style_of g.I.IntNumber.value l.style) (take l.index (g.S.IntShapeResource.paths l.source)) l.segments.items
