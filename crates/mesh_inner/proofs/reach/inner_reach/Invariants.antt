-- The room of the paths so far.
use Rattle.std.proofs.Common.{take}
use Rattle.mesh_stroke.specs.Styles.{stroke_style_of}
use Rattle.mesh_inner.specs.Private.Limits.{IsLimitOfAll}
use Rattle.mesh_inner.proofs.reach.inner_reach.Given as goal

abbrev pub invariant-loop-index : goal.invariant-loop-index
invariant-loop-index g l =
    IsLimitOfAll g.I.IntNumber.unit (stroke_style_of g.I.IntNumber.value l.style) l.closed (take l.index (g.S.IntShapeResource.paths l.paths)) l.least
