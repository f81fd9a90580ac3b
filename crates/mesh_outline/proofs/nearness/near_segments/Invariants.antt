use Rattle.std.proofs.Common.{◌^◌, ◌≤◌, take}
use Rattle.mesh_join.specs.Styles.{style_of}
use Rattle.mesh_offset.specs.Counting.{CountsAttempts}
use Rattle.mesh_outline.specs.Nearness.{IsOutlineDrawing}
use Rattle.mesh_outline.specs.Private.Near.{AreGivenCounted}
use Rattle.mesh_outline.proofs.nearness.near_segments.Given as goal

-- what the paths so far give, how near, and the splits so far
abbrev pub invariant-loop-index : goal.invariant-loop-index
invariant-loop-index g l =
    AreGivenCounted l.nearness g.I.IntNumber.unit (style_of g.I.IntNumber.value l.style) (g.S.IntShapeResource.paths l.source) (take l.index (g.S.IntShapeResource.paths l.source)) l.segments.items l.fn.count l.count
    × (l.nearness ≤ 2 ^ 38)
    × CountsAttempts l.index (IsOutlineDrawing g.I.IntNumber.unit (style_of g.I.IntNumber.value l.style) (g.S.IntShapeResource.paths l.source)) l.fn.count l.count
