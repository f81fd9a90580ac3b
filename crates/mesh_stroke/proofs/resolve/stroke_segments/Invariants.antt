-- What the paths so far give.
use Rattle.std.proofs.Common.{◌≡◌, take}
use Rattle.mesh_offset.specs.Built.{AreBuilt}
use Rattle.mesh_stroke.specs.Strokes.{stroke_edges}
use Rattle.mesh_stroke.specs.Styles.{stroke_style_of}
use Rattle.mesh_stroke.proofs.resolve.stroke_segments.Given as goal

abbrev pub invariant-loop-index : goal.invariant-loop-index
invariant-loop-index g l = record {
  built : AreBuilt (stroke_edges g.I.IntNumber.unit (stroke_style_of g.I.IntNumber.value l.style) l.fn.closed) (take l.index (g.S.IntShapeResource.paths l.source)) l.segments.items;
  same : l.builder ≡ stroke_style_of g.I.IntNumber.value l.style;
}
