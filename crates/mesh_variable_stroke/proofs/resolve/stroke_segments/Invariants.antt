-- What the paths so far give.
use Rattle.std.proofs.Common.{◌≡◌, take}
use Rattle.mesh_offset.specs.Built.{AreBuilt}
use Rattle.mesh_variable_stroke.specs.VariableStrokes.{variable_stroke_edges}
use Rattle.mesh_variable_stroke.proofs.resolve.stroke_segments.Given as goal

abbrev pub invariant-loop-index : goal.invariant-loop-index
invariant-loop-index g l = record {
  built : AreBuilt (variable_stroke_edges g.I.IntNumber.unit l.fn.style.arc) (take l.index (g.S.IntVariableStrokeSource.paths l.source)) l.segments.items;
  same : l.builder ≡ l.fn.style.arc;
}
