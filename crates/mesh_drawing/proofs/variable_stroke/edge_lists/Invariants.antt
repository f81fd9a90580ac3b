use Rattle.std.proofs.Common.{◌≡◌, take}
use Rattle.mesh_num.specs.Paths.{paths_of}
use Rattle.mesh_variable_stroke.specs.VariableStrokes.{variable_stroke_edges}
use Rattle.mesh_drawing.specs.Order.{by_values}
use Rattle.mesh_drawing.specs.Drawings.{AreListed}
use Rattle.mesh_drawing.proofs.variable_stroke.edge_lists.Given as goal

-- the edges of the paths so far, by a builder of this style
abbrev pub invariant-loop-path : goal.invariant-loop-path
invariant-loop-path g l = record {
  listed : AreListed (by_values g.I.Ord.cmp g.I.IntNumber.of_value) (variable_stroke_edges g.I.IntNumber.unit l.fn.builder)
      (take l.path-index (paths_of l.paths)) (paths_of l.lists.items);
  same : l.builder ≡ l.fn.builder;
}
