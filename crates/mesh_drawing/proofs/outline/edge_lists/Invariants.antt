use Rattle.std.proofs.Common.{take}
use Rattle.mesh_num.specs.Paths.{paths_of}
use Rattle.mesh_drawing.specs.Order.{by_values}
use Rattle.mesh_join.specs.Styles.{style_of}
use Rattle.mesh_drawing.specs.Drawings.{AreListed, served_edges}
use Rattle.mesh_drawing.proofs.outline.edge_lists.Given as goal

-- the edges of the paths so far
abbrev pub invariant-loop-index : goal.invariant-loop-index
invariant-loop-index g l =
    AreListed (by_values g.I.Ord.cmp g.I.IntNumber.of_value) (served_edges g.I.IntNumber.unit (style_of g.I.IntNumber.value l.style))
    (take l.index (paths_of l.paths)) (paths_of l.lists.items)
