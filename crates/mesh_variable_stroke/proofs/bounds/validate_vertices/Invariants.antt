use Rattle.std.specs.Prelude.{take}
use Rattle.std.specs.List.{All}
use Rattle.mesh_variable_stroke.specs.Drawn.{AreStrokable}
use Rattle.mesh_variable_stroke.proofs.bounds.validate_vertices.Given as goal

-- each path so far may be stroked
abbrev pub invariant-loop-index : goal.invariant-loop-index
invariant-loop-index g l =
    All (λ path. AreStrokable g.I.IntNumber.unit (g.I.IntNumber.value l.padding) path) (take l.index (g.S.IntVariableStrokeSource.paths l.source))
