use Rattle.std.proofs.Common.{take}
use Rattle.mesh_variable_stroke.specs.Drawn.{AreStrokable}
use Rattle.mesh_variable_stroke.proofs.bounds.is_strokable.Given as goal

-- each vertex so far stays safe
abbrev pub invariant-loop-vertex : goal.invariant-loop-vertex
invariant-loop-vertex g l = AreStrokable g.I.IntNumber.unit (g.I.IntNumber.value l.padding) (take l.vertex-index l.path)
