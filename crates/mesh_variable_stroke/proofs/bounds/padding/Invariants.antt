use Rattle.std.proofs.Common.{◌≡◌, take}
use Rattle.mesh_variable_stroke.specs.Strokable.{padding_of}
use Rattle.mesh_variable_stroke.proofs.bounds.padding.Given as goal

-- the greatest radius of the paths so far
abbrev pub invariant-loop-index : goal.invariant-loop-index
invariant-loop-index g l = g.I.IntNumber.value l.padding ≡ padding_of (take l.index (g.S.IntVariableStrokeSource.paths l.source))
