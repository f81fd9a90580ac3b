use Rattle.std.specs.Prelude.{take}
use Rattle.mesh_offset.specs.Padding.{ArePathsSafe}
use Rattle.mesh_offset.proofs.bounds.validate_bounds.Given as goal

-- each path so far is safe
abbrev pub invariant-loop-index : goal.invariant-loop-index
invariant-loop-index g l = ArePathsSafe g.I.IntNumber.unit (g.I.Wide.WideNumber.value l.padding) (take l.index (g.S.IntShapeResource.paths l.source))
