use Rattle.std.proofs.Common.{take}
use Rattle.std.specs.List.{All}
use Rattle.mesh_num.specs.Rectangle.{IsSafeWidened}
use Rattle.mesh_drawing.proofs.refusal.first_in_path.Given as goal

-- each point so far stays safe
abbrev pub invariant-loop-index : goal.invariant-loop-index
invariant-loop-index g l = All (λ item. IsSafeWidened g.I.IntNumber.unit l.padding (g.P.Placed.at item)) (take l.index l.path)
