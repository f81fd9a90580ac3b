use Rattle.std.proofs.Common.{take}
use Rattle.std.specs.List.{All}
use Rattle.mesh_clearance.specs.Boxes.{IsBoxed}
use Rattle.mesh_nets.proofs.boxes.box_around.Given as goal

abbrev pub invariant-loop-edge : goal.invariant-loop-edge
invariant-loop-edge l = All (IsBoxed l.around) (take l.edge-index l.edges)
