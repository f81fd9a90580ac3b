use Rattle.std.proofs.Common.{take}
use Rattle.std.specs.List.{All}
use Rattle.mesh_num.specs.FlatContours.{flat_contours}
use Rattle.mesh_nets.specs.Private.Outlines.{IsStartOutside}
use Rattle.mesh_nets.proofs.winding.do_enclose.Given as goal

abbrev pub invariant-loop-index : goal.invariant-loop-index
invariant-loop-index g l = All (IsStartOutside l.edges) (take l.index (flat_contours l.contours))
