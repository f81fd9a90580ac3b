use Rattle.std.proofs.Common.{take}
use Rattle.mesh_clearance.proofs.Gathering.{HasPushed}
use Rattle.mesh_nets.proofs.edges.push_contour.Given as goal

abbrev pub invariant-loop-p : goal.invariant-loop-p
invariant-loop-p g l = HasPushed l.initial.edges.items l.edges.items l.start l.from (take l.p-index l.others)
