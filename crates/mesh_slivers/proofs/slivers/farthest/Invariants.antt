use Rattle.std.proofs.Common.{◌≡◌, take}
use Rattle.mesh_slivers.specs.Slivers.{farthest}
use Rattle.mesh_slivers.proofs.slivers.farthest.Given as goal

abbrev pub invariant-loop-p : goal.invariant-loop-p
invariant-loop-p g l = l.end ≡ farthest l.start (take l.p-index l.points)
