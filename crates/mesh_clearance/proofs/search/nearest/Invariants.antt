use Rattle.std.proofs.Common.{◌-◌, length}
use Rattle.mesh_clearance.proofs.Searching.{IsNearestBefore}
use Rattle.mesh_clearance.proofs.search.nearest.Given as goal

abbrev pub invariant-loop-at : goal.invariant-loop-at
invariant-loop-at l = IsNearestBefore l.most l.least l.at l.edges l.section

abbrev pub decreases-loop-at : goal.decreases-loop-at
decreases-loop-at l = length l.edges - l.at
