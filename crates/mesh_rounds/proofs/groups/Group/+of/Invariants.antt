use Rattle.std.proofs.Common.{length}
use Rattle.mesh_rounds.proofs.groups.Group.+of.Given as goal

abbrev pub decreases-of : goal.decreases-of
decreases-of l = length l.edges.now
