use Rattle.std.proofs.Common.{length}
use Rattle.mesh_rounds.proofs.groups.Search.+find_within.Given as goal

abbrev pub decreases-find_within : goal.decreases-find_within
decreases-find_within l = length l.xs.now
