use Rattle.std.proofs.Common.{length}
use Rattle.mesh_rounds.proofs.rounds.+find_beside.Given as goal

abbrev pub decreases-find_beside : goal.decreases-find_beside
decreases-find_beside l = length l.groups.now
