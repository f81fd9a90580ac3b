use Rattle.std.proofs.Common.{length}
use Rattle.mesh_rounds.proofs.rounds.+all_pruned_about.Given as goal

abbrev pub decreases-all_pruned_about : goal.decreases-all_pruned_about
decreases-all_pruned_about l = length l.groups.items
