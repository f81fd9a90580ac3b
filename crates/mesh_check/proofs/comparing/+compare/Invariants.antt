use Rattle.mesh_check.proofs.comparing.+compare.Given as goal

abbrev pub decreases-compare : goal.decreases-compare
decreases-compare l = l.left.now
