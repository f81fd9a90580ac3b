-- A cleaned contour is clean.
use Rattle.mesh_join.proofs.CleaningSteps.{cleaned-clean}
use Rattle.mesh_join.proofs.laws.cleaned_contours_are_clean.Goals as goal

pub returns : goal.returns
returns c points differ = cleaned-clean points differ
