-- A cleaned contour winds as the contour.
use Rattle.mesh_join.proofs.CleaningSteps.{cleaned-winding}
use Rattle.mesh_join.proofs.laws.cleaned_contours_wind_alike.Goals as goal

pub returns : goal.returns
returns c points m q = cleaned-winding m q points
