-- Where a cleaned contour begins.
use Rattle.mesh_join.proofs.CleaningBegun.{begins}
use Rattle.mesh_join.proofs.laws.cleaned_contours_begin.Goals as goal

pub returns : goal.returns
returns c first others unequal = begins first others unequal
