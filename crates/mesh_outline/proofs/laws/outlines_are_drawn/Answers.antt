-- What is promised of the outline of one contour.
use Rattle.mesh_outline.proofs.Promised.{has_promised_edges}
use Rattle.mesh_outline.proofs.laws.outlines_are_drawn.Goals as goal

pub returns : goal.returns
returns c unit least style contour = has_promised_edges unit style contour least
