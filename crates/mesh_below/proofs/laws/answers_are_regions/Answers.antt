-- The winding of an answer's contours.
use Rattle.mesh_below.proofs.AnswerRegions.{regions_made}
use Rattle.mesh_below.proofs.laws.answers_are_regions.Goals as goal

pub returns : goal.returns
returns c edges fill options answer proper balanced empty r = regions_made edges fill options answer proper balanced empty r
