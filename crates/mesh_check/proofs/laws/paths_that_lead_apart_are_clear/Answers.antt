use Rattle.mesh_check.proofs.LeadingApart.{lead_apart}
use Rattle.mesh_check.proofs.laws.paths_that_lead_apart_are_clear.Goals as goal

pub returns : goal.returns
returns c = lead_apart
