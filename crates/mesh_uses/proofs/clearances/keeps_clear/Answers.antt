use Rattle.mesh_uses.proofs.KeptClear.{kept_apart}
use Rattle.mesh_uses.proofs.clearances.keeps_clear.Goals as goal

pub returns : goal.returns
returns c = kept_apart c.in_ok-found.found _ _ _ c.is_at_least.result c.in_ok-found.ensures.clearance c.is_at_least.ensures
