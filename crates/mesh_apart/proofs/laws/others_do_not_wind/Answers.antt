-- The winding of what lies apart.
use Rattle.mesh_apart.proofs.Resolutions.{others_none}
use Rattle.mesh_apart.proofs.laws.others_do_not_wind.Goals as goal

pub returns : goal.returns
returns c first second apart splits legal piece stands m some q within = others_none first second apart splits legal piece stands m some q within
