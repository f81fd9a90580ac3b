-- One winding inside a segment.
use Rattle.mesh_regions.proofs.Inside.{inside_winding}
use Rattle.mesh_regions.proofs.laws.sides_are_constant.Goals as goal

pub returns : goal.returns
returns c es split e stands m some q within = inside_winding es split e stands m some q within
