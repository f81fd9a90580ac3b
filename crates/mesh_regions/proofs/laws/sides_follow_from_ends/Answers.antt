-- The winding beside a segment, by that at its start.
use Rattle.mesh_regions.proofs.StarSums.{ends_follow}
use Rattle.mesh_regions.proofs.laws.sides_follow_from_ends.Goals as goal

pub returns : goal.returns
returns c es split e stands m some = ends_follow es split e stands m some
