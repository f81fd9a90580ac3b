-- Oddness of crossings.
use Rattle.mesh_plane.proofs.Crossings.{crossing_on_odd}
use Rattle.mesh_plane.proofs.laws.crossings_are_odd.Goals as goal

pub returns : goal.returns
returns c m q p r = crossing_on_odd m q p r
