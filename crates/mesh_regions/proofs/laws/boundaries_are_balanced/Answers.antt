-- Balance of the boundary.
use Rattle.mesh_regions.proofs.SplitBoundary.{boundary_balances}
use Rattle.mesh_regions.proofs.laws.boundaries_are_balanced.Goals as goal

pub returns : goal.returns
returns c es bs fill split empty is = boundary_balances es bs fill split empty is
