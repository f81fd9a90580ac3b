use Rattle.std.proofs.Common.{rules}
use Rattle.mesh_lattice.proofs.exact.are_opposite.Goals as goal

pub returns-then-s-lt0 : goal.returns-then-s-lt0
returns-then-s-lt0 c = search rules
