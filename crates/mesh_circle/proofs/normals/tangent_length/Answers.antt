use Rattle.mesh_sine.proofs.Roots.{root_by}
use Rattle.std.proofs.Common.{sym}
use Rattle.mesh_circle.proofs.normals.tangent_length.Goals as goal

pub returns-clause-value : goal.returns-clause-value
returns-clause-value c = sym (root_by _ _ c.isqrt.ensures.square_le c.isqrt.ensures.next_square_gt)
