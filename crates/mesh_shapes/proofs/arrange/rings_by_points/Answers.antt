use Rattle.mesh_shapes.proofs.Groups.{sorted_views}
use Rattle.mesh_shapes.proofs.arrange.rings_by_points.Goals as goal

pub returns-clause-ordered : goal.returns-clause-ordered
returns-clause-ordered c = sorted_views c.sort_unstable.new.self.items c.sort_unstable.ensures.sorted
