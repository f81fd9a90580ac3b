-- A vector's direction is the one that the definition gives.
use Rattle.mesh_plane.specs.Plane.{minus}
use Rattle.mesh_num.proofs.Directed.{is_direction_of}
use Rattle.mesh_circle.proofs.vertex.direction.Goals as goal

pub returns-clause-value : goal.returns-clause-value
returns-clause-value g c =
    is_direction_of g.I.IntNumber.unit (minus c.args.point c.args.center) c.in-Some.direction
    (rw c.sub.ensures at c.in-Some.ensures.value)
