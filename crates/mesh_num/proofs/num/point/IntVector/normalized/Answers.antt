-- The direction found is at most `unit` long.
use Rattle.std.proofs.Common.{subst, sym}
use Rattle.mesh_plane.specs.Plane.{Point}
use Rattle.mesh_num.specs.Direction.{IsShort}
use Rattle.mesh_num.proofs.Passed.{short_passed}
use Rattle.mesh_num.proofs.num.point.IntVector.normalized.Goals as goal

pub from_parts-requires : goal.from_parts-requires
from_parts-requires g c =
    let short = rw c.unit.ensures.value at c.in_ok-x.ensures.short in
    let same = short_passed g.I.IntNumber.unit (c.in_ok-x.x, c.in_ok-x.y) g.met.I.IntNumber.most_law short in
    subst (λ (n : Point). IsShort g.I.IntNumber.unit n) (sym same) short
