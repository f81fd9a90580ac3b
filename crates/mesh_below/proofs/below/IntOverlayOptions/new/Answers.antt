use Rattle.std.proofs.Common.{false}
use Rattle.mesh_below.proofs.below.IntOverlayOptions.new.Goals as goal

pub from_u128-requires : goal.from_u128-requires
from_u128-requires g c = g.met.U.WideUnsigned.zero_law

pub returns : goal.returns
returns g c = λ i. record { least_area = c.from_u128.ensures i; all_vertices = false; clockwise = false }
