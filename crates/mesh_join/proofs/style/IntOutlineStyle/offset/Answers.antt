-- One offset after the other.
use Rattle.mesh_join.proofs.style.IntOutlineStyle.offset.Goals as goal

pub returns : goal.returns
returns g c = rw c.outer_offset.ensures at c.inner_offset.ensures
