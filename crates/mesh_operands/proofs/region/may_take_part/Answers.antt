-- Contours are in range, and drawings may be drawn.
use Rattle.mesh_operands.proofs.region.may_take_part.Goals as goal

pub returns-in-Paths : goal.returns-in-Paths
returns-in-Paths g c = rw (c.in-Paths.is, c.is_ok.ensures.value) c.validate_overlay.ensures.safe
