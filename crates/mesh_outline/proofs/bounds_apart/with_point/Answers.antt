-- Each side reaches out to the point.
use Rattle.mesh_outline.proofs.PointBounds.{reach_point}
use Rattle.mesh_outline.proofs.bounds_apart.with_point.Goals as goal

pub returns : goal.returns
returns g c = rw (← c.bounds.view_is, ← c.point.view_is) (reach_point _ _ _ c.lesser.ensures c.greater.ensures c.lesser-2.ensures c.greater-2.ensures)
