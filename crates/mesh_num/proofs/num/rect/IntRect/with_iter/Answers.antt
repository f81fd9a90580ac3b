-- One more point.
use Rattle.mesh_num.proofs.Rectangles.{bounds_grow}
use Rattle.mesh_num.proofs.num.rect.IntRect.with_iter.Goals as goal

pub loop-point-preserved : goal.loop-point-preserved
loop-point-preserved g c = rw c.grown.ensures (bounds_grow _ _ _ _ c.loop-point.invariant)
