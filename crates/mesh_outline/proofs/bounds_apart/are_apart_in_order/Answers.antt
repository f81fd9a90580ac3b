-- One after another.
use Rattle.std.proofs.Common.{◌+◌, arith}
use Rattle.mesh_outline.proofs.BoundsInOrder.{first_apart_more, rest_of}
use Rattle.mesh_outline.proofs.bounds_apart.are_apart_in_order.Goals as goal

pub loop-index-preserved : goal.loop-index-preserved
loop-index-preserved g c =
    first_apart_more c.args.bounds.now c.loop-index.index c.index-bounds-index.result (omega arith) c.index-bounds-index.is c.loop-index.invariant
    (rw (rest_of c.args.bounds.now (c.loop-index.index + 1)) at (c.is_apart_from.ensures c.if-not-is_apart_from.false))
