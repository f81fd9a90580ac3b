-- The edges still to come are the same.
use Rattle.std.proofs.Common.{◌≡◌, ◌∷◌, length}
use Rattle.mesh_num.specs.Segments.{proper_edges}
use Rattle.mesh_offset.specs.Walks.{pairs}
use Rattle.mesh_stroke.proofs.path.next_other.Given as goal

abbrev pub invariant-loop-point : goal.invariant-loop-point
invariant-loop-point g l = proper_edges (pairs (l.fn.from ∷ l.fn.points)) ≡ proper_edges (pairs (l.fn.from ∷ l.points))

abbrev pub decreases-loop-point : goal.decreases-loop-point
decreases-loop-point g l = length l.points
