use Rattle.std.proofs.Common.{◌≡◌, ◌∷◌, length}
use Rattle.std.specs.List.{All}
use Rattle.mesh_plane.specs.Bounds.{IsSafe}
use Rattle.mesh_join.specs.Cleaned.{open_sections}
use Rattle.mesh_join.proofs.uniq_iter.straight_on.Given as goal

abbrev pub invariant-loop-point : goal.invariant-loop-point
invariant-loop-point g l = record {
  sections : open_sections (l.fn.from ∷ l.fn.to ∷ l.fn.points) ≡ open_sections (l.from ∷ l.to ∷ l.points);
  safe : All (IsSafe g.I.IntNumber.unit) (l.from ∷ l.to ∷ l.points);
}

abbrev pub decreases-loop-point : goal.decreases-loop-point
decreases-loop-point g l = length l.points
