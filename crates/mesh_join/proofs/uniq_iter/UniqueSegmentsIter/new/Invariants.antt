use Rattle.std.proofs.Common.{◌≡◌, ◌∷◌, length}
use Rattle.std.specs.List.{All}
use Rattle.mesh_plane.specs.Bounds.{IsSafe}
use Rattle.mesh_join.specs.Cleaned.{cleaned_sections}
use Rattle.mesh_join.proofs.CleaningStart.{started}
use Rattle.mesh_join.proofs.uniq_iter.UniqueSegmentsIter.new.Given as goal

abbrev pub invariant-loop-next : goal.invariant-loop-next
invariant-loop-next g l = record {
  sections : started l.first l.to l.rest ≡ cleaned_sections l.points;
  safe : All (IsSafe g.I.IntNumber.unit) (l.first ∷ l.to ∷ l.rest);
}

abbrev pub decreases-loop-next : goal.decreases-loop-next
decreases-loop-next g l = length l.rest
