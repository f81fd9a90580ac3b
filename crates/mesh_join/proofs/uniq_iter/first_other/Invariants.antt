use Rattle.std.proofs.Common.{◌≡◌, ◌∷◌, length}
use Rattle.std.specs.List.{All}
use Rattle.mesh_plane.specs.Plane.{Point}
use Rattle.mesh_plane.specs.Bounds.{IsSafe}
use Rattle.mesh_join.specs.Cleaned.{cleaned_sections}
use Rattle.mesh_join.proofs.uniq_iter.first_other.Given as goal

abbrev pub invariant-loop-next : goal.invariant-loop-next
invariant-loop-next g l = record {
  equal : All (λ (q : Point). q ≡ l.first) l.rest → All (λ (q : Point). q ≡ l.first) l.points;
  unequal : All (λ (q : Point). q ≡ l.first) l.points → All (λ (q : Point). q ≡ l.first) l.rest;
  sections : cleaned_sections (l.first ∷ l.points) ≡ cleaned_sections (l.first ∷ l.rest);
  safe : All (IsSafe g.I.IntNumber.unit) l.rest;
}

abbrev pub decreases-loop-next : goal.decreases-loop-next
decreases-loop-next g l = length l.rest
