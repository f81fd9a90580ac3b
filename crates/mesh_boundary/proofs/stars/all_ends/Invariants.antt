use Rattle.std.proofs.Common.{◌≡◌, ℕ, length, map, take}
use Rattle.mesh_plane.specs.Plane.{Point}
use Rattle.mesh_lattice.specs.Counted.{Counted}
use Rattle.mesh_points.specs.Points.{AreDistinct, IsNumberOf}
use Rattle.mesh_boundary.specs.Private.Stars.{ends_at, ArePlaces}
use Rattle.mesh_boundary.proofs.stars.all_ends.Given as goal

abbrev pub invariant-loop-s : goal.invariant-loop-s
invariant-loop-s l = record {
  distinct : AreDistinct l.points;
  first : IsNumberOf l.points l.known.0.at l.known.0.number;
  second : IsNumberOf l.points l.known.1.at l.known.1.number;
  count : length l.ends.items ≡ l.s-index;
  places : (at : Point → ℕ) → ArePlaces at l.points → l.ends.items ≡ map (λ (k : Counted). ends_at at k.0) (take l.s-index l.segments);
}
