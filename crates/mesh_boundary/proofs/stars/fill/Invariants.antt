use Rattle.std.proofs.Common.{◌≡◌, List, map}
use Rattle.mesh_plane.specs.Plane.{Point}
use Rattle.mesh_lattice.specs.Counted.{Counted}
use Rattle.std.proofs.Common.{ℕ}
use Rattle.mesh_boundary.specs.Private.Stars.{ends_at, IsParted, AreListed}
use Rattle.mesh_boundary.proofs.stars.fill.Given as goal

abbrev pub invariant-loop-k : goal.invariant-loop-k
invariant-loop-k l = record {
  parted : IsParted l.parts.items l.members.items l.free;
  listed : (at : Point → ℕ) (ks : List Counted) → l.ends ≡ map (λ (k : Counted). ends_at at k.0) ks → AreListed at l.parts.items l.members.items ks l.k;
}
