use Rattle.std.specs.Prelude.{◌≡◌, false}
use Rattle.mesh_plane.specs.Plane.{Edge}
use Rattle.mesh_store.specs.BoundingBoxes.{is_beside}
use Rattle.mesh_store.proofs.Listing.{AreKept}
use Rattle.mesh_rounds.proofs.groups.keep_near.Given as goal

abbrev pub invariant-loop-e : goal.invariant-loop-e
invariant-loop-e l = AreKept (λ (x : Edge). is_beside l.bounds x ≡ false) l.edges l.near.items l.e-index
