use Rattle.std.specs.Prelude.{pos, ◌<ℤ◌}
use Rattle.mesh_plane.specs.Plane.{Edge}
use Rattle.mesh_store.specs.Steps.{exactly}
use Rattle.mesh_store.proofs.Listing.{AreKept}
use Rattle.mesh_store.proofs.worklist.Worklist.waiting.Given as goal

abbrev pub invariant-loop-e : goal.invariant-loop-e
invariant-loop-e l = AreKept (λ (x : Edge). pos 0 <ℤ exactly x l.self) l.edges l.left.items l.e-index
