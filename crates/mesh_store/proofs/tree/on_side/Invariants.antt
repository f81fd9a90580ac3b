use Rattle.std.specs.Prelude.{◌≡◌, true}
use Rattle.mesh_plane.specs.Plane.{Edge}
use Rattle.mesh_store.specs.Cells.{reaches}
use Rattle.mesh_store.proofs.Listing.{AreKept}
use Rattle.mesh_store.proofs.tree.on_side.Given as goal

abbrev pub invariant-loop-e : goal.invariant-loop-e
invariant-loop-e l = AreKept (λ (x : Edge). reaches l.cut x l.below ≡ true) l.listed l.left.items l.e-index
