use Rattle.std.proofs.Common.{refl, subst, sym, List}
use Rattle.mesh_plane.specs.Plane.{Edge}
use Rattle.mesh_store.specs.Cells.{StandsIn}
use Rattle.mesh_store.proofs.Listing.{stands_listed}
use Rattle.mesh_store.proofs.store.Store.part_anew.Goals as goal

pub invariant_of-self : goal.invariant_of-self
invariant_of-self c = λ e lives place reach.
    c.in_ok-self-inside.ensures refl e
    (rw c.deref.ensures.value (subst (λ (es : List Edge). StandsIn e es) (sym c.in_ok-ends.ensures) (stands_listed e c.self.inside.live lives))) place reach
