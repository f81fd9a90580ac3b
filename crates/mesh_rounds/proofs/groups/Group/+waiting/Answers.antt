use Rattle.std.proofs.Common.{◌≡◌, sym, subst, ◌++◌, List}
use Rattle.std.specs.Prelude.{pos, ◌<ℤ◌}
use Rattle.mesh_plane.specs.Plane.{Edge}
use Rattle.mesh_rounds.specs.declared.groups.Group.{Group}
use Rattle.mesh_store.specs.Cells.{StandsIn}
use Rattle.mesh_rounds.specs.Private.Groups.{edges_in}
use Rattle.mesh_store.specs.Steps.{exactly}
use Rattle.mesh_store.proofs.Listing.{listed_more}
use Rattle.mesh_store.proofs.Lists.{if_ok, stands_after, both_parts}
use Rattle.mesh_rounds.proofs.groups.Group.+waiting.Goals as goal

pub returns-in_ok-high-in-Halves-clause-kept : goal.returns-in_ok-high-in-Halves-clause-kept
returns-in_ok-high-in-Halves-clause-kept t c =
    let low = edges_in c.in-Halves.low.value in
    let high = edges_in c.in-Halves.high.value in
    let low' = edges_in c.in_ok-low-in-Halves.low in
    let high' = edges_in c.in_ok-high-in-Halves.high in
    let waits = λ (x : Edge). pos 0 <ℤ exactly x c.args.todo.now in
    let first : (x : Edge) → StandsIn x low → waits x → StandsIn x low' = rw c.deref-in-Halves.ensures at c.in_ok-low-in-Halves.ensures.kept in
    let second : (x : Edge) → StandsIn x high → waits x → StandsIn x high' = rw c.deref-in-Halves-2.ensures at c.in_ok-high-in-Halves.ensures.kept in
    if_ok c.halves.result (λ g. edges_in g ≡ low' ++ high') (λ g. (x : Edge) → StandsIn x (edges_in c.args.self.now) → waits x → StandsIn x (edges_in g))
    (λ g same x l.
    let m = subst (λ (z : Group). StandsIn x (edges_in z)) c.in-Halves.is l in
    subst (λ (xs : List Edge). waits x → StandsIn x xs) (sym same)
    (both_parts (λ (y : Edge). waits y → StandsIn y (low' ++ high')) low high (λ y k w. listed_more y low' high' (first y k w)) (λ y k w. stands_after y low' high' (second y k w)) x m))
    c.halves.ensures.same
