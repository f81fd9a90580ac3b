use Rattle.std.proofs.Common.{subst, ◌++◌}
use Rattle.mesh_plane.specs.Plane.{Edge}
use Rattle.mesh_rounds.specs.declared.groups.Group.{Group}
use Rattle.mesh_store.specs.BoundingBoxes.{AreBounds}
use Rattle.mesh_store.specs.Cells.{StandsIn}
use Rattle.mesh_rounds.specs.Private.Groups.{edges_in, KeepsWaiting}
use Rattle.mesh_split.specs.Growth.{Waits}
use Rattle.mesh_store.proofs.Listing.{listed_more}
use Rattle.mesh_store.proofs.Lists.{stands_after, both_parts}
use Rattle.mesh_rounds.proofs.groups.Group.+prune.Goals as goal

pub returns-in_ok-prune-in-Halves-2-clause-bounded : goal.returns-in_ok-prune-in-Halves-2-clause-bounded
returns-in_ok-prune-in-Halves-2-clause-bounded t c =
    let low = edges_in c.prune.new.self in
    let high = edges_in c.prune-in-Halves.new.self in
    let west = rw c.deref-in-Halves.ensures at c.bounds.ensures in
    let east = rw c.deref-in-Halves-2.ensures at c.bounds-in-Halves.ensures in (
      c.in_ok-prune-in-Halves.ensures.bounded,
      c.in_ok-prune-in-Halves-2.ensures.bounded,
      both_parts (AreBounds c.union.result) low high (λ e l. c.union.ensures.first e (west e l)) (λ e l. c.union.ensures.second e (east e l)),
    )

pub returns-in_ok-prune-in-Halves-2-clause-kept : goal.returns-in_ok-prune-in-Halves-2-clause-kept
returns-in_ok-prune-in-Halves-2-clause-kept t c =
    let todo = c.args.todo.now in
    let low = edges_in c.in-Halves.low.value in
    let high = edges_in c.in-Halves.high.value in
    let low' = edges_in c.prune.new.self in
    let high' = edges_in c.prune-in-Halves.new.self in
    let first : KeepsWaiting todo low low' = rw c.deref_mut.ensures.value at c.in_ok-prune-in-Halves.ensures.kept in
    let second : KeepsWaiting todo high high' = rw c.deref_mut-in-Halves.ensures.value at c.in_ok-prune-in-Halves-2.ensures.kept in
    λ x l w.
    both_parts (λ (y : Edge). Waits y todo → StandsIn y (low' ++ high')) low high (λ y k v. listed_more y low' high' (first y k v)) (λ y k v. stands_after y low' high' (second y k v)) x
    (subst (λ (z : Group). StandsIn x (edges_in z)) c.in-Halves.is l) w
