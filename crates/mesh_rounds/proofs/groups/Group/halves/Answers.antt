use Rattle.std.proofs.Common.{◌≡◌}
use Rattle.mesh_store.specs.BoundingBoxes.{AreBounds}
use Rattle.mesh_rounds.specs.Private.Groups.{edges_in}
use Rattle.mesh_store.proofs.Lists.{both_parts}
use Rattle.mesh_rounds.proofs.groups.Group.halves.Goals as goal

pub returns-clause-bounded : goal.returns-clause-bounded
returns-clause-bounded c =
    let low : c.in_ok-new.field-0.value ≡ c.args.low = c.in_ok-new.ensures.ok in
    let high : c.in_ok-new-2.field-0.value ≡ c.args.high = c.in_ok-new-2.ensures.ok in
    rw (low, high) (
      c.requires.low,
      c.requires.high,
      both_parts (AreBounds c.union-bounds.result) (edges_in c.args.low) (edges_in c.args.high)
          (λ x l. c.union-bounds.ensures.first x (c.bounds.ensures x l))
          (λ x l. c.union-bounds.ensures.second x (c.bounds-2.ensures x l)),
    )
