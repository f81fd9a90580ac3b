use Rattle.std.proofs.Common.{subst}
use Rattle.mesh_plane.specs.Plane.{Edge}
use Rattle.mesh_rounds.specs.declared.groups.Group.{Group}
use Rattle.mesh_store.specs.Cells.{StandsIn}
use Rattle.mesh_rounds.specs.Private.Groups.{edges_in}
use Rattle.mesh_split.specs.Growth.{Waits}
use Rattle.mesh_rounds.proofs.Rounding.{bounded_more, pruned_more}
use Rattle.mesh_rounds.proofs.rounds.waiting_groups.Goals as goal

pub loop-group-preserved : goal.loop-group-preserved
loop-group-preserved c =
    let todo = c.args.todo.now in
    let left = c.in_ok-waiting.field-0 in
    rw c.in_ok-push.ensures.items
    (record {
      bounded = bounded_more c.loop-group.kept.items left c.loop-group.invariant.bounded c.in_ok-waiting.ensures.bounded;
      kept =
          pruned_more todo c.args.groups.now c.loop-group.group-index c.group-item.result c.loop-group.kept.items left c.loop-group-test.true c.loop-group.invariant.kept
          (subst (λ (g : Group). (x : Edge) → StandsIn x (edges_in g) → Waits x todo → StandsIn x (edges_in left)) c.group-item.is c.in_ok-waiting.ensures.kept);
    })
