-- One list after another.
use Rattle.mesh_arrays.proofs.Adding.{no_lists, list_more, lists_all}
use Rattle.mesh_arrays.proofs.lists.FlatLists.push_lists.Goals as goal

pub loop-list-init : goal.loop-list-init
loop-list-init g c = no_lists g.T.Flat.item_of c.args.self.now

pub loop-list-preserved : goal.loop-list-preserved
loop-list-preserved g c =
    list_more g.T.Flat.item_of _ _ _ _ c.list-item.result c.loop-list.list-index c.loop-list-test.true c.list-item.is c.loop-list.invariant
    (rw c.deref.ensures.value at c.in_ok-push.ensures)

pub returns : goal.returns
returns g c = lists_all g.T.Flat.item_of _ _ _ c.loop-list.list-index c.loop-list-test.false c.loop-list.invariant
