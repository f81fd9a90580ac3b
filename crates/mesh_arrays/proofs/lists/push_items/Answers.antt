-- One item after another.
use Rattle.std.proofs.Common.{[], ◌∷◌, ◌++◌, take, sym, ap, ◌∙◌}
use Rattle.std.proofs.lemmas.List.{take_more}
use Rattle.mesh_arrays.proofs.Adding.{item_added}
use Rattle.mesh_arrays.proofs.lists.push_items.Goals as goal

pub loop-item-preserved : goal.loop-item-preserved
loop-item-preserved g c =
    let i = c.loop-item.item-index in
    let items = c.args.items.now in
    item_added g.T.Flat.item_of _ _ _ _ _ _ c.item-item.result c.loop-item.invariant c.in_ok-push.ensures.items c.of.ensures
    (take_more items i c.item-item.result c.loop-item-test.true ∙ ap (λ x. take i items ++ x ∷ []) (sym c.item-item.is))
