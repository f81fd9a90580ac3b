-- The items, and where they end.
use Rattle.std.proofs.Common.{◌≡◌, [], ◌∷◌, ◌++◌, length, ap, ◌∙◌}
use Rattle.mesh_arrays.proofs.Adding.{list_added}
use Rattle.mesh_arrays.proofs.lists.FlatLists.push.Goals as goal

pub returns : goal.returns
returns g c =
    let size : c.len.result ≡ length c.push_items.new.all.items = c.len.ensures ∙ c.push_items.new.all.ok.0 in
    list_added g.T.Flat.item_of _ _ c.args.list.now c.in_ok-push_items.ensures
    (c.in_ok-push.ensures.items ∙ ap (λ n. c.args.self.now.ends.items ++ n ∷ []) size)
