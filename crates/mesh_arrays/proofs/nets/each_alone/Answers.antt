-- One item after another.
use Rattle.std.proofs.Common.{[], ◌∷◌, ◌++◌, rules, ap, ◌∙◌, map-id}
use Rattle.std.proofs.lemmas.Iterator.Adapters.{YieldsList-from_vec}
use Rattle.std.proofs.lemmas.Iterator.Consumers.{YieldsList-end}
use Rattle.mesh_arrays.proofs.NetClearances.{alone_more}
use Rattle.mesh_arrays.proofs.nets.each_alone.Goals as goal

pub loop-item-preserved : goal.loop-item-preserved
loop-item-preserved g c =
    alone_more c.loop-item.lists.items c.push-in-loop-item.new.self.items c.push.new.self c.loop-item.yielded c.in-Some.item c.in_ok-push-2.ensures.items
    (c.in_ok-push.ensures.items ∙ ap (λ l. l ++ c.in-Some.item ∷ []) c.in_ok-list.ensures.items) c.loop-item.invariant

pub returns : goal.returns
returns g c =
    let end = YieldsList-end (YieldsList-from_vec {s = c.into_iter-item-iterator.result} c.args.items.items (search rules) (search rules))
    c.loop-item.yielded c.loop-item.item-iterator c.loop-item.yielded_by c.next.result c.next.new.self c.in-None.is c.next.ensures.steps in
    rw (← end.0, map-id) c.loop-item.invariant
