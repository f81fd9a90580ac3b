use Rattle.mesh_rounds.proofs.Pairs.{searches_near}
use Rattle.mesh_rounds.proofs.groups.Search.find_between.Goals as goal

pub returns : goal.returns
returns c =
    searches_near c.args.xs.now c.args.ys.now c.keep_near.new.near.items c.args.bounds c.args.self.now _ c.find_near.new.self _ c.requires c.in_ok-keep_near.ensures
    (record { kept = λ x l. l; over = λ e. e }) (rw c.deref.ensures.value at c.in_ok-find_near.ensures) (record { kept = λ x l. l; over = λ e. e })
