use Rattle.std.proofs.Common.{◌∙◌, sym, subst, OnOk}
use Rattle.mesh_rounds.specs.declared.groups.Group.{Group}
use Rattle.mesh_rounds.specs.Private.Groups.{edges_in, Searches}
use Rattle.mesh_store.proofs.Lists.{on_ok}
use Rattle.mesh_rounds.proofs.Pairs.{searches_over, searches_after, searches_second, all_beside}
use Rattle.mesh_rounds.proofs.groups.Group.+find_few.Goals as goal
use Rattle.mesh_rounds.proofs.groups.Group.+find_few.Goals.{then-search-via-then-search, then-search-via-else-search+then-is_beside}

pub returns-then-search : goal.returns-then-search
returns-then-search t c =
    let xs = c.args.xs.now in
    let ys = edges_in c.args.self.now in
    elim c.then-search.branch [
      | then-search-via-then-search w ↦ searches_over xs ys c.args.search.now c.count.new.self c.count.ensures w.if-search.true
      | then-search-via-else-search+then-is_beside w ↦
          all_beside xs ys c.args.bounds w.bounds.result c.args.search.now c.count.new.self c.count.ensures c.requires.within w.bounds.ensures (sym w.is_beside.ensures ∙ w.if-is_beside.true)
    ]

pub returns-in-Few : goal.returns-in-Few
returns-in-Few t c =
    let xs = c.args.xs.now in
    let old = c.args.search.now in
    let new = c.find_between.new.self in
    subst (λ (g : Group). OnOk c.find_between.result (Searches xs (edges_in g) old new)) (sym c.in-Few.is)
    (on_ok c.find_between.result (searches_after xs c.in-Few.ys.items old c.count.new.self new c.count.ensures) (rw c.deref.ensures.value at c.find_between.ensures))

pub returns-in_ok-find_few-in-Halves : goal.returns-in_ok-find_few-in-Halves
returns-in_ok-find_few-in-Halves t c =
    let xs = c.args.xs.now in
    let low = edges_in c.in-Halves.low.value in
    let high = edges_in c.in-Halves.high.value in
    let old = c.args.search.now in
    let mid = c.find_few.new.search in
    let new = c.find_few-in-Halves.new.search in
    let first : Searches xs low old mid = searches_after xs low old c.count.new.self mid c.count.ensures (rw c.deref-in-Halves.ensures at c.in_ok-find_few-in-Halves.ensures) in
    subst (λ (g : Group). OnOk c.find_few-in-Halves.result (Searches xs (edges_in g) old new)) (sym c.in-Halves.is)
    (on_ok c.find_few-in-Halves.result (searches_second xs low high old mid new first) (rw c.deref-in-Halves-2.ensures at c.find_few-in-Halves.ensures))
