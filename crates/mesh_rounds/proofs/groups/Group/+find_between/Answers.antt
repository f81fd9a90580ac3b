use Rattle.std.proofs.Common.{◌∙◌, sym, subst, OnOk, ◌++◌}
use Rattle.mesh_rounds.specs.declared.groups.Group.{Group}
use Rattle.mesh_rounds.specs.Private.Groups.{edges_in, Searches}
use Rattle.mesh_store.proofs.Lists.{on_ok}
use Rattle.mesh_rounds.proofs.Pairs.{searches_over, searches_after, searches_first, searches_quarters, all_beside}
use Rattle.mesh_rounds.proofs.groups.Group.+find_between.Goals as goal
use Rattle.mesh_rounds.proofs.groups.Group.+find_between.Goals.{then-search-via-then-search, then-search-via-else-search+then-is_beside}

pub returns-then-search : goal.returns-then-search
returns-then-search t c =
    let xs = edges_in c.args.self.now in
    let ys = edges_in c.args.other.now in
    elim c.then-search.branch [
      | then-search-via-then-search w ↦ searches_over xs ys c.args.search.now c.count.new.self c.count.ensures w.if-search.true
      | then-search-via-else-search+then-is_beside w ↦
          all_beside xs ys w.bounds.result w.bounds-else-search.result c.args.search.now c.count.new.self c.count.ensures w.bounds.ensures w.bounds-else-search.ensures
          (sym w.is_beside.ensures ∙ w.if-is_beside.true)
    ]

pub returns-in-Few : goal.returns-in-Few
returns-in-Few t c =
    let ys = edges_in c.args.other.now in
    let old = c.args.search.now in
    let new = c.find_few.new.search in
    subst (λ (g : Group). OnOk c.find_few.result (Searches (edges_in g) ys old new)) (sym c.in-Few.is)
    (on_ok c.find_few.result (searches_after c.in-Few.xs.items ys old c.count.new.self new c.count.ensures) (rw c.deref.ensures.value at c.find_few.ensures))

pub returns-in_ok-find_between-in-Few-other : goal.returns-in_ok-find_between-in-Few-other
returns-in_ok-find_between-in-Few-other t c =
    let ys = edges_in c.args.other.now in
    let low = edges_in c.in-Halves.low.value in
    let high = edges_in c.in-Halves.high.value in
    let old = c.args.search.now in
    let mid = c.find_between.new.search in
    let new = c.find_between-in-Few-other.new.search in
    let first : Searches low ys old mid = searches_after low ys old c.count.new.self mid c.count.ensures (rw c.deref-in-Few-other.ensures at c.in_ok-find_between-in-Few-other.ensures) in
    subst (λ (g : Group). OnOk c.find_between-in-Few-other.result (Searches (edges_in g) ys old new)) (sym c.in-Halves.is)
    (on_ok c.find_between-in-Few-other.result (searches_first low high ys old mid new first) (rw c.deref-in-Few-other-2.ensures at c.find_between-in-Few-other.ensures))

pub returns-in_ok-find_between-in-Halves-other-3 : goal.returns-in_ok-find_between-in-Halves-other-3
returns-in_ok-find_between-in-Halves-other-3 t c =
    let low = edges_in c.in-Halves.low.value in
    let high = edges_in c.in-Halves.high.value in
    let west = edges_in c.in-Halves-other.west.value in
    let east = edges_in c.in-Halves-other.east.value in
    let old = c.args.search.now in
    let m1 = c.find_between-in-Halves-other.new.search in
    let m2 = c.find_between-in-Halves-other-2.new.search in
    let m3 = c.find_between-in-Halves-other-3.new.search in
    let new = c.find_between-in-Halves-other-4.new.search in
    let last = c.find_between-in-Halves-other-4.result in
    let first : Searches low west old m1 =
    searches_after low west old c.count.new.self m1 c.count.ensures
    (rw (c.deref-in-Halves-other.ensures, c.deref-in-Halves-other-2.ensures) at c.in_ok-find_between-in-Halves-other.ensures) in
    let second : Searches low east m1 m2 =
    rw (c.deref-in-Halves-other-3.ensures, c.deref-in-Halves-other-4.ensures) at c.in_ok-find_between-in-Halves-other-2.ensures in
    let third : Searches high west m2 m3 =
    rw (c.deref-in-Halves-other-5.ensures, c.deref-in-Halves-other-6.ensures) at c.in_ok-find_between-in-Halves-other-3.ensures in
    subst (λ (g : Group). OnOk last (Searches (edges_in g) (edges_in c.args.other.now) old new)) (sym c.in-Halves.is)
    (subst (λ (g : Group). OnOk last (Searches (low ++ high) (edges_in g) old new)) (sym c.in-Halves-other.is)
    (on_ok last (searches_quarters low high west east old m1 m2 m3 new first second third)
    (rw (c.deref-in-Halves-other-7.ensures, c.deref-in-Halves-other-8.ensures) at c.find_between-in-Halves-other-4.ensures)))
