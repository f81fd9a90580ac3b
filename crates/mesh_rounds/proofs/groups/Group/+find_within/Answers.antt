use Rattle.std.proofs.Common.{sym, subst, OnOk}
use Rattle.mesh_rounds.specs.declared.groups.Group.{Group}
use Rattle.mesh_rounds.specs.Private.Groups.{edges_in, Searches}
use Rattle.mesh_store.proofs.Lists.{on_ok}
use Rattle.mesh_rounds.proofs.Pairs.{searches_halves}
use Rattle.mesh_rounds.proofs.groups.Group.+find_within.Goals as goal

pub returns-in_ok-find_within-in-Halves-2 : goal.returns-in_ok-find_within-in-Halves-2
returns-in_ok-find_within-in-Halves-2 t c =
    let low = edges_in c.in-Halves.low.value in
    let high = edges_in c.in-Halves.high.value in
    let a = c.args.search.now in
    let b = c.find_within-in-Halves.new.search in
    let d = c.find_within-in-Halves-2.new.search in
    let e = c.find_between.new.search in
    let first : Searches low low a b = rw c.deref-in-Halves.ensures at c.in_ok-find_within-in-Halves.ensures in
    let second : Searches high high b d = rw c.deref-in-Halves-2.ensures at c.in_ok-find_within-in-Halves-2.ensures in
    subst (λ (g : Group). OnOk c.find_between.result (Searches (edges_in g) (edges_in g) a e)) (sym c.in-Halves.is)
    (on_ok c.find_between.result (searches_halves low high a b d e first second) (rw (c.deref-in-Halves-3.ensures, c.deref-in-Halves-4.ensures) at c.find_between.ensures))
