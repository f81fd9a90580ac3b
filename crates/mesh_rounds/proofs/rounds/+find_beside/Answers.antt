use Rattle.std.proofs.Common.{◌≡◌, sym, subst, OnOk, List, ◌∷◌, arith, ap, length}
use Rattle.mesh_rounds.specs.declared.groups.Group.{Group}
use Rattle.mesh_rounds.specs.Private.Groups.{Searches, all_in, edges_in, AreBounded}
use Rattle.mesh_store.proofs.Lists.{on_ok}
use Rattle.mesh_rounds.proofs.Rounding.{searches_beside}
use Rattle.mesh_rounds.proofs.rounds.+find_beside.Goals as goal

pub find_between-requires-clause-other : goal.find_between-requires-clause-other
find_between-requires-clause-other t c = (subst AreBounded c.in-Some.ensures.cases.0 c.requires.all_bounded).0

pub find_beside-requires : goal.find_beside-requires
find_beside-requires t c =
    let is : c.args.groups.now ≡ c.in-Some.other.now ∷ c.in-Some.others.now = c.in-Some.ensures.cases.0 in
    (omega (arith, ap length is), (c.requires.bounded, (subst AreBounded is c.requires.all_bounded).1))

pub returns : goal.returns
returns t c =
    let other = c.in-Some.other.now in
    let others = c.in-Some.others.now in
    let xs = edges_in c.args.group.now in
    let is : c.args.groups.now ≡ other ∷ others = c.in-Some.ensures.cases.0 in
    subst (λ (gs : List Group). OnOk c.find_beside.result (Searches xs (all_in gs) c.args.search.now c.find_beside.new.search)) (sym is)
    (on_ok c.find_beside.result (searches_beside xs (edges_in other) (all_in others) c.args.search.now c.find_between.new.search c.find_beside.new.search c.in_ok-find_between.ensures) c.find_beside.ensures)
