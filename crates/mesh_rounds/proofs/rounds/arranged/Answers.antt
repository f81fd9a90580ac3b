use Rattle.mesh_store.proofs.Lists.{if_ok}
use Rattle.mesh_rounds.proofs.Rounding.{keeps_ordered, keeps_then}
use Rattle.mesh_rounds.specs.Private.Rounds.{Keeps, keyed_edges}
use Rattle.mesh_rounds.proofs.rounds.arranged.Goals as goal

pub returns : goal.returns
returns c =
    let edges = c.args.edges.items in
    let placed = keyed_edges c.in_ok-placed.placed.items in
    let ordered = keyed_edges c.sort_unstable_by_key.new.self.items in
    let has_all : Keeps edges placed = rw c.deref-2.ensures.value at c.in_ok-placed.ensures in
    let keeps : Keeps placed ordered = keeps_ordered c.in_ok-placed.placed.items c.sort_unstable_by_key.new.self.items c.sort_unstable_by_key.ensures.permutation in
    if_ok c.distinct.result _ _ (λ v k. keeps_then edges placed v.items has_all (keeps_then placed ordered v.items keeps (rw c.deref-3.ensures.value at k))) c.distinct.ensures
