use Rattle.std.proofs.Common.{subst}
use Rattle.mesh_store.proofs.Lists.{if_ok}
use Rattle.mesh_attempt.specs.Attempts.{AreCut}
use Rattle.mesh_ahead.proofs.Arranged.{cut_arranged, proper_arranged}
use Rattle.mesh_ahead.proofs.InLine.{if_some}
use Rattle.mesh_ahead.proofs.settling.cut_arranged.Goals as goal

pub cut_edges-requires-2 : goal.cut_edges-requires-2
cut_edges-requires-2 c = rw c.deref.ensures.value (proper_arranged c.args.edges.now c.in-Some.list.items (rw c.in-Some.is at c.in_ok-list.ensures) c.requires)

pub returns : goal.returns
returns c =
    if_ok c.cut_edges-2.result _ _
    (if_some _ _
    (λ cut k.
    cut_arranged c.args.edges.now c.in-Some.list.items cut (rw c.in-Some.is at c.in_ok-list.ensures)
    (subst (λ es. AreCut es cut) c.deref.ensures.value k)))
    c.cut_edges-2.ensures
