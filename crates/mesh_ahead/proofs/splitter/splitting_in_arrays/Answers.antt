use Rattle.std.proofs.Common.{subst}
use Rattle.mesh_lattice.specs.Splitting.{IsSplitting}
use Rattle.mesh_store.proofs.Lists.{if_ok}
use Rattle.mesh_ahead.proofs.InLine.{cut_proper, cut_splitting, if_some}
use Rattle.mesh_ahead.proofs.splitter.splitting_in_arrays.Goals as goal

pub splitting_of-requires-2 : goal.splitting_of-requires-2
splitting_of-requires-2 c =
    rw c.deref.ensures.value (cut_proper c.args.edges.now c.in-Some.cut.edges.items c.in-Some.cut.splits c.requires (rw c.in-Some.is at c.in_ok-cut.ensures))

pub returns-clause-splitting : goal.returns-clause-splitting
returns-clause-splitting c =
    if_ok c.splitting_of-2.result _ _
    (if_some _ _
    (λ v k.
    cut_splitting c.args.edges.now c.in-Some.cut.edges.items c.in-Some.cut.splits v.items c.requires (rw c.in-Some.is at c.in_ok-cut.ensures)
    (subst (λ es. IsSplitting es v.items) c.deref.ensures.value k)))
    c.splitting_of-2.ensures.splitting
