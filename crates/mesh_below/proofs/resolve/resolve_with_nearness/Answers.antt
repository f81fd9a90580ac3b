use Rattle.std.proofs.Common.{List, subst, sym}
use Rattle.mesh_lattice.specs.Counted.{Counted}
use Rattle.mesh_lattice.specs.FillRules.{filled_by}
use Rattle.mesh_ahead.specs.Ahead.{IsCountedSplitting}
use Rattle.mesh_below.proofs.Beyond.{counted_resolution}
use Rattle.mesh_below.proofs.resolve.resolve_with_nearness.Goals as goal

pub returns-clause-resolution : goal.returns-clause-resolution
returns-clause-resolution c =
    let k = c.in_ok-told.told.nearness in
    let old = c.args.count.now in
    let new = c.split_edges_told.new.count in
    let counted = subst (λ (ks : List Counted). IsCountedSplitting c.args.edges.now old new ks k) (sym c.deref.ensures.value) c.in_ok-told.ensures.standing in
    let told = counted.told in
    counted_resolution k c.args.edges.now (filled_by c.args.fill) _ _ old new told.splitting.splits told.nearness counted.counted (c.in_ok-answer.ensures.resolution told.splitting)
