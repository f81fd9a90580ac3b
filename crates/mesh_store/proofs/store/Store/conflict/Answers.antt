use Rattle.std.proofs.Common.{subst, List}
use Rattle.std.specs.Prelude.{MatchOption}
use Rattle.mesh_lattice.specs.Counted.{Counted}
use Rattle.mesh_lattice.proofs.Options.{match_none}
use Rattle.mesh_store.specs.Cells.{listed_at, MeetsLive}
use Rattle.mesh_store.specs.Steps.{IsClearOf}
use Rattle.mesh_store.proofs.Listing.{clear_of_parts}
use Rattle.mesh_store.proofs.store.Store.conflict.Goals as goal

pub returns : goal.returns
returns c =
    subst (λ (ks : List Counted). MatchOption c.find.result (IsClearOf c.args.s ks) (λ m. MeetsLive c.args.s ks m)) c.self.view_is
    (match_none c.find.result (λ m. MeetsLive c.args.s c.self.inside.live m)
    (λ parts. clear_of_parts c.args.s (listed_at c.self.inside.plane) c.self.inside.live parts c.self.invariant) c.find.ensures)
