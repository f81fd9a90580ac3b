use Rattle.std.proofs.Common.{◌≡◌, subst, sym, List}
use Rattle.std.specs.Prelude.{pos, ◌<ℤ◌}
use Rattle.mesh_lattice.specs.Counted.{Counted}
use Rattle.mesh_store.specs.Steps.{exactly}
use Rattle.mesh_store.proofs.Entries.{found_stands}
use Rattle.mesh_store.proofs.Tallies.{exactly_none}
use Rattle.mesh_store.proofs.worklist.Worklist.has.Goals as goal

pub returns-in-Some-clause-yes : goal.returns-in-Some-clause-yes
returns-in-Some-clause-yes c =
    λ _. subst (λ (ks : List Counted). pos 0 <ℤ exactly c.args.ends ks) c.self.view_is (found_stands c.args.ends _ c.self.inside.counts.entries (sym c.in-Some.ensures.value))

pub returns-in-None-clause-no : goal.returns-in-None-clause-no
returns-in-None-clause-no c =
    λ _. subst (λ (ks : List Counted). exactly c.args.ends ks ≡ pos 0) c.self.view_is (exactly_none c.args.ends c.self.inside.counts.entries (sym c.in-None.ensures.value))
