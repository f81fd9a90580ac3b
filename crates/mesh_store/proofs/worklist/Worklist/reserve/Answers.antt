use Rattle.std.proofs.Common.{subst, List}
use Rattle.std.proofs.lemmas.Map.Views.{All-map-IsPermutation}
use Rattle.mesh_lattice.specs.Counted.{Counted}
use Rattle.mesh_plane.proofs.Sums.{sum_of_permutation}
use Rattle.mesh_store.specs.Steps.{AreSame, IsForward}
use Rattle.mesh_store.proofs.worklist.Worklist.reserve.Goals as goal

pub invariant_of-self-2 : goal.invariant_of-self-2
invariant_of-self-2 c = All-map-IsPermutation (λ (e : Counted). e.0) IsForward c.self.inside.counts.entries c.reserve.new.self.entries c.reserve.ensures.entries.0 c.self.invariant

pub returns : goal.returns
returns c =
    let left = c.reserve.new.self.entries in
    subst (λ (ks : List Counted). AreSame ks left) c.self.view_is (λ g. sum_of_permutation g c.self.inside.counts.entries left c.reserve.ensures.entries.0)
