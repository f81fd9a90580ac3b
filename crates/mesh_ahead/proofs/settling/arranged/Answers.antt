use Rattle.std.proofs.Common.{ℕ}
use Rattle.std.proofs.lemmas.List.Sorted.{IsPermutation-map}
use Rattle.mesh_plane.specs.Plane.{Edge}
use Rattle.mesh_ahead.proofs.settling.arranged.Goals as goal

pub returns : goal.returns
returns c =
    let ordered =
    IsPermutation-map (λ (k : ℕ × Edge). k.1) c.in_ok-placed.placed.items c.sort_unstable_by_key.new.self.items c.sort_unstable_by_key.ensures.permutation in
    rw (c.in_ok-without_places.ensures, c.deref.ensures.value) (rw c.in_ok-placed.ensures at ordered)
