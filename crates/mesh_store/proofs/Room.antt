-- Lemmas over lists: the counts of live segments add up to no more than their weights.
use Rattle.std.proofs.Common.{ℕ, ◌≤◌, max, ◌*◌, arith, List, [], ◌∷◌, ◌^◌}
use Rattle.std.specs.Prelude.{pos, ◌≤ℤ◌, unsigned_abs}
use Rattle.std.proofs.lemmas.Int.{ints}
use Rattle.mesh_lattice.specs.Counted.{Counted}
use Rattle.std.proofs.Math.Nat.{mul-le-mul_left}
use Rattle.mesh_lattice.specs.Counted.{size}
use Rattle.mesh_store.specs.Steps.{weight, extent, total_weight}
use Rattle.mesh_plane.specs.Winding.{sum_of}
use Rattle.mesh_plane.proofs.Sums.{sum_least}
use Rattle.mesh_lattice.specs.Counted.{IsRoomy}

-- the counts of live segments add up to no more than their weights
pub size_weight : (k : Counted) → size k ≤ℤ weight k
size_weight k = at_least (unsigned_abs k.1) (max 1 (extent k.0)) (omega arith)
  where
    at_least : (n m : ℕ) → 1 ≤ m → pos n ≤ℤ pos (n * m)
    at_least n m h = omega (arith, ints, mul-le-mul_left n h)

pub sizes_weights : (ks : List Counted) → sum_of size ks ≤ℤ sum_of weight ks
sizes_weights [] = omega (arith, ints)
sizes_weights (k ∷ ks) = omega (arith, ints, size_weight k, sizes_weights ks)

pub weights_least : (ks : List Counted) → pos 0 ≤ℤ sum_of weight ks
weights_least = sum_least weight (λ k. omega (arith, ints))

pub live_room : (todo live : List Counted) → total_weight todo live ≤ℤ pos (2 ^ 97) → IsRoomy (sum_of size live)
live_room todo live h = omega (arith, ints, sizes_weights live, weights_least todo)
