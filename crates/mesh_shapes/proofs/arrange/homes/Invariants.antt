use Rattle.std.proofs.Common.{◌≡◌, ℕ, ◌<◌, length}
use Rattle.std.specs.Prelude.{slice_index_or}
use Rattle.mesh_shapes.specs.Vectors.{rings_of_vecs}
use Rattle.mesh_shapes.specs.Homes.{IsHome}
use Rattle.mesh_shapes.proofs.arrange.homes.Given as goal

abbrev pub invariant-loop-i : goal.invariant-loop-i
invariant-loop-i l = record {
  len : length l.homes.items ≡ l.i;
  homes : (j : ℕ) → j < l.i → IsHome (rings_of_vecs l.rings) j (slice_index_or l.homes.items j 0);
  within : (j : ℕ) → j < l.i → slice_index_or l.homes.items j 0 < length l.rings;
}
