use Rattle.std.proofs.Common.{◌≡◌, ℕ, ◌<◌, true}
use Rattle.std.specs.Prelude.{pos, int_lt, slice_index_or}
use Rattle.mesh_shapes.proofs.arrange.are_positive.Given as goal

abbrev pub invariant-loop-i : goal.invariant-loop-i
invariant-loop-i l = (j : ℕ) → j < l.i → int_lt (pos 0) (slice_index_or l.areas j (pos 0)) ≡ true
