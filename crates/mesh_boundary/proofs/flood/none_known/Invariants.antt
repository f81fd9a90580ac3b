use Rattle.std.proofs.Common.{◌≡◌, ℕ, None, get_or}
use Rattle.mesh_boundary.proofs.flood.none_known.Given as goal

abbrev pub invariant-loop-made : goal.invariant-loop-made
invariant-loop-made l = (k : ℕ) → get_or l.known.items k None ≡ None
