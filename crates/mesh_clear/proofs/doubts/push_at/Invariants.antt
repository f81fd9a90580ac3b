use Rattle.std.proofs.Common.{ℕ, length}
use Rattle.mesh_points.specs.Chains.{IsSearched}
use Rattle.mesh_paths.specs.Filed.{id_in}
use Rattle.mesh_clear.proofs.doubts.push_at.Given as goal

abbrev pub invariant-loop-rest : goal.invariant-loop-rest
invariant-loop-rest l = IsSearched (λ (k : ℕ). ⊥) (length l.paths.through.passes.items) (id_in l.paths.through.passes.items) l.id l.rest

abbrev pub decreases-loop-rest : goal.decreases-loop-rest
decreases-loop-rest l = l.rest
