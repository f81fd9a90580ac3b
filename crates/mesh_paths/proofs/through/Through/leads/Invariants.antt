use Rattle.std.proofs.Common.{◌≡◌, ℕ, length}
use Rattle.mesh_points.specs.Chains.{IsSearched}
use Rattle.mesh_paths.specs.Filed.{id_in, pass_in}
use Rattle.mesh_paths.proofs.through.Through.leads.Given as goal

abbrev pub invariant-loop-left : goal.invariant-loop-left
invariant-loop-left l = IsSearched (λ (k : ℕ). (pass_in l.self.passes.items k).path ≡ l.path) (length l.self.passes.items) (id_in l.self.passes.items) l.id l.left

abbrev pub decreases-loop-left : goal.decreases-loop-left
decreases-loop-left l = l.left
