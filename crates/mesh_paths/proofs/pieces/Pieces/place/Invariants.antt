use Rattle.std.proofs.Common.{◌≡◌, ℕ, length}
use Rattle.mesh_points.specs.Edges.{edge_at}
use Rattle.mesh_points.specs.Chains.{IsSearched}
use Rattle.mesh_points.specs.Merged.{start_in}
use Rattle.mesh_paths.proofs.pieces.Pieces.place.Given as goal

abbrev pub invariant-loop-left : goal.invariant-loop-left
invariant-loop-left l =
    IsSearched (λ (k : ℕ). (edge_at l.self.list.items k).to ≡ l.to) (length l.self.list.items) (start_in l.self.list.items) l.from l.left

abbrev pub decreases-loop-left : goal.decreases-loop-left
decreases-loop-left l = l.left
