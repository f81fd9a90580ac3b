use Rattle.std.proofs.Common.{◌≡◌, ℕ, length}
use Rattle.std.specs.Prelude.{slice_index_or}
use Rattle.mesh_points.specs.Chains.{IsSearched}
use Rattle.mesh_points.specs.Private.Filed.{list_in, no_entry}
use Rattle.mesh_points.proofs.points.Points.number.Given as goal

abbrev pub invariant-loop-left : goal.invariant-loop-left
invariant-loop-left l =
    IsSearched (λ (k : ℕ). (slice_index_or l.self-inside.entries.items k no_entry).at ≡ l.p) (length l.self-inside.entries.items)
    (list_in l.self-inside.entries.items (length l.self-inside.last.items)) l.list l.left

abbrev pub decreases-loop-left : goal.decreases-loop-left
decreases-loop-left l = l.left
