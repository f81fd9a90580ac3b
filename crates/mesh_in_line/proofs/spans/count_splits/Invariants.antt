use Rattle.std.proofs.Common.{◌≡◌, ℕ, length}
use Rattle.mesh_plane.specs.Plane.{Point}
use Rattle.mesh_in_line.specs.Private.Lines.{cuts_to}
use Rattle.mesh_in_line.proofs.spans.count_splits.Given as goal

abbrev pub invariant-loop-place : goal.invariant-loop-place
invariant-loop-place l = (a : ℕ → Point) → length (cuts_to a l.firsts l.place) ≡ l.splits
