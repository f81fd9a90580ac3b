use Rattle.std.proofs.Common.{◌≡◌, ℕ, ◌<◌, length, get_or}
use Rattle.mesh_in_line.specs.Private.Lines.{no_edge, span_at, IsPlaced}
use Rattle.mesh_in_line.proofs.spans.spans.Given as goal

abbrev pub invariant-loop-e : goal.invariant-loop-e
invariant-loop-e l =
    (length l.spans.items ≡ l.e-index) × ((k : ℕ) → k < l.e-index → IsPlaced l.level l.places (get_or l.edges k no_edge) (span_at l.spans.items k))
