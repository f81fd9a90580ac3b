use Rattle.std.proofs.Common.{ℕ, ◌<◌}
use Rattle.std.specs.Prelude.{MatchOption}
use Rattle.mesh_shapes.specs.Private.Unused.{IsNext}
use Rattle.mesh_shapes.proofs.trace.next_edge.Given as goal

abbrev pub invariant-loop-k : goal.invariant-loop-k
invariant-loop-k l =
    MatchOption l.best ((j : ℕ) → j < l.k → IsNext l.edges l.used l.first l.at j → ⊥) (IsNext l.edges l.used l.first l.at)
