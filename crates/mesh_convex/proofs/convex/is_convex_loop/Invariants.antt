use Rattle.std.proofs.Common.{◌≡◌, ℕ, suc, ◌<◌}
use Rattle.mesh_convex.specs.Convex.{edge_at, start_at, TurnLeft}
use Rattle.mesh_convex.proofs.convex.is_convex_loop.Given as goal

-- each edge up to this place leads to the start of the next one, and the points up to it turn to the left
abbrev pub invariant-loop-k : goal.invariant-loop-k
invariant-loop-k l =
    (0 < l.k) × (((j : ℕ) → j < l.k → (edge_at l.edges j).1 ≡ start_at l.edges (suc j)) × TurnLeft (start_at l.edges) (suc l.k))
