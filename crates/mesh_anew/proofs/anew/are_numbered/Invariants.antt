use Rattle.std.proofs.Common.{ℕ, ◌<◌}
use Rattle.mesh_points.specs.Edges.{edge_at, IsNumbered}
use Rattle.mesh_anew.proofs.anew.are_numbered.Given as goal

abbrev pub invariant-loop-k : goal.invariant-loop-k
invariant-loop-k l = (j : ℕ) → j < l.k → IsNumbered l.points (edge_at l.edges j)
