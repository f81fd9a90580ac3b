-- Adding leaves the join as it is.
use Rattle.std.proofs.Common.{◌≡◌}
use Rattle.mesh_bench.proofs.joins.add_again.Given as goal

abbrev pub invariant-loop : goal.invariant-loop
invariant-loop l = l.join ≡ l.fn.join
