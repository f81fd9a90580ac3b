use Rattle.std.specs.Prelude.{ℤ}
use Rattle.mesh_plane.specs.Plane.{Edge}
use Rattle.mesh_plane.proofs.Sums.{sum_of_permutation}
use Rattle.mesh_shapes.proofs.Tracing.{sorted_starts}
use Rattle.mesh_shapes.proofs.trace.edges_by_start.Goals as goal

pub returns-clause-ordered : goal.returns-clause-ordered
returns-clause-ordered c = sorted_starts c.sort_unstable.new.self.items c.sort_unstable.ensures.sorted

pub returns-clause-same : goal.returns-clause-same
returns-clause-same c = λ (g : Edge → ℤ). sum_of_permutation g c.args.edges.items c.sort_unstable.new.self.items c.sort_unstable.ensures.permutation
