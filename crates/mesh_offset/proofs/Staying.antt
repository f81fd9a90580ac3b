-- Lemmas over points and lists: what is resolved stays in the safe range.
use Rattle.std.proofs.Common.{ℕ, List}
use Rattle.mesh_plane.specs.Plane.{Edge}
use Rattle.mesh_lattice.specs.Reach.{AreEdgesSafe}
use Rattle.mesh_below.proofs.AnswerPoints.{resolution_safe}
use Rattle.mesh_offset.specs.Staying.{IsSafeResolving}

-- each resolving of safe edges is safe
pub safe_resolving : (unit : ℕ) (edges : List Edge) → AreEdgesSafe unit edges → IsSafeResolving unit edges
safe_resolving unit edges safe = record {
  edges_safe = safe;
  resolving_safe = λ fill choices answer r. resolution_safe unit edges fill choices answer r safe;
}
