-- What is resolved stays in the safe range.
use Rattle.std.specs.Prelude.{ℕ, ℤ, Bool, List}
use Rattle.mesh_plane.specs.Plane.{Point, Edge}
use Rattle.mesh_lattice.specs.Reach.{AreEdgesSafe, ArePointsSafe}
use Rattle.mesh_shapes.specs.Resolution.{Choices, IsResolution}
use Rattle.mesh_lattice.specs.Split.{after}

-- edges are safe, and so is each resolving of them: its split segments, and each point of its answer
pub record IsSafeResolving (unit : ℕ) (edges : List Edge) : Type 0 where
  pub edges_safe : AreEdgesSafe unit edges
  pub resolving_safe : (fill : ℤ → Bool) (choices : Choices) (answer : List (List (List Point)))
      (r : IsResolution edges fill choices answer)
      → AreEdgesSafe unit (after r.splits edges) × ArePointsSafe unit answer
