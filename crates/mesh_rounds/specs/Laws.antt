-- What legal splits keep. The function of the same name in the module `laws` carries it.
use Rattle.std.specs.Prelude.{ℕ, ◌≡◌, true, List}
use Rattle.mesh_plane.specs.Plane.{Edge}
use Rattle.mesh_plane.specs.Winding.{IsBalanced}
use Rattle.mesh_lattice.specs.Clean.{IsProper}
use Rattle.mesh_lattice.specs.Reach.{AreEdgesSafe}
use Rattle.mesh_lattice.specs.Split.{occurs, EdgeSplit, after, path, IsLegal}
use Rattle.mesh_lattice.specs.Splitting.{IsPathOf, ComesFrom}

-- each edge has become a path in its own box that never goes back in x nor in y, each split segment is part of such a
-- path of a given edge, and what holds of the given edges holds of the split segments: they differ in their ends, are
-- safe, are balanced
pub record KeepsEdges (given : List Edge) (splits : List EdgeSplit) : Type 0 where
  pub paths : (e : Edge) → IsPathOf e (path splits e)
  pub boxed : (segment : Edge) → occurs segment (after splits given) ≡ true → ComesFrom given splits segment
  pub proper : IsProper given → IsProper (after splits given)
  pub safe : (unit : ℕ) → AreEdgesSafe unit given → AreEdgesSafe unit (after splits given)
  pub balanced : IsBalanced given → IsBalanced (after splits given)

-- that holds of all legal splits, however far they go
abbrev pub LegalSplitsKeepEdges : Type 0
LegalSplitsKeepEdges = (given : List Edge) (splits : List EdgeSplit) → IsLegal given splits → KeepsEdges given splits
