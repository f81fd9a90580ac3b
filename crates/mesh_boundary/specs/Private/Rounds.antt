-- The segments at a point in their order round it.
use Rattle.std.specs.Prelude.{ℕ, Bool, List}
use Rattle.mesh_plane.specs.Plane.{Edge}
use Rattle.mesh_lattice.specs.Counted.{Counted}
use Rattle.mesh_regions.specs.Star.{AreNeighbours, IsToLeft}
use Rattle.mesh_boundary.specs.Private.Stars.{leaving}

-- of four edges that leave a point each has the next one on its left, and the last one the first
pub record AreTurning (a b c d : Edge) : Type 0 where
  pub first : IsToLeft a b
  pub second : IsToLeft b c
  pub third : IsToLeft c d
  pub fourth : IsToLeft d a

-- the segment that leaves at the second end is the next neighbour of the one at the first
abbrev pub AreNext : List Edge → List Counted → ℕ × Bool → ℕ × Bool → Type 0
AreNext es ks x y = AreNeighbours es (leaving ks x).0 (leaving ks y).0

-- two ends are all of a point
pub record AreTwoRound (es : List Edge) (ks : List Counted) (x y : ℕ × Bool) : Type 0 where
  pub on : AreNext es ks x y
  pub back : AreNext es ks y x

-- four ends are all of a point, in their order counterclockwise
pub record AreFourRound (es : List Edge) (ks : List Counted) (x y z w : ℕ × Bool) : Type 0 where
  pub first : AreNext es ks x y
  pub second : AreNext es ks y z
  pub third : AreNext es ks z w
  pub fourth : AreNext es ks w x
