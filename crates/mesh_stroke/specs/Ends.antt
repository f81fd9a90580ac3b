-- The ends of an open path, round which caps are drawn.
use Rattle.std.specs.Prelude.{ℕ, ◌≡◌, ℤ}
use Rattle.mesh_plane.specs.Plane.{Point, opposite}
use Rattle.mesh_num.specs.Direction.{IsFresh}
use Rattle.mesh_join.specs.Joints.{Joint, joint, contact}
use Rattle.mesh_arc.specs.declared.arc.ArcDirection.TheVariants.{Clockwise, Counterclockwise}

-- the half turn to the left round the end of a path that looks along `n`: from the point to its right to the point to
-- its left
abbrev pub half_turn : ℕ → ℤ → Point → Point → Joint
half_turn unit radius center n =
    joint center
    (contact unit radius Counterclockwise center n) (contact unit radius Clockwise center n)
    n (opposite n) radius Counterclockwise

-- a joint is the half turn round an end that looks along a fresh direction
pub record IsEnd (unit : ℕ) (j : Joint) : Type 0 where
  pub made : j ≡ half_turn unit j.radius j.center j.incoming
  pub fresh : IsFresh unit j.incoming
