-- What the theory of outlines needs of joins. Each kind of join has it; no more is known of a kind above here.
use Rattle.std.specs.Prelude.{ℕ, ◌≡◌, ◌≤◌, IsTrue, length, ℤ, pos, ◌≤ℤ◌, unsigned_abs}
use Rattle.std.specs.List.{All}
use Rattle.mesh_num.specs.Direction.{IsShort}
use Rattle.mesh_join.specs.Joins.{join_points, join_edges, join_padding, has_few, between}
use Rattle.mesh_join.specs.Joints.{Joint, IsTurn, NeverTurnsBack, IsWithinPadding}
use Rattle.mesh_join.specs.Styles.{JoinStyle}

-- what holds of the join at a joint
pub record KeepsJoint (unit : ℕ) (style : JoinStyle) (j : Joint) : Type 0 where
  -- it never turns back round the corner
  pub never_turns_back : NeverTurnsBack j.sense j.center (join_edges unit style j)
  -- its points are within the padding
  pub near : All (IsWithinPadding (join_padding style.kind j.radius) j.center) (between j.first (join_points unit style j) j.last)
  -- it has at most three edges, where its kind has few
  pub few : IsTrue (has_few style.kind) → length (join_edges unit style j) ≤ 3

-- what holds of the joins of a style
pub record KeepsJoints (unit : ℕ) (style : JoinStyle) : Type 0 where
  -- the padding covers the radius, and is that of the radius' size
  pub covers : (radius : ℤ) → pos (unsigned_abs radius) ≤ℤ join_padding style.kind radius
  pub sized : (radius : ℤ) → join_padding style.kind (pos (unsigned_abs radius)) ≡ join_padding style.kind radius
  -- each turn between two directions is joined
  pub joint : (j : Joint) → IsShort unit j.incoming → IsShort unit j.outgoing → IsTurn unit j → KeepsJoint unit style j
