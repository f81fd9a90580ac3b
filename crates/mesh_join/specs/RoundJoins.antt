-- Round joins: an outer corner runs along an arc round it. Points of the arc that rounding puts behind are left out.
use Rattle.std.specs.Prelude.{ℕ, ◌&&◌, List, [], ◌∷◌, map, ℤ, pos, unsigned_abs, if◌then◌else◌}
use Rattle.mesh_plane.specs.Plane.{Point, plus, minus}
use Rattle.mesh_num.specs.Directed.{direction_of}
use Rattle.mesh_num.specs.Direction.{scaled_direction}
use Rattle.mesh_arc.specs.Arcs.{arc, clamped}
use Rattle.mesh_arc.specs.declared.arc.ArcOptions.{ArcOptions}
use Rattle.mesh_join.specs.Joints.{Joint, runs_ahead}

-- what a round join is asked for; it has no use for the turn below which a miter is a bevel
pub record RoundStyle : Type 0 where
  pub options : ArcOptions
  pub min_turn : ℕ

-- the directions of the arc from the first point round the corner to the last
unfoldable pub joint_arc : ArcOptions → ℕ → Joint → List Point
joint_arc options unit j =
    arc unit (clamped options) j.sense (direction_of unit (minus j.first j.center))
    (direction_of unit (minus j.last j.center))

-- the point round the corner in a direction
abbrev pub arc_point : ℕ → Joint → Point → Point
arc_point unit j d = plus j.center (scaled_direction unit j.radius d)

-- the points that are used after `p`: each that is ahead of the one used before it, and behind which the last point
-- lies ahead
unfoldable pub used : Joint → Point → List Point → List Point
used j p [] = []
used j p (q ∷ points) = if runs_ahead j (p, q) && runs_ahead j (q, j.last) then q ∷ used j q points else used j p points

-- the points round the corner in these directions that are used
abbrev pub used_points : ℕ → Joint → List Point → List Point
used_points unit j ds = used j j.first (map (arc_point unit j) ds)

-- the points of a round join
unfoldable pub round_points : ArcOptions → ℕ → Joint → List Point
round_points options unit j = used_points unit j (joint_arc options unit j)

-- how far a round join reaches from its corner in each coordinate: the size of the radius
abbrev pub round_padding : ℤ → ℤ
round_padding radius = pos (unsigned_abs radius)
