-- Bevels: an outer corner is cut off by the straight edge between the points that its sections are moved to.
use Rattle.std.specs.Prelude.{List, [], ℤ, pos, unsigned_abs}
use Rattle.mesh_plane.specs.Plane.{Point}
use Rattle.mesh_join.specs.Joints.{Joint}

-- a bevel has no points of its own
abbrev pub bevel_points : Joint → List Point
bevel_points j = []

-- how far a bevel reaches from its corner in each coordinate: the size of the radius
abbrev pub bevel_padding : ℤ → ℤ
bevel_padding radius = pos (unsigned_abs radius)
