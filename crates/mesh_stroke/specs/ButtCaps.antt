-- Butt caps: the end is cut off by the straight edge through it.
use Rattle.std.specs.Prelude.{List, [], ℤ, pos, unsigned_abs}
use Rattle.mesh_plane.specs.Plane.{Point}
use Rattle.mesh_join.specs.Joints.{Joint}

-- a butt cap has no points of its own
abbrev pub butt_points : Joint → List Point
butt_points j = []

-- how far a butt cap reaches from its end in each coordinate: the size of the radius
abbrev pub butt_padding : ℤ → ℤ
butt_padding radius = pos (unsigned_abs radius)
