-- The order of points: by x, then by y.
use Rattle.std.specs.Prelude.{Bool, ◌&&◌, ◌||◌, int_lt}
use Rattle.std.specs.Ordering.{int_eq}
use Rattle.mesh_plane.specs.Plane.{Point}

-- a point before another: by x, then by y
abbrev pub point_lt : Point → Point → Bool
point_lt p q = int_lt p.0 q.0 || (int_eq p.0 q.0 && int_lt p.1 q.1)
