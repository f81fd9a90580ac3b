-- Custom caps: points given for an end at (0, 0) that looks along the axis x are turned to the direction in which the
-- end looks.
use Rattle.std.specs.Prelude.{ℕ, zero, max, map, List, [], ◌∷◌, ℤ, pos}
use Rattle.mesh_plane.specs.Plane.{Point, plus, length_sq}
use Rattle.mesh_num.specs.Rotation.{turned_along}
use Rattle.mesh_num.specs.Roots.{raised_root}
use Rattle.mesh_join.specs.Joints.{Joint}

-- a point turned to where an end looks, and moved to it
abbrev pub custom_point : ℕ → Joint → Point → Point
custom_point unit j p = plus j.center (turned_along unit j.incoming p)

-- the points of a custom cap
abbrev pub custom_points : List Point → ℕ → Joint → List Point
custom_points points unit j = map (custom_point unit j) points

-- the greatest length of a point, raised to a whole number; 0 where there is none
unfoldable pub greatest_length : List Point → ℕ
greatest_length [] = zero
greatest_length (p ∷ points) = max (raised_root (length_sq p)) (greatest_length points)

-- how far a custom cap reaches from its end in each coordinate, whatever the radius is: the greatest length of a point
abbrev pub custom_padding : List Point → ℤ
custom_padding points = pos (greatest_length points)
