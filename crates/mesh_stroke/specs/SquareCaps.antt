-- Square caps: the edge through the end is moved outwards by the radius.
use Rattle.std.specs.Prelude.{ℕ, ◌*◌, List, [], ◌∷◌, ℤ, pos, unsigned_abs}
use Rattle.mesh_plane.specs.Plane.{Point, plus}
use Rattle.mesh_num.specs.Direction.{scaled_direction}
use Rattle.mesh_join.specs.Joints.{Joint}

-- both points beside the end, moved outwards
abbrev pub square_points : ℕ → Joint → List Point
square_points unit j =
    plus j.first (scaled_direction unit j.radius j.incoming)
    ∷ plus j.last (scaled_direction unit j.radius j.incoming) ∷ []

-- how far a square cap reaches from its end in each coordinate: twice the size of the radius
abbrev pub square_padding : ℤ → ℤ
square_padding radius = pos (2 * unsigned_abs radius)
