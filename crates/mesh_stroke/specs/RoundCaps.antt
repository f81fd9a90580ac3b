-- Round caps: round joins of half a turn, from the point to the right of the end to the one to its left.
use Rattle.std.specs.Prelude.{ℕ, List, ℤ}
use Rattle.mesh_plane.specs.Plane.{Point}
use Rattle.mesh_arc.specs.declared.arc.ArcOptions.{ArcOptions}
use Rattle.mesh_join.specs.Joins.{between}
use Rattle.mesh_join.specs.Joints.{Joint}
use Rattle.mesh_join.specs.RoundJoins.{round_points, round_padding}

-- the points of a round cap: those of a round join of the half turn, none where both points beside the end are one
abbrev pub round_cap_points : ArcOptions → ℕ → Joint → List Point
round_cap_points options unit j = between j.first (round_points options unit j) j.last

-- how far a round cap reaches from its end in each coordinate: as far as a round join
abbrev pub round_cap_padding : ℤ → ℤ
round_cap_padding radius = round_padding radius
