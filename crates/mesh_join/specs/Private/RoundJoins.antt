-- What the steps of a round join know: only private contracts read this.
use Rattle.std.specs.Prelude.{ℕ, List, map}
use Rattle.mesh_plane.specs.Plane.{Point, Edge}
use Rattle.mesh_plane.specs.Winding.{route}
use Rattle.mesh_arc.specs.declared.arc.ArcOptions.{ArcOptions}
use Rattle.mesh_join.specs.Joints.{Joint}
use Rattle.mesh_join.specs.RoundJoins.{arc_point, used, round_points}

-- the edges of a round join at a joint whose points differ
abbrev pub round_edges : ArcOptions → ℕ → Joint → List Edge
round_edges options unit j = route j.first (round_points options unit j) j.last

-- the points that these directions give past `last`: those of them that are used
abbrev pub used_past : ℕ → Joint → Point → List Point → List Point
used_past unit j last directions = used j last (map (arc_point unit j) directions)
