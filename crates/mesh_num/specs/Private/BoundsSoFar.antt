-- Bounds of the points so far, and one more point: only private contracts read this.
use Rattle.std.specs.Prelude.{Option, Some, None}
use Rattle.std.specs.Int.{int_min, int_max}
use Rattle.mesh_plane.specs.Plane.{Point, Edge}

-- the rectangle that reaches out to one more point
abbrev pub extended : Edge → Point → Edge
extended bounds p = ((int_min bounds.0.0 p.0, int_min bounds.0.1 p.1), (int_max bounds.1.0 p.0, int_max bounds.1.1 p.1))

-- the bounds so far with one more point
abbrev pub grown : Option Edge → Point → Edge
grown None p = (p, p)
grown (Some bounds) p = extended bounds p
