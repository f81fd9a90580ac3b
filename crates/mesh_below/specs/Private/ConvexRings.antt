-- Edges that run once round a convex polygon, none of which was split.
use Rattle.std.specs.Prelude.{◌≡◌, true, Bool, List, ℤ, pos}
use Rattle.mesh_plane.specs.Plane.{Edge}
use Rattle.mesh_lattice.specs.Counted.{Counted}
use Rattle.mesh_convex.specs.Convex.{once_each, IsConvexLoop}

-- edges run once round a convex polygon, the segments are just these edges, and what they wind round once is filled
pub record IsConvexRing (es : List Edge) (ks : List Counted) (fill : ℤ → Bool) : Type 0 where
  pub loop : IsConvexLoop es
  pub once : ks ≡ once_each es
  pub fills : fill (pos 1) ≡ true
