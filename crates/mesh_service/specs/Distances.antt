-- Distances that are told of the shapes of a drawing, as their squares, in square grid units.
use Rattle.std.specs.Prelude.{ℕ, ◌≡◌, ◌^◌, Bool, true, false, List, Option, Some, None, map, IfSome}
use Rattle.std.specs.List.{All, flat_map}
use Rattle.mesh_plane.specs.Plane.{Point, Edge}
use Rattle.mesh_plane.specs.Winding.{boundary}
use Rattle.mesh_num.specs.Paths.{contours_of}
use Rattle.mesh_clearance.specs.Clearance.{AreAllApart, IsClearance, WindAsAtVertices, sections}
use Rattle.mesh_variable_stroke.specs.Drawn.{vertex_points}
use Rattle.mesh_inner.specs.Inner.{HoldsWithin}
use Rattle.mesh_inner.specs.Told.{IsInnerReach}
use Rattle.mesh_drawing.specs.Drawn.{Drawn, as_outline, as_stroke, as_variable_stroke}
use Rattle.mesh_service.specs.declared.distances.Distances.{Distances}

-- what shapes are drawn of: the contours of an outline, the paths of a stroke, or those through the points of the
-- vertices of a stroke of variable width
abbrev pub paths_in : Drawn → List (List Point)
paths_in (as_outline style paths) = paths
paths_in (as_stroke style closed paths) = paths
paths_in (as_variable_stroke options paths) = map vertex_points paths

-- whether each of these paths goes on from its last point to its first
abbrev pub are_closed : Drawn → Bool
are_closed (as_outline style paths) = true
are_closed (as_stroke style closed paths) = closed
are_closed (as_variable_stroke options paths) = false

-- the edges of shapes
abbrev pub edges_in : List (List (List Point)) → List Edge
edges_in shapes = flat_map boundary (contours_of shapes)

-- what is told of how near the edges of shapes come to paths: the square of their least distance, rounded down, and the
-- shapes wind round each point nearer to a path as round each vertex of the path; or that they come no nearer than 64
-- bits can tell, as where there is no edge or no section
abbrev pub IsToldClearance : Bool → List (List (List Point)) → List (List Point) → Option ℕ → Type 0
IsToldClearance closed shapes paths None = AreAllApart (2 ^ 64) (edges_in shapes) (flat_map (sections closed) paths)
IsToldClearance closed shapes paths (Some t) =
    IsClearance (edges_in shapes) (flat_map (sections closed) paths) t
    × All (WindAsAtVertices t closed (edges_in shapes)) paths

-- what is told of how near to its paths a stroke holds each point for certain; of other drawings nothing is
abbrev pub IsToldReach : ℕ → Drawn → Option ℕ → Type 0
IsToldReach unit (as_outline style paths) told = told ≡ None
IsToldReach unit (as_stroke style closed paths) told =
    IsInnerReach unit style closed paths told × IfSome told (λ s. All (HoldsWithin unit style closed s) paths)
IsToldReach unit (as_variable_stroke options paths) told = told ≡ None

-- these are the distances of the shapes of a drawing
pub record AreDistances (unit : ℕ) (drawn : Drawn) (shapes : List (List (List Point))) (told : Distances) : Type 0 where
  pub clearance : IsToldClearance (are_closed drawn) shapes (paths_in drawn) told.clearance
  pub reach : IsToldReach unit drawn told.reach

-- the distances of the shapes of a drawing are told just where they are asked for
abbrev pub AreAskedDistances : Bool → ℕ → Drawn → List (List (List Point)) → Option Distances → Type 0
AreAskedDistances asked unit drawn shapes None = asked ≡ false
AreAskedDistances asked unit drawn shapes (Some told) = (asked ≡ true) × AreDistances unit drawn shapes told
