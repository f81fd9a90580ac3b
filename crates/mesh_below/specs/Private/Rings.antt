-- The rings of contours so far.
use Rattle.std.specs.Prelude.{ℕ, ◌≡◌, Bool, true, List, [], ◌∷◌, ◌++◌, map, ℤ, Vec}
use Rattle.std.specs.List.{All, filter, flat_map}
use Rattle.std.specs.declared.alloc.Global.{Global}
use Rattle.mesh_plane.specs.Plane.{Point, Edge}
use Rattle.mesh_plane.specs.Winding.{sum_of, boundary}
use Rattle.mesh_shapes.specs.Contours.{IsBegun, left_out, vertices, StartsOnce}
use Rattle.mesh_shapes.specs.Resolution.{ring_of, is_large}
use Rattle.mesh_shapes.specs.Vectors.{HavePoints, RingVec, rings_of_vecs, contour_edges}

-- each point of the contour is one of its vertices
abbrev pub IsWhole : Bool → List Point → Type 0
IsWhole all contour = vertices all contour ≡ contour

-- what is told of contours: whether they are whole, and whether at each point that their vertices leave out one of the
-- edges at most starts
abbrev pub Told : Type 0
Told = Bool × Bool

-- rings made of contours: each contour was turned to its start, and the small rings were left out. What is told of the
-- contours is so
pub record AreRingsOf (all : Bool) (least : ℕ) (edges : List Edge) (given : List (Vec Point Global))
    (rings : List RingVec) (told : Told) : Type 0 where
  pub contours : List (List Point)
  pub same : (f : Edge → ℤ) → sum_of f (flat_map boundary contours) ≡ sum_of f (contour_edges given)
  pub begun : All (IsBegun all) contours
  pub rings_are : rings_of_vecs rings ≡ filter (is_large least) (map (ring_of all) contours)
  pub are_whole : told.0 ≡ true → All (IsWhole all) contours
  pub start_once : told.1 ≡ true → All (λ (c : List Point). All (StartsOnce edges) (left_out all c)) contours

-- the ring of one more contour was added, or left out where it is small. What is told of the contour is so
pub record PushesRing (all : Bool) (least : ℕ) (edges : List Edge) (given : List Point) (old new : List RingVec)
    (told : Told) : Type 0 where
  pub contour : List Point
  pub same : (f : Edge → ℤ) → sum_of f (boundary contour) ≡ sum_of f (boundary given)
  pub begun : IsBegun all contour
  pub rings_are : rings_of_vecs new ≡ rings_of_vecs old ++ filter (is_large least) (ring_of all contour ∷ [])
  pub is_whole : told.0 ≡ true → IsWhole all contour
  pub starts_once : told.1 ≡ true → All (StartsOnce edges) (left_out all contour)

-- contours with points were added whose edges are those of these closed lists, and those that were there had points
pub record PushesContours (old new : List (Vec Point Global)) (added : List (List Point)) : Type 0 where
  pub edges : contour_edges new ≡ contour_edges old ++ flat_map boundary added
  pub have_points : HavePoints old → HavePoints new
