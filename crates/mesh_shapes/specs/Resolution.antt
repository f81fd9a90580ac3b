-- What the overlay answers: a resolution of directed edges by a fill rule and options.
use Rattle.std.specs.Prelude.{ℕ, ◌≡◌, ◌*◌, Bool, true, false, cond, not, ◌&&◌, ◌||◌, List, [], ◌∷◌, map, ℤ, pos, int_lt}
use Rattle.std.specs.Prelude.{nat_le, unsigned_abs}
use Rattle.std.specs.Ordering.{int_eq}
use Rattle.std.specs.List.{All, filter, list_any, flat_map, enumerate_from}
use Rattle.std.specs.List.Sorted.{IsSortedBy, IsPermutation}
use Rattle.mesh_plane.specs.Plane.{Point, Edge}
use Rattle.mesh_plane.specs.Order.{point_lt}
use Rattle.mesh_plane.specs.Winding.{boundary, same_point, holds}
use Rattle.mesh_lattice.specs.Clean.{IsClean}
use Rattle.mesh_lattice.specs.Split.{EdgeSplit, after, IsLegal}
use Rattle.mesh_lattice.specs.Boundary.{IsBoundary}
use Rattle.mesh_shapes.specs.Contours.{vertices, IsBegun, double_area, side_point, reversed}

-- the options of an answer: the least area, whether straight-through vertices stay, whether contours run clockwise
pub record Choices : Type 0 where
  pub least_area : ℕ
  pub all_vertices : Bool
  pub clockwise : Bool

-- a contour of the answer: its vertices, and its side point on the grid 2
abbrev pub Ring : Type 0
Ring = List Point × Point

-- the ring of a contour that begins at its start
abbrev pub ring_of : Bool → List Point → Ring
ring_of all contour = (vertices all contour, side_point contour)

-- a ring stays where its double area is in size at least twice the least area
abbrev pub is_large : ℕ → Ring → Bool
is_large least r = nat_le (2 * least) (unsigned_abs (double_area r.0))

-- the order of lists of points, the first difference decides
abbrev pub points_lt : List Point → List Point → Bool
points_lt ps [] = false
points_lt [] (q ∷ qs) = true
points_lt (p ∷ ps) (q ∷ qs) = point_lt p q || (same_point p q && points_lt ps qs)

-- a ring with its place in the order
abbrev pub Placed : Type 0
Placed = ℕ × Ring

-- a ring of positive area: one that runs counterclockwise
abbrev pub is_positive : Placed → Bool
is_positive h = int_lt (pos 0) (double_area h.1.0)

-- a ring of positive area that holds the other ring's side point
abbrev pub encloses : Placed → Placed → Bool
encloses h r = is_positive h && holds 2 r.1.1 h.1.0

-- of less area, or of the same and earlier in the order
abbrev pub is_before : Placed → Placed → Bool
is_before h k =
    int_lt (double_area h.1.0) (double_area k.1.0)
    || (int_eq (double_area h.1.0) (double_area k.1.0) && int_lt (pos h.0) (pos k.0))

-- rings of positive area head shapes, and those that no ring of positive area encloses
abbrev pub is_head : List Placed → Placed → Bool
is_head rings r = is_positive r || not (list_any (λ (h : Placed). encloses h r) rings)

-- a ring stands with the first of least area among those that enclose it
abbrev pub stands_with : List Placed → Placed → Placed → Bool
stands_with rings h r = encloses h r && not (list_any (λ (k : Placed). encloses k r && is_before k h) rings)

-- the rings of the shape that `h` heads: `h`, then those that head no shape and stand with it
abbrev pub shape_of : List Placed → Placed → List Ring
shape_of rings h =
    h.1 ∷ map (λ (r : Placed). r.1) (filter (λ (r : Placed). not (is_head rings r) && stands_with rings h r) rings)

-- the shapes of rings that stand in order
abbrev pub rings_by_shape : List Placed → List (List Ring)
rings_by_shape rings = map (shape_of rings) (filter (is_head rings) rings)

-- the contour that is answered for a ring
abbrev pub answered : Bool → Ring → List Point
answered clockwise r = cond clockwise (reversed r.0) r.0

-- an answer arises from rings: they are brought into order, and answered shape by shape
pub record AreArranged (clockwise : Bool) (rings : List Ring) (answer : List (List (List Point))) : Type 0 where
  pub sorted : List Ring
  pub same : IsPermutation rings sorted
  pub ordered : IsSortedBy (λ (r s : Ring). points_lt r.0 s.0) sorted
  pub shapes : answer ≡ map (map (answered clockwise)) (rings_by_shape (enumerate_from 0 sorted))

-- an answer is a resolution of edges by a fill and options; no order of splitting, no structure of the program and no
-- choice of a trace is named
pub record IsResolution (edges : List Edge) (fill : ℤ → Bool) (options : Choices) (answer : List (List (List Point)))
    : Type 0 where
  -- the edges are split by a list of legal splits, until any two segments have the same ends or share only common ends
  pub splits : List EdgeSplit
  pub legal : IsLegal edges splits
  pub clean : IsClean (after splits edges)
  -- the edges of closed contours are together the boundary: each segment once whose two sides differ in fill
  pub contours : List (List Point)
  pub bounded : IsBoundary (after splits edges) fill (flat_map boundary contours)
  -- each contour begins at its least point, at the visit with the least next vertex
  pub begun : All (IsBegun options.all_vertices) contours
  -- the answer arises from the rings of the contours, the small ones left out
  pub arranged : AreArranged options.clockwise
      (filter (is_large options.least_area) (map (ring_of options.all_vertices) contours)) answer
