-- Closed contours: the vertices that are answered, where a contour begins, its area and its side point.
use Rattle.std.specs.Prelude.{◌≡◌, ◌≤◌, Bool, true, false, cond, ◌&&◌, ◌||◌, List, [], ◌∷◌, reverse, ℤ, pos, count_by}
use Rattle.std.specs.List.{All}
use Rattle.mesh_plane.specs.Plane.{Point, Edge, plus, cross}
use Rattle.mesh_plane.specs.Order.{point_lt}
use Rattle.mesh_plane.specs.Turning.{turns_at, first_or}
use Rattle.mesh_plane.specs.Winding.{sum_of, total, boundary, same_point}

-- of the list, the points at which the way from `a` by all of them to `z` turns or turns back
abbrev pub turning_points : Point → List Point → Point → List Point
turning_points a [] z = []
turning_points a (x ∷ xs) z = cond (turns_at a x (first_or z xs)) (x ∷ turning_points x xs z) (turning_points x xs z)

-- the points of the list that are answered: all of them, or the turning points of the way
abbrev pub kept : Bool → Point → List Point → Point → List Point
kept all a xs z = cond all xs (turning_points a xs z)

-- the answered vertices of a closed contour that begins at `p`: all of them, or `p` and the turning points
abbrev pub vertices : Bool → List Point → List Point
vertices all [] = []
vertices all (p ∷ xs) = p ∷ kept all p xs p

-- of the list, the points at which the way from `a` by all of them to `z` runs straight through
abbrev pub straight_points : Point → List Point → Point → List Point
straight_points a [] z = []
straight_points a (x ∷ xs) z = cond (turns_at a x (first_or z xs)) (straight_points x xs z) (x ∷ straight_points x xs z)

-- the points of the list that are left out: none, or those that the way runs straight through
abbrev pub omitted : Bool → Point → List Point → Point → List Point
omitted all a xs z = cond all [] (straight_points a xs z)

-- the points of a closed contour that its vertices leave out
abbrev pub left_out : Bool → List Point → List Point
left_out all [] = []
left_out all (p ∷ xs) = omitted all p xs p

-- at most one of the edges starts at the point
abbrev pub StartsOnce : List Edge → Point → Type 0
StartsOnce es p = count_by (λ (e : Edge). same_point p e.0) es ≤ 1

-- an edge that starts at a lesser point, or at the same point and ends at a lesser one
abbrev pub edge_lt : Edge → Edge → Bool
edge_lt e f = point_lt e.0 f.0 || (same_point e.0 f.0 && point_lt e.1 f.1)

-- no edge of the list is less than its first
abbrev pub FirstIsLeast : List Edge → Type 0
FirstIsLeast [] = Unit {0}
FirstIsLeast (e ∷ es) = All (λ (f : Edge). edge_lt f e ≡ false) es

-- there is a first point, and no point of the list is less than it
abbrev pub StartIsLeast : List Point → Type 0
StartIsLeast [] = ⊥
StartIsLeast (p ∷ xs) = All (λ (q : Point). point_lt q p ≡ false) xs

-- a contour has a point and begins at its least one, and of the visits of it at that with the least next vertex
pub record IsBegun (all : Bool) (contour : List Point) : Type 0 where
  pub at_least : StartIsLeast contour
  pub least_next : FirstIsLeast (boundary (vertices all contour))

-- twice the area that a closed list of points encloses, above 0 where it runs counterclockwise
abbrev pub double_area : List Point → ℤ
double_area ps = total cross (boundary ps)

-- the midpoint of a contour's first edge, on the grid 2
abbrev pub side_point : List Point → Point
side_point [] = (pos 0, pos 0)
side_point (p ∷ xs) = plus p (first_or p xs)

-- a closed list walked the other way from the same first point
abbrev pub reversed : List Point → List Point
reversed [] = []
reversed (p ∷ xs) = p ∷ reverse xs

-- a contour is that of a ring: with the same edges it begins at its start, and the ring has its vertices and its side
-- point
pub record IsRingOf (all : Bool) (given : List Point) (ring : List Point × Point) : Type 0 where
  pub contour : List Point
  pub same : (f : Edge → ℤ) → sum_of f (boundary contour) ≡ sum_of f (boundary given)
  pub begun : IsBegun all contour
  pub vertices_are : ring.0 ≡ vertices all contour
  pub side_is : ring.1 ≡ side_point contour

-- the same, and where `lone` is true, at most one of these edges starts at each point that the contour's vertices leave
-- out
pub record IsRingAmong (all : Bool) (edges : List Edge) (given : List Point) (ring : List Point × Point) (lone : Bool)
    : Type 0 where
  pub is_ring : IsRingOf all given ring
  pub starts_once : lone ≡ true → All (StartsOnce edges) (left_out all is_ring.contour)
