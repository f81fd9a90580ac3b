-- Circles, and arcs counterclockwise round a vertex, with the pieces that lie between them and it.
use Rattle.std.specs.Prelude.{ℕ, ◌≡◌, Bool, true, false, ◌&&◌, ◌||◌, not, if◌then◌else◌, List, [], ◌∷◌, ◌++◌, map}
use Rattle.std.specs.Prelude.{ℤ, pos, ◌+ℤ◌, ◌-ℤ◌, ◌≤ℤ◌, int_lt, int_le}
use Rattle.std.specs.Ordering.{int_eq}
use Rattle.mesh_plane.specs.Bounds.{IsSafe}
use Rattle.mesh_plane.specs.Plane.{Point, Edge, plus, minus, cross, dot, turn, length_sq}
use Rattle.mesh_plane.specs.Winding.{route, fan, same_point, total, pieces_total, IsOdd}
use Rattle.mesh_sine.specs.Sine.{root}
use Rattle.mesh_num.specs.Directed.{direction_of}
use Rattle.mesh_num.specs.Direction.{scaled_direction}
use Rattle.mesh_num.specs.Rectangle.{IsSafeWidened}
use Rattle.mesh_arc.specs.Arcs.{arc, clamped}
use Rattle.mesh_arc.specs.declared.arc.ArcDirection.TheVariants.{Counterclockwise}
use Rattle.mesh_arc.specs.declared.arc.ArcOptions.{ArcOptions}
use Rattle.mesh_join.specs.Joints.{IsWithinPadding}
use Rattle.mesh_circle.specs.declared.sweep.Sweep.{Sweep}
use Rattle.mesh_circle.specs.declared.sweep.Sweep.TheVariants.{Minor, Major}

-- the distance of two points, cut to a whole number
unfoldable pub distance : Point → Point → ℕ
distance p q = root (length_sq (minus q p))

-- the direction from `c` to another point
abbrev pub bearing : ℕ → Point → Point → Point
bearing unit c p = direction_of unit (minus p c)

-- ---- polylines

-- the point away from `c` by the radius in the direction `d`
abbrev pub point_round : ℕ → Point → ℤ → Point → Point
point_round unit c radius d = plus c (scaled_direction unit radius d)

-- the points counterclockwise round `c`, in the directions of the arc between that of `x` and that of `y`
unfoldable pub polyline_points : ℕ → ArcOptions → Point → Point → Point → ℤ → List Point
polyline_points unit options c x y radius =
    map (point_round unit c radius) (arc unit (clamped options) Counterclockwise (bearing unit c x) (bearing unit c y))

-- the edges from `x` through these points to `y`
abbrev pub polyline_edges : ℕ → ArcOptions → Point → Point → Point → ℤ → List Edge
polyline_edges unit options c x y radius = route x (polyline_points unit options c x y radius) y

-- ---- circles

-- the points of a circle to the east and to the west of its center
abbrev pub east_of : Point → ℤ → Point
east_of c radius = (c.0 +ℤ radius, c.1)

abbrev pub west_of : Point → ℤ → Point
west_of c radius = (c.0 -ℤ radius, c.1)

-- both halves of a circle
abbrev pub half_circles : ℕ → ArcOptions → Point → ℤ → List Edge
half_circles unit options c radius =
    polyline_edges unit options c (east_of c radius) (west_of c radius) radius
    ++ polyline_edges unit options c (west_of c radius) (east_of c radius) radius

-- the edges of a circle: none for a radius of at most 1
unfoldable pub circle_edges : ℕ → ArcOptions → Point → ℤ → List Edge
circle_edges unit options c radius = if int_le radius (pos 1) then [] else half_circles unit options c radius

-- the pieces of a circle
abbrev pub circle_pieces : ℕ → ArcOptions → Point → ℤ → List (List Point)
circle_pieces unit options c radius = fan c (circle_edges unit options c radius)

-- ---- arcs

-- how far the arc counterclockwise round `c` from `x` to `y` runs; `aligned` is for points on one ray from `c`
abbrev pub sweep_of : Point → Point → Point → Sweep → Sweep
sweep_of c x y aligned =
    if int_lt (pos 0) (turn c x y) then Minor
    else if int_lt (turn c x y) (pos 0) then Major
    else if int_lt (dot (minus x c) (minus y c)) (pos 0) then Minor
    else aligned

-- whether a sweep is more than half a turn
abbrev pub is_major : Sweep → Bool
is_major Minor = false
is_major Major = true

-- whether two directions are parallel and look the same way
abbrev pub is_one_way : Point → Point → Bool
is_one_way u w = int_eq (cross u w) (pos 0) && int_lt (pos 0) (dot u w)

-- whether an arc has no edges, since it is minor and ends where it begins
abbrev pub is_empty : Sweep → Point → Point → Bool
is_empty sweep x y = not (is_major sweep) && same_point x y

-- whether an arc is one edge, since it begins or ends in its center
abbrev pub is_central : Point → Point → Point → Bool
is_central c x y = same_point x c || same_point y c

-- whether an arc runs round a whole circle, since it is major and both of its ends have one direction
abbrev pub is_whole : ℕ → Sweep → Point → Point → Point → Bool
is_whole unit sweep c x y = is_major sweep && is_one_way (bearing unit c x) (bearing unit c y)

-- the edges of the arc counterclockwise round `c` from `x` to `y`
unfoldable pub arc_edges : ℕ → ArcOptions → Point → Point → Point → Sweep → List Edge
arc_edges unit options c x y aligned =
    if is_empty (sweep_of c x y aligned) x y then []
    else if is_central c x y then route x [] y
    else if is_whole unit (sweep_of c x y aligned) c x y
    then circle_edges unit options c (pos (distance c x)) ++ route x [] y
    else polyline_edges unit options c x y (pos (distance c x))

-- the pieces between an arc and the edge from `x` to `y`
unfoldable pub arc_pieces : ℕ → ArcOptions → Point → Point → Point → Sweep → List (List Point)
arc_pieces unit options c x y aligned =
    if is_empty (sweep_of c x y aligned) x y then []
    else if is_central c x y then []
    else if is_whole unit (sweep_of c x y aligned) c x y then circle_pieces unit options c (pos (distance c x))
    else (c ∷ y ∷ x ∷ []) ∷ fan c (polyline_edges unit options c x y (pos (distance c x)))

-- ---- what is asked and promised

-- the center stays safe where it moves by the distance of the first point, and both points are safe
pub record IsSwept (unit : ℕ) (c x y : Point) : Type 0 where
  pub center : IsSafeWidened unit (pos (distance c x)) c
  pub from : IsSafe unit x
  pub to : IsSafe unit y

-- both points are away from `c` by at most the reach in each coordinate; the cut distance of the first is at most it
pub record IsReached (reach : ℤ) (c x y : Point) : Type 0 where
  pub from : IsWithinPadding reach c x
  pub to : IsWithinPadding reach c y
  pub distance : pos (distance c x) ≤ℤ reach

-- under each function of edges that changes its sign with their direction, edges add up to their own ones and the
-- boundaries of their pieces
abbrev pub AddUpTo : List Edge → List (List Point) → List Edge → Type 0
AddUpTo own pieces es =
    (f : Point → Point → ℤ) → IsOdd f → total f es ≡ total f own +ℤ pieces_total f pieces

-- whether an arc is empty, or begins or ends in the center, so that it takes no memory but for its edge
abbrev pub is_direct : Point → Point → Point → Sweep → Bool
is_direct c x y aligned = is_empty (sweep_of c x y aligned) x y || is_central c x y
