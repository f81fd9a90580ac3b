-- Sections of a variable stroke: circles round two neighbouring vertices of a path and their common outer tangents.
use Rattle.std.specs.Prelude.{ℕ, ◌≢◌, ◌*◌, ◌≤◌, Bool, not, ◌&&◌, ◌||◌, cond, leb, int_le}
use Rattle.std.specs.Prelude.{int_lt, List, [], ◌∷◌, Option, Some, None, ℤ, pos, ◌-ℤ◌, ◌*ℤ◌, ◌≤ℤ◌, neg_ℤ}
use Rattle.std.specs.Prelude.{unsigned_abs}
use Rattle.std.specs.List.{list_all, All}
use Rattle.std.specs.Ordering.{int_eq}
use Rattle.mesh_plane.specs.Bounds.{IsSafe}
use Rattle.mesh_plane.specs.Plane.{Point, Edge, plus, minus, cross, turn, length_sq}
use Rattle.mesh_plane.specs.Winding.{boundary, same_point}
use Rattle.mesh_num.specs.Rectangle.{IsSafeWidened}
use Rattle.mesh_num.specs.Roots.{raised_root}
use Rattle.mesh_circle.specs.Tangents.{left_offset, right_offset, IsWithinRadius}

-- ---- circles

-- a vertex of a path with the radius that the stroke has there
pub record Circle : Type 0 where
  pub center : Point
  pub radius : ℤ

-- the radius is not negative, and the square round the circle lies in the safe range
pub record IsSafeCircle (unit : ℕ) (c : Circle) : Type 0 where
  pub nonneg : pos 0 ≤ℤ c.radius
  pub safe : IsSafeWidened unit c.radius c.center

-- by how much the radius of the first circle is greater
abbrev pub radius_difference : Circle → Circle → ℤ
radius_difference a b = a.radius -ℤ b.radius

-- one circle holds the other: the distance of their centers is at most the difference of their radii
abbrev pub is_nested : Circle → Circle → Bool
is_nested a b =
    leb (length_sq (minus b.center a.center))
    (unsigned_abs (radius_difference a b) * unsigned_abs (radius_difference a b))

-- ---- sections

-- two circles and the points at which their outer tangents touch them, on the left and on the right of the line from
-- the first center to the second
pub record Section : Type 0 where
  pub a : Circle
  pub b : Circle
  pub a_left : Point
  pub a_right : Point
  pub b_left : Point
  pub b_right : Point

-- the point of a circle at which a tangent of `a` and `b` touches it, on the left and on the right
unfoldable pub left_contact : ℕ → Circle → Circle → Circle → Point
left_contact unit a b c = plus c.center (left_offset unit (minus b.center a.center) (radius_difference a b) c.radius)

unfoldable pub right_contact : ℕ → Circle → Circle → Circle → Point
right_contact unit a b c = plus c.center (right_offset unit (minus b.center a.center) (radius_difference a b) c.radius)

abbrev pub with_contacts : ℕ → Circle → Circle → Section
with_contacts unit a b = record {
  a = a;
  b = b;
  a_left = left_contact unit a b a;
  a_right = right_contact unit a b a;
  b_left = left_contact unit a b b;
  b_right = right_contact unit a b b;
}

-- there is no section where the centers are one point, where both radii are at most 1, or where a circle holds the
-- other
abbrev pub has_no_section : Circle → Circle → Bool
has_no_section a b =
    same_point a.center b.center || ((int_le a.radius (pos 1) && int_le b.radius (pos 1)) || is_nested a b)

abbrev pub section_of : ℕ → Circle → Circle → Option Section
section_of unit a b = cond (has_no_section a b) None (Some (with_contacts unit a b))

-- the vector from the center of a circle to the point has a length that, cut to a whole number, is no more than the
-- radius, and no coordinate of it is more
abbrev pub IsContact : Circle → Point → Type 0
IsContact c p = IsWithinRadius c.radius (minus p c.center)

-- each point of a section lies by its circle
pub record HasContacts (s : Section) : Type 0 where
  pub a_left : IsContact s.a s.a_left
  pub a_right : IsContact s.a s.a_right
  pub b_left : IsContact s.b s.b_left
  pub b_right : IsContact s.b s.b_right

-- its four points are safe
pub record IsSafeSection (unit : ℕ) (s : Section) : Type 0 where
  pub a_left : IsSafe unit s.a_left
  pub a_right : IsSafe unit s.a_right
  pub b_left : IsSafe unit s.b_left
  pub b_right : IsSafe unit s.b_right

-- ---- circles in the quadrilateral of a section

-- the sides of the quadrilateral, each from corner to corner
abbrev pub sides : Section → List Edge
sides s = boundary (s.a_left ∷ s.b_left ∷ s.b_right ∷ s.a_right ∷ [])

-- the turn at the second of its corners: above 0 where it runs to the left, 0 where three corners lie on a line
abbrev pub orientation : Section → ℤ
orientation s = cross (minus s.b_left s.a_left) (minus s.b_right s.b_left)

-- how far a point lies on the inner side of a side, times the side's length; below 0 on the outer side
abbrev pub inner_turn : ℤ → Edge → Point → ℤ
inner_turn o side p = cond (int_lt o (pos 0)) (neg_ℤ (turn side.0 side.1 p)) (turn side.0 side.1 p)

-- the center is on the inner side, at a distance of at least the radius; the side's length is raised to a whole number
abbrev pub keeps_inside : ℤ → Circle → Edge → Bool
keeps_inside o c side =
    int_le (pos 0) (inner_turn o side c.center)
    && int_le (c.radius *ℤ pos (raised_root (length_sq (minus side.1 side.0)))) (inner_turn o side c.center)

-- whether the quadrilateral of a section surely holds a circle
unfoldable pub covers_circle : Section → Circle → Bool
covers_circle s c = not (int_eq (orientation s) (pos 0)) && list_all (keeps_inside (orientation s) c) (sides s)

-- the center is on the inner side of the side's line, and no nearer to it than the radius
pub record IsBeyond (o : ℤ) (c : Circle) (side : Edge) : Type 0 where
  pub inside : pos 0 ≤ℤ inner_turn o side c.center
  pub distance :
      unsigned_abs c.radius * unsigned_abs c.radius * length_sq (minus side.1 side.0)
      ≤ unsigned_abs (inner_turn o side c.center) * unsigned_abs (inner_turn o side c.center)

-- the quadrilateral of a section turns, and holds the circle
pub record HoldsCircle (s : Section) (c : Circle) : Type 0 where
  pub turns : orientation s ≢ pos 0
  pub beyond : All (IsBeyond (orientation s) c) (sides s)
