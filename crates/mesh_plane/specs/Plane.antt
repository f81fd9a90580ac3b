-- The plane of pairs of whole numbers: points, vectors, their products and turns.
-- Nothing here knows the width of the program's numbers.
use Rattle.std.specs.Prelude.{ℕ, ◌+◌, ◌*◌, ℤ, ◌+ℤ◌, ◌-ℤ◌, ◌*ℤ◌, neg_ℤ, unsigned_abs}

-- a point, or the vector to it: x, then y; the y axis points up
abbrev pub Point : Type 0
Point = ℤ × ℤ

-- a directed edge: where it starts, then where it ends
abbrev pub Edge : Type 0
Edge = Point × Point

-- a point moved by a vector
abbrev pub plus : Point → Point → Point
plus p v = (p.0 +ℤ v.0, p.1 +ℤ v.1)

-- the vector from the second point to the first
abbrev pub minus : Point → Point → Point
minus p q = (p.0 -ℤ q.0, p.1 -ℤ q.1)

-- the vector the other way
abbrev pub opposite : Point → Point
opposite v = (neg_ℤ v.0, neg_ℤ v.1)

-- above 0 where the second vector lies to the left of the first
abbrev pub cross : Point → Point → ℤ
cross v w = (v.0 *ℤ w.1) -ℤ (v.1 *ℤ w.0)

-- above 0 where the second vector looks the way of the first
abbrev pub dot : Point → Point → ℤ
dot v w = (v.0 *ℤ w.0) +ℤ (v.1 *ℤ w.1)

-- the square of a vector's length
abbrev pub length_sq : Point → ℕ
length_sq v = unsigned_abs v.0 * unsigned_abs v.0 + unsigned_abs v.1 * unsigned_abs v.1

-- above 0 where `q` lies to the left of the line from `p` to `r`
abbrev pub turn : Point → Point → Point → ℤ
turn p r q = cross (minus r p) (minus q p)

-- a vector turned by a quarter clockwise
abbrev pub right_quarter : Point → Point
right_quarter v = (v.1, neg_ℤ v.0)
