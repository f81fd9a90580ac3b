-- Lists of points: where one turns, and the first and the last of a list.
use Rattle.std.specs.Prelude.{Bool, not, ◌||◌, List, [], ◌∷◌, pos, int_lt}
use Rattle.std.specs.Ordering.{int_eq}
use Rattle.mesh_plane.specs.Plane.{Point, minus, cross, dot}

-- whether a path from `p0` by `p1` to `p2` turns or turns back at `p1`, rather than run straight through
abbrev pub turns_at : Point → Point → Point → Bool
turns_at p0 p1 p2 =
    not (int_eq (cross (minus p1 p0) (minus p1 p2)) (pos 0))
    || int_lt (pos 0) (dot (minus p1 p0) (minus p1 p2))

-- the first of a list, or another where it has none
abbrev pub first_or : {A : Type 0} → A → List A → A
first_or z [] = z
first_or z (x ∷ xs) = x

-- the last of a list that begins so
abbrev pub last_of : {A : Type 0} → A → List A → A
last_of x [] = x
last_of x (y ∷ ys) = last_of y ys
