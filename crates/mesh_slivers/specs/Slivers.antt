-- Slivers: contours as thin as rounding may make them, and shapes without them.
use Rattle.std.specs.Prelude.{ℕ, ◌*◌, ◌<◌, ◌≡◌, Bool, true, cond, not, nat_le, max, List, [], ◌∷◌, map}
use Rattle.std.specs.Prelude.{◌-ℤ◌, unsigned_abs}
use Rattle.std.specs.List.{filter, flat_map, list_all}
use Rattle.mesh_num.specs.Paths.{contours_of}
use Rattle.mesh_plane.specs.Plane.{Point, turn}
use Rattle.mesh_plane.specs.Winding.{boundary, winding}
use Rattle.mesh_lattice.specs.Nearness.{IsFarFrom}

-- how far a point lies from another one: the greater of both coordinates' differences
abbrev pub distance : Point → Point → ℕ
distance a p = max (unsigned_abs (p.0 -ℤ a.0)) (unsigned_abs (p.1 -ℤ a.1))

-- of two points the one farther from `a`; the first where both are as far
abbrev pub farther : Point → Point → Point → Point
farther a p b = cond (nat_le (distance a b) (distance a p)) p b

-- the point of a list farthest from `a`, the first of those that are; `a` where the list is empty
abbrev pub farthest : Point → List Point → Point
farthest a [] = a
farthest a (p ∷ ps) = farther a p (farthest a ps)

-- along the axis that `b` lies less far along, `p` lies at most `width` units from the line from `a` to `b`
abbrev pub is_in_strip : ℕ → Point → Point → Point → Bool
is_in_strip width a b p = nat_le (unsigned_abs (turn a b p)) (width * distance a b)

-- each vertex of a contour lies so near to the line from the first one to the one farthest from it
abbrev pub is_sliver : ℕ → List Point → Bool
is_sliver width [] = true
is_sliver width (a ∷ ps) = list_all (is_in_strip width a (farthest a ps)) (a ∷ ps)

-- all contours of a shape are slivers
abbrev pub are_slivers : ℕ → List (List Point) → Bool
are_slivers width shape = list_all (is_sliver width) shape

-- a shape's outer contour, and its holes that are no slivers
abbrev pub without_holes : ℕ → List (List Point) → List (List Point)
without_holes width [] = []
without_holes width (outer ∷ holes) = outer ∷ filter (λ (hole : List Point). not (is_sliver width hole)) holes

-- the shapes with a contour that is no sliver, each with the contours that it keeps
abbrev pub without_slivers : ℕ → List (List (List Point)) → List (List (List Point))
without_slivers width shapes =
    map (without_holes width) (filter (λ (shape : List (List Point)). not (are_slivers width shape)) shapes)

-- a shape's holes that are slivers
abbrev pub sliver_holes : ℕ → List (List Point) → List (List Point)
sliver_holes width [] = []
sliver_holes width (outer ∷ holes) = filter (is_sliver width) holes

-- the contours left out of a shape
abbrev pub left_out : ℕ → List (List Point) → List (List Point)
left_out width shape = cond (are_slivers width shape) shape (sliver_holes width shape)

-- at each point farther than `width` units from each edge left out of `old`, on every grid, both wind alike
abbrev pub WindAlike : ℕ → List (List (List Point)) → List (List (List Point)) → Type 0
WindAlike width old new =
    (m : ℕ) → 0 < m → (q : Point) → IsFarFrom (64 * width) m (flat_map boundary (flat_map (left_out width) old)) q
    → winding m q (flat_map boundary (contours_of new)) ≡ winding m q (flat_map boundary (contours_of old))
