-- Laws of crossings, windings, balance, directions and flat contours. The function of the same name in the module `laws` carries each.
use Rattle.std.specs.Prelude.{ℕ, ◌≡◌, ◌<◌, ◌↔◌, List, map}
use Rattle.std.specs.List.{flat_map}
use Rattle.mesh_plane.specs.Plane.{Point, length_sq}
use Rattle.mesh_num.specs.Direction.{IsDirection}
use Rattle.mesh_num.specs.Directed.{direction_of}
use Rattle.mesh_num.specs.FlatContours.{points_at, ranges_from}

-- a vector other than 0 has one direction, which `direction_of` gives
abbrev pub DirectionsAreUnique : Type 0
DirectionsAreUnique = (unit : ℕ) (v n : Point) → 0 < length_sq v → (IsDirection unit v n ↔ (n ≡ direction_of unit v))

-- contours whose points stand end to end are found again by their ranges
abbrev pub FlatContoursAreFound : Type 0
FlatContoursAreFound =
    (contours : List (List Point))
    → map (points_at (flat_map (λ c. c) contours)) (ranges_from 0 contours) ≡ contours
