-- Laws of cleaned contours. The function of the same name in the module `laws` carries each.
use Rattle.std.specs.Prelude.{ℕ, ◌≡◌, List, [], ◌∷◌}
use Rattle.mesh_plane.specs.Plane.{Point}
use Rattle.mesh_plane.specs.Turning.{first_or}
use Rattle.mesh_plane.specs.Winding.{boundary, winding}
use Rattle.mesh_join.specs.Cleaned.{AllEqual, IsCleanContour, cleaned_points}
use Rattle.mesh_join.specs.Cleaned.{cleaned_sections, kept_inside, without_repeats}

-- at every point of every grid a cleaned contour winds as often as the contour
abbrev pub CleanedContoursWindAlike : Type 0
CleanedContoursWindAlike =
    (points : List Point) (m : ℕ) (q : Point) → winding m q (cleaned_sections points) ≡ winding m q (boundary points)

-- a contour of points that are not all equal has at least two sections, which close up and of which none runs on from
-- the one before it
abbrev pub CleanedContoursAreClean : Type 0
CleanedContoursAreClean = (points : List Point) → (AllEqual points → ⊥) → IsCleanContour (cleaned_sections points)

-- a contour of no point or of equal ones has no section
abbrev pub EqualPointsHaveNoSections : Type 0
EqualPointsHaveNoSections = (points : List Point) → AllEqual points → cleaned_sections points ≡ []

-- the list begins at a point
abbrev pub BeginsAt : Point → List Point → Type 0
BeginsAt p [] = ⊥
BeginsAt p (q ∷ qs) = q ≡ p

-- a contour of points that are not all equal is cleaned to one that begins at the first kept point of the second to the
-- last but one of the list without repeats, or where none of these is kept at the list's first point
abbrev pub CleanedContoursBegin : Type 0
CleanedContoursBegin =
    (first : Point) (others : List Point) → (AllEqual (first ∷ others) → ⊥)
    → BeginsAt (first_or first (kept_inside (without_repeats (first ∷ others)))) (cleaned_points (first ∷ others))
