-- What is known of each net before nets are compared. Private contracts alone read this.
use Rattle.std.specs.Prelude.{ℕ, ◌<◌, ◌≡◌, ◌⊎◌, List, [], ◌∷◌, length, get_or, pos, ◌+ℤ◌, ◌≤ℤ◌}
use Rattle.std.specs.List.{All, flat_map}
use Rattle.mesh_plane.specs.Plane.{Point, Edge}
use Rattle.mesh_plane.specs.Winding.{boundary, winding}
use Rattle.mesh_num.specs.FlatContours.{flat_contours}
use Rattle.mesh_num.specs.Paths.{contours_of}
use Rattle.mesh_clearance.specs.Boxes.{Box, IsBoxed}
use Rattle.mesh_nets.specs.declared.outlines.Outline.{Outline}

-- an outline holds these contours, their edges, and a box round these
pub record IsOutline {I W U : Type 0} (contours : List (List Point)) (outline : Outline I W U) : Type 0 where
  pub same : flat_contours outline.contours ≡ contours
  pub edges : outline.edges.items ≡ flat_map boundary contours
  pub boxed : All (IsBoxed outline.around) outline.edges.items

-- there is one outline for each of so many first nets, in their order
pub record AreOutlines {I W U : Type 0} (nets : List (List (List (List Point)))) (so_many : ℕ)
    (outlines : List (Outline I W U)) : Type 0 where
  pub count : length outlines ≡ so_many
  pub own : (k : ℕ) (d : Outline I W U) → k < length outlines
      → IsOutline (contours_of (get_or nets k [])) (get_or outlines k d)

-- one box lies so far beyond the other, in x or in y
abbrev pub AreBoxesFar : ℕ → Box → Box → Type 0
AreBoxesFar d b c =
    (((b.1.0 +ℤ pos d) ≤ℤ c.0.0) ⊎ ((c.1.0 +ℤ pos d) ≤ℤ b.0.0))
    ⊎ (((b.1.1 +ℤ pos d) ≤ℤ c.0.1) ⊎ ((c.1.1 +ℤ pos d) ≤ℤ b.0.1))

-- edges do not wind round the first point of a contour
abbrev pub IsStartOutside : List Edge → List Point → Type 0
IsStartOutside es [] = Unit {0}
IsStartOutside es (p ∷ ps) = winding 1 p es ≡ pos 0
