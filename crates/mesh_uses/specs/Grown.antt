-- Contours that have grown by an offset, with bevels.
use Rattle.std.specs.Prelude.{◌^◌, List, [], ◌∷◌, ℤ}
use Rattle.mesh_num.specs.Plane.{Point}
use Rattle.mesh_below.specs.Options.{plain}
use Rattle.mesh_boolean.specs.Zones.{AreOverlaidRegions}
use Rattle.mesh_boolean.specs.declared.rule.BooleanRule.TheVariants.{Intersect}
use Rattle.mesh_outline.specs.Regions.{AreOutlineRegions}
use Rattle.mesh_uses.specs.Styles.{bevelled}

-- the regions of a contour that has grown
abbrev pub IsGrown : ℤ → List Point → List (List (List Point)) → Type 0
IsGrown offset contour shapes = AreOutlineRegions (2 ^ 30) (bevelled offset) plain (contour ∷ []) shapes

-- what the regions of two contours have in common that have grown
abbrev pub AreOverlapsOfGrown : ℤ → List Point → List Point → List (List (List Point)) → Type 0
AreOverlapsOfGrown offset first second shapes =
    (one : List (List (List Point))) × (other : List (List (List Point))) × IsGrown offset first one
    × IsGrown offset second other × AreOverlaidRegions Intersect one other plain shapes
