-- Outlines are regions.
use Rattle.std.specs.Prelude.{ℕ, ◌≡◌, Bool, ◌&&◌, List, [], ◌∷◌, pos, int_lt, count_by}
use Rattle.std.specs.List.{AllZip}
use Rattle.mesh_plane.specs.Plane.{Point, Edge}
use Rattle.mesh_plane.specs.Winding.{winding}
use Rattle.mesh_num.specs.Segments.{proper_edges}
use Rattle.mesh_lattice.specs.FillRules.{filled}
use Rattle.mesh_lattice.specs.declared.fill.FillRule.TheVariants.{Positive}
use Rattle.mesh_below.specs.Laws.{AreRegions}
use Rattle.mesh_below.specs.Options.{plain}
use Rattle.mesh_below.specs.Regions.{OutsideBent}
use Rattle.mesh_shapes.specs.Contours.{double_area}
use Rattle.mesh_shapes.specs.Resolution.{Choices}
use Rattle.mesh_join.specs.Styles.{OutlineStyle, outer, inner}
use Rattle.mesh_offset.specs.Regions.{WindsOnceWhere}
use Rattle.mesh_outline.specs.Outline.{outline_edges}
use Rattle.mesh_outline.specs.Resolved.{Gives, IsOutline, fill_for}

-- a contour of positive area whose outline's edges wind above 0 round the point
abbrev pub is_filled : ℕ → OutlineStyle → ℕ → Point → List Point → Bool
is_filled unit style m q contour =
    int_lt (pos 0) (double_area contour) && int_lt (pos 0) (winding m q (outline_edges unit (outer style) contour))

-- a contour of negative area whose outline's edges wind below 0 round the point
abbrev pub is_cleared : ℕ → OutlineStyle → ℕ → Point → List Point → Bool
is_cleared unit style m q contour =
    int_lt (double_area contour) (pos 0) && int_lt (winding m q (outline_edges unit (inner style) contour)) (pos 0)

-- more contours fill the point than clear it
abbrev pub more_fill : ℕ → OutlineStyle → List (List Point) → ℕ → Point → Bool
more_fill unit style contours m q =
    int_lt (pos (count_by (is_cleared unit style m q) contours)) (pos (count_by (is_filled unit style m q) contours))

-- the point is in the box of no edge of a contour's outline that its own resolving bent
abbrev pub OutsideBentAlone : (unit : ℕ) (style : OutlineStyle) (contour : List Point) (edges : List Edge)
    → Gives unit style contour edges → ℕ → Point → Type 0
OutsideBentAlone unit style contour _ (Gives.moved moves alone) m q = OutsideBent alone.resolution.splits alone.built m q
OutsideBentAlone unit style contour _ (Gives.ignored none) m q = Unit {0}

-- so of each contour
abbrev pub OutsideBentEach : (unit : ℕ) (style : OutlineStyle) (contours : List (List Point)) (edges : List (List Edge))
    → AllZip (Gives unit style) contours edges → ℕ → Point → Type 0
OutsideBentEach unit style [] edges each m q = Unit {0}
OutsideBentEach unit style (contour ∷ contours) [] each m q = Unit {0}
OutsideBentEach unit style (contour ∷ contours) (es ∷ edges) each m q =
    OutsideBentAlone unit style contour es each.0 m q × OutsideBentEach unit style contours edges each.1 m q

-- what comes of a contour that moves is made of regions of the edges that are drawn of it, resolved alone: it winds once
-- where they fill, outside the boxes of those that are bent, and none is bent where they meet in whole points alone
abbrev pub AreRegionsAlone : (unit : ℕ) (style : OutlineStyle) (contour : List Point) (edges : List Edge)
    → Gives unit style contour edges → Type 0
AreRegionsAlone unit style contour _ (Gives.moved {answer = answer} moves alone) =
    (made : AreRegions alone.built (filled (fill_for (double_area contour))) plain answer)
    × (made.resolution ≡ alone.resolution)
AreRegionsAlone unit style contour _ (Gives.ignored none) = Unit {0}

-- so of each contour
abbrev pub AreRegionsEach : (unit : ℕ) (style : OutlineStyle) (contours : List (List Point)) (edges : List (List Edge))
    → AllZip (Gives unit style) contours edges → Type 0
AreRegionsEach unit style [] edges each = Unit {0}
AreRegionsEach unit style (contour ∷ contours) [] each = Unit {0}
AreRegionsEach unit style (contour ∷ contours) (es ∷ edges) each =
    AreRegionsAlone unit style contour es each.0 × AreRegionsEach unit style contours edges each.1

-- an answer is the outline of contours, made of regions
pub record AreOutlineRegions (unit : ℕ) (style : OutlineStyle) (choices : Choices) (contours : List (List Point))
    (answer : List (List (List Point))) : Type 0 where
  pub outline : IsOutline unit style choices contours answer
  pub regions : AreRegions (proper_edges outline.given) (filled Positive) choices answer
  pub same : regions.resolution ≡ outline.resolution
  -- and so is what comes of each contour alone
  pub alone : AreRegionsEach unit style contours outline.give.edges outline.give.each
  -- it winds once where more contours of positive area have an outline that winds above 0 than contours of negative
  -- area have one that winds below 0; an edge that is bent in any of the resolvings counts as bent
  pub fills : WindsOnceWhere (more_fill unit style contours)
      (λ m q. OutsideBentEach unit style contours outline.give.edges outline.give.each m q
      × OutsideBent regions.resolution.splits (proper_edges outline.given) m q) choices answer
