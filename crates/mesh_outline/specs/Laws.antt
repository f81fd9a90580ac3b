-- Laws of outlines of many contours. The function of the same name in the module `laws` carries each. Coordinates are
-- of a type with `unit`.
use Rattle.std.specs.Prelude.{ℕ, ◌≤◌, ◌≡◌, ◌^◌, List}
use Rattle.mesh_plane.specs.Plane.{Point, Edge}
use Rattle.mesh_plane.specs.Winding.{IsBalanced}
use Rattle.mesh_num.specs.Segments.{proper_edges}
use Rattle.mesh_lattice.specs.Clean.{IsProper}
use Rattle.mesh_lattice.specs.FillRules.{filled}
use Rattle.mesh_lattice.specs.declared.fill.FillRule.{FillRule}
use Rattle.mesh_shapes.specs.Resolution.{Choices}
use Rattle.mesh_below.specs.Laws.{AreRegions}
use Rattle.mesh_below.specs.Meeting.{MeetInWholePoints}
use Rattle.mesh_below.specs.Options.{plain}
use Rattle.mesh_join.specs.Joins.{outline_padding}
use Rattle.mesh_join.specs.Styles.{OffsetJoin, OutlineStyle}
use Rattle.mesh_offset.specs.Padding.{ArePathsSafe}
use Rattle.mesh_offset.specs.Regions.{WindsOnceWhere}
use Rattle.mesh_outline.specs.Nearness.{all_drawn}
use Rattle.mesh_outline.specs.Regions.{AreOutlineRegions, more_fill}
use Rattle.mesh_outline.specs.Resolved.{IsAnswerAlone, Give, IsOutline}
use Rattle.mesh_outline.specs.Staying.{StaysSafe}

-- where contours stay safe as they move by the padding of their style, so does all that is computed for their outline
abbrev pub OutlinesStaySafe : Type 0
OutlinesStaySafe =
    (unit : ℕ) → 2 ^ 14 ≤ unit → (style : OutlineStyle) (contours : List (List Point))
    → ArePathsSafe unit (outline_padding style) contours
    → StaysSafe unit style contours

-- what contours give to the last resolving is balanced, and none of its edges ends where it starts
abbrev pub FinalEdgesAreBalanced : Type 0
FinalEdgesAreBalanced =
    (unit : ℕ) (style : OutlineStyle) (contours : List (List Point)) (given : List Edge)
    → Give unit style contours given
    → IsProper (proper_edges given) × IsBalanced (proper_edges given)

-- each answer that is an outline is made of regions
abbrev pub OutlinesAreRegions : Type 0
OutlinesAreRegions =
    (unit : ℕ) → 2 ^ 14 ≤ unit → (style : OutlineStyle) (choices : Choices) (contours : List (List Point))
    (answer : List (List (List Point))) → (outline : IsOutline unit style choices contours answer)
    → (made : AreOutlineRegions unit style choices contours answer) × (made.outline ≡ outline)

-- where the edges that are drawn of all contours meet in whole points alone, no edge is bent in any resolving: their
-- outline winds once round each point that more contours fill than clear, and round no other
abbrev pub OutlinesAreExact : Type 0
OutlinesAreExact =
    (unit : ℕ) → 2 ^ 14 ≤ unit → (style : OutlineStyle) (choices : Choices) (contours : List (List Point))
    (answer : List (List (List Point))) → AreOutlineRegions unit style choices contours answer
    → MeetInWholePoints (all_drawn unit style contours)
    → WindsOnceWhere (more_fill unit style contours) (λ m q. Unit {0}) choices answer

-- what comes of one contour alone is made of regions of the edges of its own outline
abbrev pub AnswersAloneAreRegions : Type 0
AnswersAloneAreRegions =
    (unit : ℕ) → 2 ^ 14 ≤ unit → (style : OffsetJoin) (rule : FillRule) (contour : List Point)
    (answer : List (List (List Point)))
    → (alone : IsAnswerAlone unit style (filled rule) contour answer)
    → (made : AreRegions alone.built (filled rule) plain answer) × (made.resolution ≡ alone.resolution)
