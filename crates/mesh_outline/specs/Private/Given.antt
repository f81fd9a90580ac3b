-- What the steps of an outline of many contours add. Private contracts alone read these.
use Rattle.std.specs.Prelude.{ℕ, ◌≡◌, ◌++◌, Bool, true, List, []}
use Rattle.mesh_plane.specs.Plane.{Point, Edge}
use Rattle.mesh_num.specs.Segments.{SignedEdge, segments_of, proper_edges}
use Rattle.mesh_lattice.specs.FillRules.{filled}
use Rattle.mesh_lattice.specs.Reach.{ArePointsSafe}
use Rattle.mesh_lattice.specs.declared.fill.FillRule.{FillRule}
use Rattle.mesh_lattice.specs.declared.fill.FillRule.TheVariants.{Positive}
use Rattle.mesh_shapes.specs.Resolution.{Choices, IsResolution}
use Rattle.mesh_below.specs.Answers.{AreOwnBoundary, IsSettled}
use Rattle.mesh_below.specs.Options.{plain}
use Rattle.mesh_join.specs.Styles.{OffsetJoin, OutlineStyle}
use Rattle.mesh_offset.specs.Adding.{in_sense, answer_edges}
use Rattle.mesh_offset.specs.Built.{AddsClosed}
use Rattle.mesh_outline.specs.Resolved.{IsAnswerAlone, Gives, Give}

-- what comes of one contour that moves so and is resolved alone: an answer, in the safe range, which is settled where
-- `settled` is true, and whose edges are their own boundary where `own` is true
pub record ComesAlone (unit : ℕ) (way : OffsetJoin) (fill : FillRule) (contour : List Point)
    (answer : List (List (List Point))) (settled own : Bool) : Type 0 where
  pub alone : IsAnswerAlone unit way (filled fill) contour answer
  pub safe : ArePointsSafe unit answer
  pub is_settled : settled ≡ true → IsSettled plain answer
  pub own_boundary : own ≡ true → AreOwnBoundary (answer_edges answer)

-- the edges of what comes of one outer boundary that moves so are resolved once more, with these choices
pub record IsResolvedTwice (unit : ℕ) (way : OffsetJoin) (choices : Choices) (contour : List Point)
    (answer : List (List (List Point))) : Type 0 where
  pub first : List (List (List Point))
  pub alone : IsAnswerAlone unit way (filled Positive) contour first
  pub resolution : IsResolution (proper_edges (answer_edges first)) (filled Positive) choices answer
  pub safe : ArePointsSafe unit answer

-- the vector `new` holds what `old` held, and then the segments of the answer of one contour that moves so, closed and
-- safe
abbrev pub AddsAnswer : ℕ → OffsetJoin → FillRule → List Point → List SignedEdge → List SignedEdge → Type 0
AddsAnswer unit way fill contour old new =
    (answer : List (List (List Point))) × IsAnswerAlone unit way (filled fill) contour answer
    × AddsClosed unit old new (in_sense fill (answer_edges answer))

-- the vector `new` holds what `old` held, and then the segments of what a contour gives, closed and safe
abbrev pub AddsGiven : ℕ → OutlineStyle → List Point → List SignedEdge → List SignedEdge → Type 0
AddsGiven unit style contour old new =
    (edges : List Edge) × Gives unit style contour edges × AddsClosed unit old new edges

-- the segments are those of what contours give, closed and safe
abbrev pub AreGiven : ℕ → OutlineStyle → List (List Point) → List SignedEdge → Type 0
AreGiven unit style contours ss = (given : List Edge) × Give unit style contours given × AddsClosed unit [] ss given
