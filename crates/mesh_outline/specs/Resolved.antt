-- The outline of many contours: each is moved and resolved alone, and what comes of all of them is resolved together.
use Rattle.std.specs.Prelude.{ℕ, ◌≡◌, List, [], ℤ, Bool, Some, None, IfSome}
use Rattle.std.specs.List.{All, AllZip, flat_map}
use Rattle.std.specs.List.Sorted.{IsPermutation}
use Rattle.mesh_plane.specs.Bounds.{IsWithin}
use Rattle.mesh_plane.specs.Plane.{Point, Edge}
use Rattle.mesh_num.specs.Segments.{proper_edges}
use Rattle.mesh_shapes.specs.Contours.{double_area}
use Rattle.mesh_lattice.specs.FillRules.{filled}
use Rattle.mesh_below.specs.Options.{plain}
use Rattle.mesh_shapes.specs.Resolution.{Choices, IsResolution}
use Rattle.mesh_lattice.specs.declared.fill.FillRule.{FillRule}
use Rattle.mesh_lattice.specs.declared.fill.FillRule.TheVariants.{Positive}
use Rattle.mesh_join.specs.Styles.{OffsetJoin, OutlineStyle}
use Rattle.mesh_offset.specs.Adding.{in_sense}
use Rattle.mesh_outline.specs.Building.{style_for}
use Rattle.mesh_outline.specs.Kinds.{kind_for}
use Rattle.mesh_outline.specs.Kinds.{kind_fill}
use Rattle.mesh_outline.specs.Drawn.{HasPromisedEdges}
use Rattle.mesh_outline.specs.Outline.{outline_edges}
use Rattle.mesh_offset.specs.Adding.{answer_edges}

-- the double area of each contour is a number from `-half` on that is below `half`
abbrev pub DoAreasFit : ℕ → List (List Point) → Type 0
DoAreasFit half contours = All (λ (contour : List Point). IsWithin half (double_area contour)) contours

-- the answer of one contour: the edges of its outline are resolved alone, with default options
pub record IsAnswerAlone (unit : ℕ) (style : OffsetJoin) (fill : ℤ → Bool) (contour : List Point)
    (answer : List (List (List Point))) : Type 0 where
  pub built : List Edge
  pub same : IsPermutation built (outline_edges unit style contour)
  pub resolution : IsResolution built fill plain answer

-- the sense in which a contour is filled, by its double area: as its kind is
abbrev pub fill_for : ℤ → FillRule
fill_for area = kind_fill (kind_for area)

-- the edges that a contour gives to the outline. An outer boundary moves by the outer offset, what is wound round in
-- its sense is filled, and it gives the contours of its answer. A hole moves by the inner offset, what is wound round
-- in its sense is filled, and it gives the contours of its answer the other way about. A contour of area 0 gives
-- nothing
pub data Gives (unit : ℕ) (style : OutlineStyle) (contour : List Point) : List Edge → Type 0 where
  moved : {way : OffsetJoin} {answer : List (List (List Point))} → style_for style (double_area contour) ≡ Some way
      → IsAnswerAlone unit way (filled (fill_for (double_area contour))) contour answer
      → Gives unit style contour (in_sense (fill_for (double_area contour)) (answer_edges answer))
  ignored : style_for style (double_area contour) ≡ None → Gives unit style contour []

-- the edges that contours give together: those that each of them gives, end to end
pub record Give (unit : ℕ) (style : OutlineStyle) (contours : List (List Point)) (given : List Edge) : Type 0 where
  pub edges : List (List Edge)
  pub each : AllZip (Gives unit style) contours edges
  pub joined : given ≡ flat_map (λ (es : List Edge). es) edges

-- the answer is the outline of contours in this style: the edges that the contours give are resolved together, with the
-- choices of the caller
pub record IsOutline (unit : ℕ) (style : OutlineStyle) (choices : Choices) (contours : List (List Point))
    (answer : List (List (List Point))) : Type 0 where
  pub given : List Edge
  pub give : Give unit style contours given
  pub resolution : IsResolution (proper_edges given) (filled Positive) choices answer

-- what the edges of its outline are promised holds of each contour that moves, in the way that it moves
abbrev pub HavePromisedEdges : ℕ → OutlineStyle → List (List Point) → Type 0
HavePromisedEdges unit style contours =
    All (λ (contour : List Point).
    IfSome (style_for style (double_area contour)) (λ (way : OffsetJoin). HasPromisedEdges unit way contour)) contours
