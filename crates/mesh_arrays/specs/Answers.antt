-- What is answered to calls for what was read of a drawing. Coordinates are of a type with `unit`; `point_of` and
-- `edge_of` are what the numbers for a point and for an edge stand for.
use Rattle.std.specs.Prelude.{ℕ, ◌≡◌, ℤ, List, Option, Some, None, Result, Ok, Err}
use Rattle.std.specs.declared.cmp.Ordering.{Ordering}
use Rattle.mesh_plane.specs.Plane.{Point, Edge}
use Rattle.mesh_shapes.specs.Resolution.{Choices}
use Rattle.mesh_drawing.specs.Drawings.{MayBeDrawn, AreEdgesOf, AreShapesOf}
use Rattle.mesh_drawing.specs.Drawn.{Drawn}
use Rattle.mesh_drawing.specs.Nearness.{AreShapesWithin, TakesMoreSplits}
use Rattle.mesh_arrays.specs.EndToEnd.{HoldsLists, HoldsShapes}
use Rattle.mesh_arrays.specs.Styles.{choices_in}
use Rattle.mesh_arrays.specs.declared.failure.Failure.{Failure}
use Rattle.mesh_arrays.specs.declared.failure.Failure.TheVariants.{Malformed, OutOfRange, OutOfMemory, TooManySplits}
use Rattle.mesh_arrays.specs.declared.lists.FlatLists.{FlatLists}
use Rattle.mesh_arrays.specs.declared.near.NearFlatShapes.{NearFlatShapes}
use Rattle.mesh_arrays.specs.declared.options.FlatOptions.{FlatOptions}
use Rattle.mesh_arrays.specs.declared.shapes.FlatShapes.{FlatShapes}

-- why a drawing is not answered: something else is `missing`; it may not be drawn; memory was refused; or it was given up
abbrev pub IsFailureOf : ℕ → Type 0 → Type 0 → Drawn → Failure → Type 0
IsFailureOf unit missing given_up drawn Malformed = missing
IsFailureOf unit missing given_up drawn OutOfRange = MayBeDrawn unit drawn → ⊥
IsFailureOf unit missing given_up drawn OutOfMemory = Unit {0}
IsFailureOf unit missing given_up drawn TooManySplits = given_up

-- the lists hold the shapes, with these choices, of the drawing, which may be drawn
pub record AnswersShapes {F : Type 0} (unit : ℕ) (point_of : F → Point) (choices : Option Choices) (drawn : Drawn)
    (flat : FlatShapes F) : Type 0 where
  pub chosen : Choices
  pub said : choices ≡ Some chosen
  pub accepted : MayBeDrawn unit drawn
  pub shapes : List (List (List Point))
  pub drawing : AreShapesOf unit chosen drawn shapes
  pub held : HoldsShapes point_of flat shapes

-- what is answered where shapes are asked for, with these options: what was not read fails as reading did
abbrev pub IsShapesAnswer : {F : Type 0} → ℕ → (F → Point) → FlatOptions → Result Drawn Failure
    → Result (FlatShapes F) Failure → Type 0
IsShapesAnswer unit point_of options (Err unread) answer = answer ≡ Err unread
IsShapesAnswer unit point_of options (Ok drawn) (Ok flat) =
    AnswersShapes unit point_of (choices_in unit options) drawn flat
IsShapesAnswer unit point_of options (Ok drawn) (Err failure) =
    IsFailureOf unit (choices_in unit options ≡ None) ⊥ drawn failure

-- the lists hold the shapes, with these choices, of the drawing, which may be drawn; they are exact farther than the
-- nearness that is told, in 64ths of a grid unit, from each drawn edge, and took no more splits than they might
pub record AnswersNear {F : Type 0} (unit : ℕ) (point_of : F → Point) (choices : Option Choices) (most : ℕ)
    (drawn : Drawn) (near : NearFlatShapes F) : Type 0 where
  pub chosen : Choices
  pub said : choices ≡ Some chosen
  pub accepted : MayBeDrawn unit drawn
  pub shapes : List (List (List Point))
  pub drawing : AreShapesWithin most near.nearness unit chosen drawn shapes
  pub held : HoldsShapes point_of near.shapes shapes

-- the drawing, with choices that are some, may be drawn, and took more splits than a limit that is set
pub record IsGivenUp (unit : ℕ) (choices : Option Choices) (most : ℕ) (drawn : Drawn) : Type 0 where
  pub chosen : Choices
  pub said : choices ≡ Some chosen
  pub accepted : MayBeDrawn unit drawn
  pub past : TakesMoreSplits most unit drawn

-- what is answered where shapes with their nearness are asked for, with these options, by at most so many splits, or any
-- number where that is 0
abbrev pub IsNearAnswer : {F : Type 0} → ℕ → (F → Point) → FlatOptions → ℕ → Result Drawn Failure
    → Result (NearFlatShapes F) Failure → Type 0
IsNearAnswer unit point_of options most (Err unread) answer = answer ≡ Err unread
IsNearAnswer unit point_of options most (Ok drawn) (Ok near) =
    AnswersNear unit point_of (choices_in unit options) most drawn near
IsNearAnswer unit point_of options most (Ok drawn) (Err failure) =
    IsFailureOf unit (choices_in unit options ≡ None) (IsGivenUp unit (choices_in unit options) most drawn) drawn failure

-- the lists hold the edges of each path of the drawing, which may be drawn, in this order of coordinates
pub record AnswersEdges {F : Type 0} (order : ℤ → ℤ → Ordering) (unit : ℕ) (edge_of : F → Edge) (drawn : Drawn)
    (flat : FlatLists F) : Type 0 where
  pub accepted : MayBeDrawn unit drawn
  pub lists : List (List Edge)
  pub drawing : AreEdgesOf order unit drawn lists
  pub held : HoldsLists edge_of flat lists

-- what is answered where edges are asked for
abbrev pub IsEdgesAnswer : {F : Type 0} → (ℤ → ℤ → Ordering) → ℕ → (F → Edge) → Result Drawn Failure
    → Result (FlatLists F) Failure → Type 0
IsEdgesAnswer order unit edge_of (Err unread) answer = answer ≡ Err unread
IsEdgesAnswer order unit edge_of (Ok drawn) (Ok flat) = AnswersEdges order unit edge_of drawn flat
IsEdgesAnswer order unit edge_of (Ok drawn) (Err failure) = IsFailureOf unit ⊥ ⊥ drawn failure
