-- What answers what is asked of a drawing. Coordinates are of a type with `unit`; `value` is the whole number that an area
-- stands for.
use Rattle.std.specs.Prelude.{ℕ, ◌≡◌, ◌<◌, ◌==◌, ◌&&◌, Bool, true, false, not, List, ℤ}
use Rattle.std.specs.declared.cmp.Ordering.{Ordering}
use Rattle.mesh_plane.specs.Plane.{Point}
use Rattle.mesh_num.specs.Paths.{paths_of, shapes_of}
use Rattle.mesh_below.specs.Options.{choices_of}
use Rattle.mesh_below.specs.declared.below.IntOverlayOptions.{IntOverlayOptions}
use Rattle.mesh_drawing.specs.Drawings.{AreEdgesOf, AreShapesOf, MayBeDrawn}
use Rattle.mesh_drawing.specs.Drawn.{Drawn}
use Rattle.mesh_drawing.specs.Nearness.{AreShapesWithin, TakesMoreSplits}
use Rattle.mesh_drawing.specs.declared.asked.Answer.{Answer}
use Rattle.mesh_drawing.specs.declared.asked.Asked.{Asked}
use Rattle.mesh_drawing.specs.declared.asked.Output.{Output}

-- whether neither a limit is set nor the nearness is asked for
abbrev pub is_plain : {U : Type 0} → Asked U → Bool
is_plain asked = not asked.nearness && (asked.most_splits == 0)

-- shapes are asked for with these options, and they are those of what is drawn
pub record AreAskedShapes {U : Type 0} (unit : ℕ) (value : U → ℕ) (drawn : Drawn) (asked : Asked U)
    (answer : List (List (List Point))) : Type 0 where
  pub options : IntOverlayOptions U
  pub output : asked.output ≡ Output.Shapes options
  pub plain : is_plain asked ≡ true
  pub shapes : AreShapesOf unit (choices_of value options) drawn answer

-- the same of shapes that are exact farther than `k` from each drawn edge, and took no more splits than they might
pub record AreAskedWithin {U : Type 0} (k unit : ℕ) (value : U → ℕ) (drawn : Drawn) (asked : Asked U)
    (answer : List (List (List Point))) : Type 0 where
  pub options : IntOverlayOptions U
  pub output : asked.output ≡ Output.Shapes options
  pub told : is_plain asked ≡ false
  pub shapes : AreShapesWithin asked.most_splits k unit (choices_of value options) drawn answer

-- the answer is what is asked of a drawing: the edges of each path, in this order of coordinates, or the shapes of all
abbrev pub IsDrawn : {C W U : Type 0} → (ℤ → ℤ → Ordering) → ℕ → (U → ℕ) → Drawn → Asked U → Answer C W U → Type 0
IsDrawn order unit value drawn asked (Answer.Edges lists) =
    (asked.output ≡ Output.Edges) × AreEdgesOf order unit drawn (paths_of lists.items)
IsDrawn order unit value drawn asked (Answer.Shapes shapes) =
    AreAskedShapes unit value drawn asked (shapes_of shapes.items)
IsDrawn order unit value drawn asked (Answer.NearShapes near) =
    AreAskedWithin near.nearness unit value drawn asked (shapes_of near.shapes.items)

-- shapes are asked for with a limit, and what is drawn may be drawn, and took more splits
pub record PassesLimit {U : Type 0} (unit : ℕ) (drawn : Drawn) (asked : Asked U) : Type 0 where
  pub options : IntOverlayOptions U
  pub output : asked.output ≡ Output.Shapes options
  pub limited : 0 < asked.most_splits
  pub accepted : MayBeDrawn unit drawn
  pub past : TakesMoreSplits asked.most_splits unit drawn
