-- Shapes that are given in lists, and these without their slivers. `point_of` is what the numbers for a point stand for.
use Rattle.std.specs.Prelude.{ℕ, ◌≡◌, ℤ, List, Result, MatchResult, map}
use Rattle.mesh_plane.specs.Plane.{Point}
use Rattle.mesh_slivers.specs.Slivers.{WindAlike, without_slivers}
use Rattle.mesh_arrays.specs.EndToEnd.{AreEndToEnd, HoldsShapes, end_to_end, ends_from}
use Rattle.mesh_arrays.specs.Failures.{IsUnread}
use Rattle.mesh_arrays.specs.Numbers.{whole_point}
use Rattle.mesh_arrays.specs.ShapeRooms.{LeavesShapes, ShapeLists, ShapeRoom}
use Rattle.mesh_arrays.specs.Telling.{Returns, TellsAnswer}
use Rattle.mesh_arrays.specs.declared.failure.Failure.{Failure}
use Rattle.mesh_arrays.specs.declared.shapes.FlatShapes.{FlatShapes}

-- the lists hold these shapes: the points of contours end to end, contour by contour, and the contours shape by shape.
-- No lists hold two
pub record AreShapesIn {F A : Type 0} (point_of : F → A) (lists : ShapeLists F) (shapes : List (List (List A))) : Type 0
  where
    pub contours : AreEndToEnd (end_to_end shapes) (map point_of lists.points) lists.contour_ends
    pub ended : ends_from 0 shapes ≡ lists.shape_ends

-- the lists hold the given shapes, without the slivers of this width
pub record AnswersSlivers {F : Type 0} (point_of : F → Point) (given : ShapeLists F) (width : ℕ) (flat : FlatShapes F)
    : Type 0 where
  pub shapes : List (List (List Point))
  pub asked : AreShapesIn point_of given shapes
  pub held : HoldsShapes point_of flat (without_slivers width shapes)
  pub winding : WindAlike width shapes (without_slivers width shapes)

-- what is answered where given shapes are asked for without their slivers: these, or why there are none
abbrev pub IsSliverAnswer : {F : Type 0} → (F → Point) → ShapeLists F → ℕ → Result (FlatShapes F) Failure → Type 0
IsSliverAnswer point_of given width answer =
    MatchResult answer (AnswersSlivers point_of given width)
    (IsUnread ((shapes : List (List (List Point))) → AreShapesIn point_of given shapes → ⊥))

-- a call for given shapes without their slivers
abbrev pub TellsSlivers : ShapeLists (List ℤ) → ℕ → ShapeRoom (List ℤ) → ShapeRoom (List ℤ) → ℕ → Type 0
TellsSlivers given width old new code =
    Returns (λ ended. TellsAnswer (IsSliverAnswer whole_point given width) LeavesShapes old new ended) code
