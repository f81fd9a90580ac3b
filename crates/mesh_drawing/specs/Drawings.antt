-- What may be drawn, and the edges and the shapes of it.
use Rattle.std.specs.Prelude.{ℕ, ◌*◌, List, [], Option, Some, None, ℤ}
use Rattle.std.specs.List.{AllZip}
use Rattle.std.specs.List.Sorted.{IsPermutation, IsSorted}
use Rattle.std.specs.declared.cmp.Ordering.{Ordering}
use Rattle.mesh_plane.specs.Plane.{Point, Edge}
use Rattle.mesh_shapes.specs.Contours.{double_area}
use Rattle.mesh_shapes.specs.Resolution.{Choices}
use Rattle.mesh_join.specs.Styles.{OffsetJoin, OutlineStyle}
use Rattle.mesh_outline.specs.Building.{style_for}
use Rattle.mesh_outline.specs.Outline.{outline_edges}
use Rattle.mesh_outline.specs.Resolved.{DoAreasFit as DoContoursFit, IsOutline}
use Rattle.mesh_stroke.specs.Strokes.{stroke_edges}
use Rattle.mesh_stroke.specs.Resolved.{IsStroke}
use Rattle.mesh_variable_stroke.specs.VariableStrokes.{variable_stroke_edges}
use Rattle.mesh_variable_stroke.specs.Resolved.{IsVariableStroke}
use Rattle.mesh_drawing.specs.Drawn.{Drawn, as_outline, as_stroke, as_variable_stroke}
use Rattle.mesh_drawing.specs.Order.{edge_order}
use Rattle.mesh_drawing.specs.Paddings.{DoesStayInRange}

-- the edges of the outline of a path that moves in this way, none where it does not move
abbrev pub moved_edges : ℕ → Option OffsetJoin → List Point → List Edge
moved_edges unit None path = []
moved_edges unit (Some way) path = outline_edges unit way path

-- the edges of a path's outline: it moves as its double area says
abbrev pub served_edges : ℕ → OutlineStyle → List Point → List Edge
served_edges unit style path = moved_edges unit (style_for style (double_area path)) path

-- the edges that are drawn of a path, listed in the order of edges that an order of coordinates gives
pub record IsListed {P : Type 0} (order : ℤ → ℤ → Ordering) (drawn : List P → List Edge)
    (path : List P) (edges : List Edge) : Type 0 where
  pub same : IsPermutation (drawn path) edges
  pub sorted : IsSorted (edge_order order) edges

-- the edges that are drawn of each path, path by path
abbrev pub AreListed : {P : Type 0} →
    (ℤ → ℤ → Ordering) → (List P → List Edge) → List (List P) → List (List Edge) → Type 0
AreListed order drawn paths lists = AllZip (IsListed order drawn) paths lists

-- the double area of each contour of an outline fits the wide type, which holds the whole numbers from `-8 * unit * unit`
-- on that are below `8 * unit * unit`; of strokes no area is taken
abbrev pub DoAreasFit : ℕ → Drawn → Type 0
DoAreasFit unit (as_outline style paths) = DoContoursFit (8 * unit * unit) paths
DoAreasFit unit (as_stroke style closed paths) = Unit {0}
DoAreasFit unit (as_variable_stroke options paths) = Unit {0}

-- what is asked for may be drawn
pub record MayBeDrawn (unit : ℕ) (drawn : Drawn) : Type 0 where
  pub safe : DoesStayInRange unit drawn
  pub fit : DoAreasFit unit drawn

-- the edges of what is drawn
abbrev pub AreEdgesOf : (ℤ → ℤ → Ordering) → ℕ → Drawn → List (List Edge) → Type 0
AreEdgesOf order unit (as_outline style paths) lists = AreListed order (served_edges unit style) paths lists
AreEdgesOf order unit (as_stroke style closed paths) lists =
    AreListed order (stroke_edges unit style closed) paths lists
AreEdgesOf order unit (as_variable_stroke options paths) lists =
    AreListed order (variable_stroke_edges unit options) paths lists

-- the shapes of what is drawn, with these choices
abbrev pub AreShapesOf : ℕ → Choices → Drawn → List (List (List Point)) → Type 0
AreShapesOf unit choices (as_outline style paths) shapes = IsOutline unit style choices paths shapes
AreShapesOf unit choices (as_stroke style closed paths) shapes = IsStroke unit style closed choices paths shapes
AreShapesOf unit choices (as_variable_stroke options paths) shapes = IsVariableStroke unit options choices paths shapes
