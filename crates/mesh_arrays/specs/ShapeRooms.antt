-- Rooms for lists of shapes, and what stands in them after a call.
use Rattle.std.specs.Prelude.{ℕ, ◌≡◌, ◌≤◌, ℤ, List, length}
use Rattle.mesh_drawing.specs.Drawn.{Drawn}
use Rattle.mesh_arrays.specs.Answers.{IsNearAnswer, IsShapesAnswer}
use Rattle.mesh_arrays.specs.Numbers.{whole_point}
use Rattle.mesh_arrays.specs.Rooms.{overwritten}
use Rattle.mesh_arrays.specs.Telling.{Draws, IsPut, TellsAnswer}
use Rattle.mesh_arrays.specs.declared.near.NearFlatShapes.{NearFlatShapes}
use Rattle.mesh_arrays.specs.declared.options.FlatOptions.{FlatOptions}
use Rattle.mesh_arrays.specs.declared.outcome.Outcome.{Outcome}
use Rattle.mesh_arrays.specs.declared.shapes.FlatShapes.{FlatShapes}
use Rattle.mesh_arrays.specs.declared.shapes.ShapeCounts.{ShapeCounts}

-- the points of shapes as numbers, and where contours and shapes end
pub record ShapeLists (F : Type 0) : Type 0 where
  pub points : List F
  pub contour_ends : List ℕ
  pub shape_ends : List ℕ

abbrev pub shape_lists : {F : Type 0} → List F → List ℕ → List ℕ → ShapeLists F
shape_lists points contours shapes = record { points = points; contour_ends = contours; shape_ends = shapes }

-- the lists that the code's own type has
abbrev pub lists_of : {F : Type 0} → FlatShapes F → ShapeLists F
lists_of flat = shape_lists flat.contours.all.items flat.contours.ends.items flat.shape_ends.items

-- how many items each has
abbrev pub shape_counts : {F : Type 0} → ShapeLists F → ShapeCounts
shape_counts lists = record {
  points = length lists.points;
  contours = length lists.contour_ends;
  shapes = length lists.shape_ends;
}

-- each list fits its room
pub record DoShapesFit {F : Type 0} (lists room : ShapeLists F) : Type 0 where
  pub points : length lists.points ≤ length room.points
  pub contours : length lists.contour_ends ≤ length room.contour_ends
  pub shapes : length lists.shape_ends ≤ length room.shape_ends

-- what a room holds after lists were put to its beginnings
abbrev pub with_shapes : {F : Type 0} → ShapeLists F → ShapeLists F → ShapeLists F
with_shapes lists room =
    shape_lists (overwritten lists.points room.points) (overwritten lists.contour_ends room.contour_ends)
    (overwritten lists.shape_ends room.shape_ends)

-- the room for shapes, and for how many items each list has
pub record ShapeRoom (F : Type 0) : Type 0 where
  pub lists : ShapeLists F
  pub counts : ShapeCounts

abbrev pub shape_room : {F : Type 0} → List F → List ℕ → List ℕ → ShapeCounts → ShapeRoom F
shape_room points contours shapes counts = record { lists = shape_lists points contours shapes; counts = counts }

-- shapes are put into their room, where they fit, and how many items they have is told
pub record LeavesShapes {F : Type 0} (flat : FlatShapes F) (old new : ShapeRoom F) (ended : Outcome) : Type 0 where
  pub put : IsPut DoShapesFit with_shapes (lists_of flat) old.lists new.lists ended
  pub told : new.counts ≡ shape_counts (lists_of flat)

-- a call for the shapes of the drawing that `asks` names, with these options, in coordinates of a type with `unit`
abbrev pub TellsShapes : ℕ → (Drawn → Type 0) → FlatOptions → ShapeRoom (List ℤ) → ShapeRoom (List ℤ) → ℕ → Type 0
TellsShapes unit asks options old new code =
    Draws asks (λ read ended. TellsAnswer (IsShapesAnswer unit whole_point options read) LeavesShapes old new ended) code

-- the room for shapes and their nearness
pub record NearRoom (F : Type 0) : Type 0 where
  pub shapes : ShapeRoom F
  pub nearness : ℕ

abbrev pub near_room : {F : Type 0} → List F → List ℕ → List ℕ → ShapeCounts → ℕ → NearRoom F
near_room points contours shapes counts nearness =
    record { shapes = shape_room points contours shapes counts; nearness = nearness }

-- the same of shapes, and the nearness is told
pub record LeavesNear {F : Type 0} (near : NearFlatShapes F) (old new : NearRoom F) (ended : Outcome) : Type 0 where
  pub shapes : LeavesShapes near.shapes old.shapes new.shapes ended
  pub nearness : new.nearness ≡ near.nearness

-- the same of a call for shapes and their nearness, by at most so many splits
abbrev pub TellsNear : ℕ → (Drawn → Type 0) → FlatOptions → ℕ → NearRoom (List ℤ) → NearRoom (List ℤ) → ℕ → Type 0
TellsNear unit asks options most old new code =
    Draws asks (λ read ended. TellsAnswer (IsNearAnswer unit whole_point options most read) LeavesNear old new ended)
    code
