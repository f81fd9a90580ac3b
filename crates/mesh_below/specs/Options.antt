-- Options of the overlay, as the choices that an answer depends on.
use Rattle.std.specs.Prelude.{ℕ, Bool, true, false}
use Rattle.mesh_below.specs.declared.below.ContourDirection.{ContourDirection}
use Rattle.mesh_below.specs.declared.below.ContourDirection.TheVariants.{CounterClockwise, Clockwise}
use Rattle.mesh_below.specs.declared.below.IntOverlayOptions.{IntOverlayOptions}
use Rattle.mesh_below.specs.declared.resolve.Choices as resolving
use Rattle.mesh_shapes.specs.Resolution.{Choices}

-- whether contours run clockwise
abbrev pub is_clockwise : ContourDirection → Bool
is_clockwise CounterClockwise = false
is_clockwise Clockwise = true

-- the choices that options stand for, where `value` is the whole number that an area stands for
abbrev pub choices_of : {U : Type 0} → (U → ℕ) → IntOverlayOptions U → Choices
choices_of value options = record {
  least_area = value options.min_output_area;
  all_vertices = options.preserve_output_collinear;
  clockwise = is_clockwise options.output_direction;
}

-- the choices that a resolving is given
abbrev pub chosen : resolving.Choices → Choices
chosen c = record { least_area = c.least_area; all_vertices = c.all_vertices; clockwise = c.clockwise }

-- the default options: no least area, no straight-through vertices, counterclockwise
abbrev pub plain : Choices
plain = record { least_area = 0; all_vertices = false; clockwise = false }
