-- Drawings as regions. Coordinates are of a type with `unit`.
use Rattle.std.specs.Prelude.{ℕ, List}
use Rattle.mesh_plane.specs.Plane.{Point}
use Rattle.mesh_shapes.specs.Resolution.{Choices}
use Rattle.mesh_outline.specs.Regions.{AreOutlineRegions}
use Rattle.mesh_stroke.specs.Regions.{AreStrokeRegions}
use Rattle.mesh_variable_stroke.specs.Regions.{AreVariableStrokeRegions}
use Rattle.mesh_drawing.specs.Drawn.{Drawn, as_outline, as_stroke, as_variable_stroke}

-- the shapes of what is drawn, with these choices, made of regions
abbrev pub AreRegionsOf : ℕ → Choices → Drawn → List (List (List Point)) → Type 0
AreRegionsOf unit choices (as_outline style paths) shapes = AreOutlineRegions unit style choices paths shapes
AreRegionsOf unit choices (as_stroke style closed paths) shapes =
    AreStrokeRegions unit style closed choices paths shapes
AreRegionsOf unit choices (as_variable_stroke options paths) shapes =
    AreVariableStrokeRegions unit options choices paths shapes
