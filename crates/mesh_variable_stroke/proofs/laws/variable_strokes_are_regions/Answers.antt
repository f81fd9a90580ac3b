-- Strokes are regions.
use Rattle.mesh_variable_stroke.proofs.Regions.{stroke_regions}
use Rattle.mesh_variable_stroke.proofs.laws.variable_strokes_are_regions.Goals as goal

pub returns : goal.returns
returns c unit options choices paths answer stroke = stroke_regions unit options choices paths answer stroke
