-- Strokes are regions.
use Rattle.mesh_stroke.proofs.Regions.{stroke_regions}
use Rattle.mesh_stroke.proofs.laws.strokes_are_regions.Goals as goal

pub returns : goal.returns
returns c unit least style closed choices paths answer stroke =
    stroke_regions unit least style closed choices paths answer stroke
