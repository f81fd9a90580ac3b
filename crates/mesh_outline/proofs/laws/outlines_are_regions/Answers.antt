-- Outlines are regions.
use Rattle.mesh_outline.proofs.Regions.{regions_of_outline}
use Rattle.mesh_outline.proofs.laws.outlines_are_regions.Goals as goal

pub returns : goal.returns
returns c unit least style choices contours answer outline =
    regions_of_outline unit least style choices contours answer outline
