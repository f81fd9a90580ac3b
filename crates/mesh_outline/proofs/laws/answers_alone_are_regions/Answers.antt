-- The winding of what comes of one contour.
use Rattle.mesh_outline.proofs.Final.{alone_regions}
use Rattle.mesh_outline.proofs.laws.answers_alone_are_regions.Goals as goal

pub returns : goal.returns
returns c unit least style rule contour answer alone = alone_regions unit style rule contour answer least alone
