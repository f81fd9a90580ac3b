-- No edge is bent on the way.
use Rattle.mesh_outline.proofs.Exact.{exact_outline}
use Rattle.mesh_outline.proofs.laws.outlines_are_exact.Goals as goal

pub returns : goal.returns
returns c unit least style choices contours answer made meet =
    exact_outline unit least style choices contours answer made meet
