-- The coordinates of a point, widened.
use Rattle.std.proofs.Common.{◌∙◌}
use Rattle.mesh_join.proofs.Wide.{pair_read, pair_narrow}
use Rattle.mesh_join.proofs.joint.coordinates.Goals as goal

pub returns-clause-value : goal.returns-clause-value
returns-clause-value g c =
    pair_read c.widen.result c.widen-2.result c.args.point c.widen.ensures.small c.widen-2.ensures.small
    ((λ i. (c.widen.ensures.value i, c.widen-2.ensures.value i)) ∙ c.point.view_is)

pub returns-clause-narrow : goal.returns-clause-narrow
returns-clause-narrow g c =
    pair_narrow c.widen.result c.widen-2.result c.widen.ensures.small c.widen-2.ensures.small
