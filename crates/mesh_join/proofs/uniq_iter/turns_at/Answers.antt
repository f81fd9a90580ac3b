use Rattle.mesh_join.proofs.CleaningVectors.{minus_safe}
use Rattle.mesh_join.proofs.uniq_iter.turns_at.Goals as goal

pub cross_product-cross-requires-clause-own : goal.cross_product-cross-requires-clause-own
cross_product-cross-requires-clause-own g c = minus_safe g.I.IntNumber.unit c.args.p1 c.args.p0 c.sub-back.result c.sub-back.ensures c.requires.middle c.requires.first

pub cross_product-cross-requires-clause-other : goal.cross_product-cross-requires-clause-other
cross_product-cross-requires-clause-other g c = minus_safe g.I.IntNumber.unit c.args.p1 c.args.p2 c.sub-on.result c.sub-on.ensures c.requires.middle c.requires.last

pub dot_product-requires-clause-own : goal.dot_product-requires-clause-own
dot_product-requires-clause-own g c = minus_safe g.I.IntNumber.unit c.args.p1 c.args.p0 c.sub-back.result c.sub-back.ensures c.requires.middle c.requires.first

pub dot_product-requires-clause-other : goal.dot_product-requires-clause-other
dot_product-requires-clause-other g c = minus_safe g.I.IntNumber.unit c.args.p1 c.args.p2 c.sub-on.result c.sub-on.ensures c.requires.middle c.requires.last
