use Rattle.std.proofs.Common.{arith}
use Rattle.mesh_store.proofs.Listing.{part_more, part_end}
use Rattle.mesh_store.proofs.tree.in_part.Goals as goal

pub loop-e-preserved : goal.loop-e-preserved
loop-e-preserved c = part_more c.args.s c.args.listed.now c.args.live.now c.loop-e.e-index _ c.loop-e-test.true c.loop-e.invariant c.in_default.ensures

pub returns : goal.returns
returns c = part_end c.args.s c.args.listed.now c.args.live.now (λ k h. c.loop-e.invariant k (omega (arith, c.loop-e-test.false)))
