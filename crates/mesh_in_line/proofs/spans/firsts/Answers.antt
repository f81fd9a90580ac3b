use Rattle.std.proofs.Common.{refl}
use Rattle.mesh_in_line.specs.Private.Lines.{span_at}
use Rattle.mesh_in_line.proofs.Placed.{firsts_lowered}
use Rattle.mesh_in_line.proofs.spans.firsts.Goals as goal

pub loop-s-preserved : goal.loop-s-preserved
loop-s-preserved c =
    firsts_lowered c.args.spans.now c.args.places c.loop-s.s-index (span_at c.args.spans.now c.loop-s.s-index) c.loop-s.firsts.items c.lower.new.firsts.items
    c.loop-s-test.true refl (c.requires c.loop-s.s-index c.loop-s-test.true) c.loop-s.invariant c.lower.ensures.along c.lower.ensures.beside
