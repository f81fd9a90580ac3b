use Rattle.std.proofs.Common.{arith}
use Rattle.mesh_in_line.specs.Private.Lines.{point_at}
use Rattle.mesh_in_line.proofs.Placed.{backward_more}
use Rattle.mesh_in_line.proofs.in_line.push_back.Goals as goal

pub loop-k-preserved : goal.loop-k-preserved
loop-k-preserved c =
    backward_more (point_at c.args.level c.args.places.now) c.args.s.to c.loop-k.k c.args.cut.now.items c.loop-k.cut.items c.push.new.self.items c.turned-start.result c.turned-end.result
    (omega arith) c.loop-k.invariant c.in_ok-push.ensures.items c.turned-start.ensures c.turned-end.ensures
