use Rattle.mesh_in_line.specs.Private.Lines.{point_at}
use Rattle.mesh_in_line.proofs.Placed.{onward_more}
use Rattle.mesh_in_line.proofs.in_line.push_forth.Goals as goal

pub loop-k-preserved : goal.loop-k-preserved
loop-k-preserved c =
    onward_more (point_at c.args.level c.args.places.now) c.args.s.from c.loop-k.k c.args.cut.now.items c.loop-k.cut.items c.push.new.self.items c.turned-start.result c.turned-end.result
    c.loop-k.invariant c.in_ok-push.ensures.items c.turned-start.ensures c.turned-end.ensures
