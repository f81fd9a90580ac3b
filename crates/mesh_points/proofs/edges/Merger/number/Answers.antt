use Rattle.mesh_points.proofs.Merging.{filed_numbered}
use Rattle.mesh_points.proofs.edges.Merger.number.Goals as goal

pub returns-in_ok-push-clause-merged : goal.returns-in_ok-push-clause-merged
returns-in_ok-push-clause-merged c =
    filed_numbered c.args.self.now.list.items c.args.self.now.points c.number.new.self c.args.self.now.last.items c.push.new.self.items c.args.self.now.before.items c.args.p c.requires
    (c.in_ok-numbered.ensures.new c.if-numbered.true) c.number.ensures.distinct c.in_ok-push.ensures.items
