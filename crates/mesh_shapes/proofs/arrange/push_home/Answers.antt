use Rattle.mesh_shapes.proofs.Shapes.{put_home, put_at_home}
use Rattle.mesh_shapes.proofs.arrange.push_home.Goals as goal

pub returns-then-homes-i : goal.returns-then-homes-i
returns-then-homes-i c = put_at_home c.args.members.now.items c.args.i _ c.if-homes-i.true

pub returns : goal.returns
returns c = put_home c.args.members.now.items c.push_to.new.lists.items c.args.i _ c.if-homes-i.false c.push_to.ensures.len c.in_ok-push_to.ensures.at c.push_to.ensures.others
