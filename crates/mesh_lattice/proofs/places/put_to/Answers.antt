use Rattle.std.proofs.Common.{arith}
use Rattle.mesh_lattice.proofs.PlacesAmong.{put_none, put_more, put_same}
use Rattle.mesh_lattice.proofs.places.put_to.Goals as goal

pub loop-i-init : goal.loop-i-init
loop-i-init g c = put_none c.args.lists.now.items c.args.first c.args.x

pub loop-i-preserved : goal.loop-i-preserved
loop-i-preserved g c =
    put_more c.args.lists.now.items c.loop-i.lists.items c.push_to.new.lists.items c.args.first c.loop-i.i c.args.x c.loop-i.invariant (omega arith) c.push_to.ensures.len c.in_ok-push_to.ensures.at c.push_to.ensures.others

pub returns-in_err-push_to-clause-some : goal.returns-in_err-push_to-clause-some
returns-in_err-push_to-clause-some g c =
    (c.loop-i.i, put_same c.args.lists.now.items c.loop-i.lists.items c.push_to.new.lists.items c.args.first c.loop-i.i c.args.x c.loop-i.invariant c.push_to.ensures.len c.in_err-push_to.ensures.err c.push_to.ensures.others)
