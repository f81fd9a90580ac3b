-- One net after another.
use Rattle.std.proofs.Common.{◌≡◌, length, subst, arith}
use Rattle.mesh_nets.specs.Private.Outlines.{AreOutlines}
use Rattle.mesh_nets.proofs.Outlined.{nets_in, no_outlines, outlines_more}
use Rattle.mesh_nets.proofs.outlines.outlines_of.Goals as goal

pub loop-net-init : goal.loop-net-init
loop-net-init g c = no_outlines (nets_in c.args.nets.now) c.new-outlines.result.items c.new-outlines.ensures.items

pub loop-net-preserved : goal.loop-net-preserved
loop-net-preserved g c =
    outlines_more c.args.nets.now c.loop-net.net-index c.net-item.result c.loop-net.outlines.items c.push.new.self.items c.in_ok-outline_of.field-0 c.loop-net-test.true c.net-item.is c.loop-net.invariant
    c.in_ok-outline_of.ensures c.in_ok-push.ensures.items

pub returns : goal.returns
returns g c =
    let up : c.loop-net.net-index ≡ length c.args.nets.now = omega arith in
    subst (λ n. AreOutlines (nets_in c.args.nets.now) n c.loop-net.outlines.items) up c.loop-net.invariant
