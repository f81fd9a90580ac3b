-- One net after another.
use Rattle.std.proofs.Common.{◌+◌, ◌*◌, arith}
use Rattle.mesh_nets.proofs.Listing.{all_decided}
use Rattle.mesh_nets.proofs.Outlined.{nets_count, nets_in}
use Rattle.mesh_nets.proofs.nets.clearances.Goals as goal

pub returns : goal.returns
returns g c =
    let count = nets_count c.args.nets.now in
    all_decided (nets_in c.args.nets.now) (c.args.distance * c.args.distance) c.loop-first.first (c.loop-first.first + 1) c.loop-first.found.items (omega arith) c.loop-first.invariant
