use Rattle.std.proofs.Common.{get_or}
use Rattle.mesh_in_line.specs.Private.Lines.{no_edge}
use Rattle.mesh_in_line.proofs.Along.{stands_at}
use Rattle.mesh_in_line.proofs.Placed.{ends_pushed}
use Rattle.mesh_in_line.proofs.places.ends.Goals as goal

pub loop-e-preserved : goal.loop-e-preserved
loop-e-preserved c =
    ends_pushed c.args.level c.args.edges.now (get_or c.args.edges.now c.loop-e.e-index no_edge) c.loop-e.ends.items c.push_ends.new.ends.items
    (stands_at c.args.edges.now c.loop-e.e-index no_edge c.loop-e-test.true) c.in_ok-push_ends.ensures c.loop-e.invariant
