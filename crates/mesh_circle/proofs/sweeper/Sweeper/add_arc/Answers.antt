-- What holds of each arc.
use Rattle.std.proofs.Common.{arith}
use Rattle.mesh_circle.proofs.Nearness.{arc_within}
use Rattle.mesh_circle.proofs.Sums.{arc_adds_up}
use Rattle.mesh_circle.proofs.sweeper.Sweeper.add_arc.Goals as goal

pub returns-clause-near : goal.returns-clause-near
returns-clause-near g c reach =
    let least = g.met.I.IntNumber.least_law in
    arc_within g.I.IntNumber.unit c.args.self.now c.args.center c.args.from c.args.to c.args.aligned reach
    (omega (arith, least))

pub returns-clause-sum : goal.returns-clause-sum
returns-clause-sum g c =
    arc_adds_up g.I.IntNumber.unit c.args.self.now c.args.center c.args.from c.args.to c.args.aligned
