-- What holds of each circle.
use Rattle.std.proofs.Common.{arith}
use Rattle.std.proofs.lemmas.Int.{ints}
use Rattle.mesh_circle.proofs.Nearness.{circle_within}
use Rattle.mesh_circle.proofs.Sums.{circle_adds_up}
use Rattle.mesh_circle.proofs.sweeper.Sweeper.add_circle.Goals as goal

pub returns-clause-near : goal.returns-clause-near
returns-clause-near g c =
    let least = g.met.I.IntNumber.least_law in
    circle_within g.I.IntNumber.unit c.args.self.now c.args.center (g.I.IntNumber.value c.args.radius)
    (g.I.IntNumber.value c.args.radius) (omega (arith, least)) (omega (arith, ints))

pub returns-clause-sum : goal.returns-clause-sum
returns-clause-sum g c =
    circle_adds_up g.I.IntNumber.unit c.args.self.now c.args.center (g.I.IntNumber.value c.args.radius)
