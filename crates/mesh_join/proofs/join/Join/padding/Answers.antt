-- The padding of each kind covers the radius.
use Rattle.mesh_join.proofs.Joins.{padding_covers}
use Rattle.mesh_join.specs.declared.style.IntLineJoin.TheVariants.{Miter}
use Rattle.mesh_join.proofs.join.Join.padding.Goals as goal

pub returns-in-Miter-clause-covers : goal.returns-in-Miter-clause-covers
returns-in-Miter-clause-covers g c =
    rw c.padding-in-Miter.ensures (padding_covers (record { kind = Miter c.in-Miter.angle; min_turn = 0 }) (g.I.IntNumber.value c.args.radius))
