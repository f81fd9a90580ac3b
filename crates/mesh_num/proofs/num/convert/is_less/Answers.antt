use Rattle.mesh_num.proofs.Orders.{tells_less}
use Rattle.mesh_num.proofs.num.convert.is_less.Goals as goal

pub returns : goal.returns
returns g c =
    tells_less _ _ _ _ _ c.lt.ensures (g.met.I.Ord.matches_partial_cmp c.args.first c.args.second)
    (g.met.I.IntNumber.cmp_law c.args.first c.args.second)
