-- The quotient is at most one too great.
use Rattle.mesh_num.proofs.Roots.{share_bounded}
use Rattle.mesh_num.proofs.num.share.part_size.Goals as goal

pub returns-else-quotient-square-clause-bounded : goal.returns-else-quotient-square-clause-bounded
returns-else-quotient-square-clause-bounded c =
    share_bounded c.args.unit c.args.square c.args.size _ c.requires.length c.requires.size c.if-quotient-square.false
