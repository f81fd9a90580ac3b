use Rattle.mesh_num.proofs.Roots.{raised_root_exact, raised_root_next}
use Rattle.mesh_num.proofs.num.root.raised_root.Goals as goal

pub returns-then-root-number-clause-value : goal.returns-then-root-number-clause-value
returns-then-root-number-clause-value c =
    raised_root_exact c.args.number c.isqrt-root.result c.isqrt-root.ensures.square_le c.isqrt-root.ensures.next_square_gt
    c.if-root-number.true

pub returns-else-root-number-clause-value : goal.returns-else-root-number-clause-value
returns-else-root-number-clause-value c =
    raised_root_next c.args.number c.isqrt-root.result c.isqrt-root.ensures.square_le c.isqrt-root.ensures.next_square_gt
    c.if-root-number.false
