use Rattle.std.proofs.Common.{lit≤, ◌^◌}
use Rattle.mesh_lattice.proofs.Arithmetic.{small_kept}
use Rattle.mesh_clearance.proofs.Boxed.{gap_kept}
use Rattle.mesh_clearance.proofs.boxes.shortest.Goals as goal

pub returns-clause-x : goal.returns-clause-x
returns-clause-x c =
    gap_kept c.args.least.0 c.args.most.0 c.gap.result _ _ _ (small_kept (2 ^ 32) c.args.least.0 (lit≤ tt) c.requires.least_small.x)
    (small_kept (2 ^ 32) c.args.most.0 (lit≤ tt) c.requires.most_small.x) (small_kept (2 ^ 32) c.gap.result (lit≤ tt) c.gap.ensures.size) c.gap.ensures.value

pub returns-clause-y : goal.returns-clause-y
returns-clause-y c =
    gap_kept c.args.least.1 c.args.most.1 c.gap-2.result _ _ _ (small_kept (2 ^ 32) c.args.least.1 (lit≤ tt) c.requires.least_small.y)
    (small_kept (2 ^ 32) c.args.most.1 (lit≤ tt) c.requires.most_small.y) (small_kept (2 ^ 32) c.gap-2.result (lit≤ tt) c.gap-2.ensures.size) c.gap-2.ensures.value
