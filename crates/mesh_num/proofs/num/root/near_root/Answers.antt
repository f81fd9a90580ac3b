-- The root is at most one too great.
use Rattle.mesh_num.proofs.Roots.{near_within}
use Rattle.mesh_num.proofs.num.root.near_root.Goals as goal

pub returns-clause-near : goal.returns-clause-near
returns-clause-near c =
    near_within c.args.number c.short_root-root.result c.requires.large c.short_root-root.ensures.within
    c.short_root-root.ensures.above
