use Rattle.std.proofs.Common.{arith}
use Rattle.mesh_clear.proofs.check.is_pair_clear.Goals as goal

pub are_parted-requires-clause-first_bent : goal.are_parted-requires-clause-first_bent
are_parted-requires-clause-first_bent c =
    c.requires.bends.bent c.args.pair.0 (omega (arith, c.requires.pair.rising, c.requires.pair.within, c.requires.bends.fit.paths.filed.count))
