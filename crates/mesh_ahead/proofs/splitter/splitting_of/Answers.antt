use Rattle.mesh_ahead.proofs.ClearPaths.{splitting_of}
use Rattle.mesh_ahead.proofs.splitter.splitting_of.Goals as goal

pub returns-clause-splitting : goal.returns-clause-splitting
returns-clause-splitting c =
    splitting_of c.args.edges.now c.in-Some.cut.paths.splits c.in_ok-segments_of.field-0.items c.requires c.in_ok-segments_of.ensures.settled
