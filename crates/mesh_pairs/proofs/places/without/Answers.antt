use Rattle.mesh_pairs.proofs.PlaceSets.{cleared_less, cleared_others}
use Rattle.mesh_pairs.proofs.places.without.Goals as goal

pub returns-clause-others : goal.returns-clause-others
returns-clause-others c = λ k h other. cleared_others c.args.places c.args.place k c.requires.within h other

pub returns-clause-less : goal.returns-clause-less
returns-clause-less c = cleared_less c.args.places c.args.place c.requires.within c.requires.was
