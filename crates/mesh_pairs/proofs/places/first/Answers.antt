use Rattle.mesh_pairs.proofs.PlaceSets.{first_in, first_within}
use Rattle.mesh_pairs.proofs.places.first.Goals as goal

pub returns-clause-within : goal.returns-clause-within
returns-clause-within c = first_within c.args.places c.requires.some c.requires.few

pub returns-clause-was : goal.returns-clause-was
returns-clause-was c = first_in c.args.places c.requires.some c.requires.few
