use Rattle.mesh_pairs.proofs.PlaceSets.{later_after, later_kept, later_was}
use Rattle.mesh_pairs.proofs.places.after.Goals as goal

pub returns-clause-kept : goal.returns-clause-kept
returns-clause-kept c = λ k h place is. later_kept c.args.places c.args.place k h place is

pub returns-clause-left_out : goal.returns-clause-left_out
returns-clause-left_out c = λ k place is. later_after c.args.places c.args.place k c.requires.within place is

pub returns-clause-was : goal.returns-clause-was
returns-clause-was c = λ k place is. later_was c.args.places c.args.place k c.requires.within is
