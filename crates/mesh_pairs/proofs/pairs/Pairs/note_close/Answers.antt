use Rattle.mesh_pairs.proofs.Listing.{closed_listed}
use Rattle.mesh_pairs.proofs.pairs.Pairs.note_close.Goals as goal

pub returns-clause-listed : goal.returns-clause-listed
returns-clause-listed c = λ es listed is.
    closed_listed es c.args.self.now _ (c.args.i, c.args.j) (record { meetings = λ _. c.args.self.now.meetings; close = c.in_ok-push.ensures.items; room = λ _. c.args.self.now.room }) listed is
