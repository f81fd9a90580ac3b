use Rattle.mesh_pairs.proofs.Listing.{grows_all, settled_kept}
use Rattle.mesh_pairs.proofs.pairs.Pairs.note_ends_of.Goals as goal

pub returns-then-starts-clause-grows : goal.returns-then-starts-clause-grows
returns-then-starts-clause-grows c = grows_all c.args.self.now c.note_end.new.self c.note_end-2.new.self c.in_ok-starts.ensures.grows c.in_ok-ends.ensures.grows

pub returns-then-starts-clause-settled : goal.returns-then-starts-clause-settled
returns-then-starts-clause-settled c = λ _.
    settled_kept c.args.edges.now c.note_end.new.self c.note_end-2.new.self c.args.i c.args.j c.in_ok-ends.ensures.grows (c.in_ok-starts.ensures.settled c.if-starts.true)

pub returns-then-starts-clause-turned : goal.returns-then-starts-clause-turned
returns-then-starts-clause-turned c = λ _.
    settled_kept c.args.edges.now c.note_end.new.self c.note_end-2.new.self c.args.j c.args.i c.in_ok-ends.ensures.grows (c.in_ok-starts.ensures.turned c.if-starts.true)

pub returns-clause-grows : goal.returns-clause-grows
returns-clause-grows c = grows_all c.args.self.now c.note_end.new.self c.note_end-2.new.self c.in_ok-starts.ensures.grows c.in_ok-ends.ensures.grows

pub returns-clause-settled : goal.returns-clause-settled
returns-clause-settled c = c.in_ok-ends.ensures.settled

pub returns-clause-turned : goal.returns-clause-turned
returns-clause-turned c = c.in_ok-ends.ensures.turned

pub returns-clause-starts : goal.returns-clause-starts
returns-clause-starts c = λ _. c.in_ok-starts.ensures.none c.if-starts.false

pub returns-clause-ends : goal.returns-clause-ends
returns-clause-ends c = c.in_ok-ends.ensures.none
