use Rattle.std.proofs.Common.{ap}
use Rattle.std.specs.Prelude.{ℤ}
use Rattle.mesh_pairs.proofs.Listing.{grows_all, settled_kept}
use Rattle.mesh_pairs.proofs.pairs.Pairs.note_ends.Goals as goal

pub note_ends_of-requires-clause-starts : goal.note_ends_of-requires-clause-starts
note_ends_of-requires-clause-starts c = ap (λ (s : ℤ × ℤ). s.0) c.requires.sides.second

pub note_ends_of-requires-clause-ends : goal.note_ends_of-requires-clause-ends
note_ends_of-requires-clause-ends c = ap (λ (s : ℤ × ℤ). s.1) c.requires.sides.second

pub note_ends_of-requires-2-clause-starts : goal.note_ends_of-requires-2-clause-starts
note_ends_of-requires-2-clause-starts c = ap (λ (s : ℤ × ℤ). s.0) c.requires.sides.first

pub note_ends_of-requires-2-clause-ends : goal.note_ends_of-requires-2-clause-ends
note_ends_of-requires-2-clause-ends c = ap (λ (s : ℤ × ℤ). s.1) c.requires.sides.first

pub returns-then-second-clause-grows : goal.returns-then-second-clause-grows
returns-then-second-clause-grows c = grows_all c.args.self.now c.note_ends_of.new.self c.note_ends_of-2.new.self c.in_ok-second.ensures.grows c.in_ok-first.ensures.grows

pub returns-then-second-clause-some : goal.returns-then-second-clause-some
returns-then-second-clause-some c = λ _.
    settled_kept c.args.edges.now c.note_ends_of.new.self c.note_ends_of-2.new.self c.args.i c.args.j c.in_ok-first.ensures.grows (c.in_ok-second.ensures.settled c.if-second.true)

pub returns-clause-grows : goal.returns-clause-grows
returns-clause-grows c = grows_all c.args.self.now c.note_ends_of.new.self c.note_ends_of-2.new.self c.in_ok-second.ensures.grows c.in_ok-first.ensures.grows

pub returns-clause-some : goal.returns-clause-some
returns-clause-some c = c.in_ok-first.ensures.turned

pub returns-clause-none : goal.returns-clause-none
returns-clause-none c = λ f. record {
  starts = c.in_ok-second.ensures.starts c.if-second.false;
  ends = c.in_ok-second.ensures.ends c.if-second.false;
  begins = c.in_ok-first.ensures.starts f;
  stops = c.in_ok-first.ensures.ends f;
}
