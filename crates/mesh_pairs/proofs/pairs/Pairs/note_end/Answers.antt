use Rattle.std.proofs.Common.{inl, inr, refl}
use Rattle.mesh_pairs.specs.Pairs.{is_meeting}
use Rattle.mesh_pairs.proofs.Listing.{rooms_low}
use Rattle.mesh_pairs.proofs.pairs.Pairs.note_end.Goals as goal

pub note-requires-clause-room : goal.note-requires-clause-room
note-requires-clause-room c = rooms_low c.args.edges.now c.args.self.now c.requires.listed

pub returns-clause-listed : goal.returns-clause-listed
returns-clause-listed c =
    c.in_ok-note.ensures.listed c.args.edges.now c.requires.listed
    (record { first = c.requires.first; second = c.requires.second; two = c.requires.two; met = inr (c.requires.end, c.is_inside.ensures.0 c.if-not-is_inside.false) })

pub returns-clause-settled : goal.returns-clause-settled
returns-clause-settled c = λ _. is_meeting c.in_ok-note.ensures.noted (inl (refl, refl))

pub returns-clause-turned : goal.returns-clause-turned
returns-clause-turned c = λ _. is_meeting c.in_ok-note.ensures.noted (inr (refl, refl))
