use Rattle.std.proofs.Common.{inl, refl, arith}
use Rattle.mesh_pairs.specs.Pairs.{is_meeting}
use Rattle.mesh_pairs.proofs.Listing.{rooms_low}
use Rattle.mesh_pairs.proofs.pairs.Pairs.note_crossing.Goals as goal

pub note-requires-clause-room : goal.note-requires-clause-room
note-requires-clause-room c = rooms_low c.args.edges.now c.args.self.now c.requires.listed

pub returns-clause-listed : goal.returns-clause-listed
returns-clause-listed c =
    c.in_ok-note.ensures.listed c.args.edges.now c.requires.listed
    (record { first = omega arith; second = c.requires.within; two = λ e. omega arith; met = inl (refl, c.requires.cross) })

pub returns-clause-settled : goal.returns-clause-settled
returns-clause-settled c = is_meeting c.in_ok-note.ensures.noted (inl (refl, refl))
