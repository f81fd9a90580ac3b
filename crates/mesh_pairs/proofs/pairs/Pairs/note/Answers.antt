use Rattle.std.proofs.Common.{◌≡◌, ℕ, ◌+◌, List, get_or, set, ◌∙◌, ap, arith}
use Rattle.std.proofs.Math.ListN.{length-set}
use Rattle.std.proofs.lemmas.List.{get_or_read}
use Rattle.mesh_pairs.proofs.Listing.{noted_listed, raised}
use Rattle.mesh_pairs.proofs.pairs.Pairs.note.Goals as goal

pub returns-clause-listed : goal.returns-clause-listed
returns-clause-listed c = λ es listed is.
    let rooms : List ℕ = c.args.self.now.room.items in
    let a : ℕ = c.args.m.first in
    let b : ℕ = c.args.m.second in
    let x : ℕ = c.index_mut.result.now in
    let y : ℕ = c.index_mut-2.result.now in
    let x_is : x ≡ get_or rooms a 0 = get_or_read rooms a x c.requires.first c.index_mut.ensures.value 0 in
    let y_is : y ≡ get_or (set rooms a (x + 1)) b 0 = get_or_read (set rooms a (x + 1)) b y (omega (arith, c.requires.second, length-set rooms a (x + 1))) c.index_mut-2.ensures.value 0 in
    let room : set (set rooms a (x + 1)) b (y + 1) ≡ raised rooms a b = ap (λ (n : ℕ). set (set rooms a (x + 1)) b (n + 1)) y_is ∙ ap (λ (n : ℕ). set (set rooms a (n + 1)) b (get_or (set rooms a (n + 1)) b 0 + 1)) x_is in
    noted_listed es c.args.self.now _ c.args.m (record { meetings = c.in_ok-push.ensures.items; close = λ _. c.args.self.now.close; room = room }) listed is
