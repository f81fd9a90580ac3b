use Rattle.std.proofs.Common.{sym, ◌∙◌}
use Rattle.std.proofs.lemmas.Bool.{false≢true}
use Rattle.mesh_lattice.proofs.Meeting.{clear_of_tests}
use Rattle.mesh_pairs.specs.Pairs.{ends_at, is_close, share_end}
use Rattle.mesh_pairs.proofs.Listing.{grows_all}
use Rattle.mesh_pairs.proofs.pairs.Pairs.judge_ends.Goals as goal

pub returns-then-share_end-clause-settled : goal.returns-then-share_end-clause-settled
returns-then-share_end-clause-settled c =
    let none = c.in_ok-met.ensures.none c.if-met.false in
    share_end (c.share_end.ensures.0 c.if-share_end.true)
    (clear_of_tests (ends_at c.args.edges.now c.args.i) (ends_at c.args.edges.now c.args.j) none.starts none.ends none.begins none.stops c.requires.apart)

pub returns-clause-listed : goal.returns-clause-listed
returns-clause-listed c =
    let none = c.in_ok-met.ensures.none c.if-met.false in
    c.in_ok-note_close.ensures.listed c.args.edges.now c.in_ok-met.ensures.listed
    (record {
      rising = c.requires.rising;
      within = c.requires.within;
      clear = clear_of_tests (ends_at c.args.edges.now c.args.i) (ends_at c.args.edges.now c.args.j) none.starts none.ends none.begins none.stops c.requires.apart;
      unshared = λ h. false≢true (sym c.if-share_end.false ∙ c.share_end.ensures.1 h);
    })

pub returns-clause-grows : goal.returns-clause-grows
returns-clause-grows c = grows_all c.args.self.now c.note_ends.new.self c.note_close.new.self c.in_ok-met.ensures.grows c.in_ok-note_close.ensures.grows

pub returns-clause-settled : goal.returns-clause-settled
returns-clause-settled c = is_close c.in_ok-note_close.ensures.noted

pub returns-then-met-clause-settled : goal.returns-then-met-clause-settled
returns-then-met-clause-settled c = c.in_ok-met.ensures.some c.if-met.true
