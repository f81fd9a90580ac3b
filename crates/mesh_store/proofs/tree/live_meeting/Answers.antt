use Rattle.std.proofs.Common.{◌∙◌, sym, arith}
use Rattle.std.proofs.lemmas.Int.{ints}
use Rattle.mesh_store.proofs.Apart.{apart_clear}
use Rattle.mesh_store.proofs.tree.live_meeting.Goals as goal

pub returns-then-is_beside : goal.returns-then-is_beside
returns-then-is_beside c = λ lives. apart_clear c.args.bounds c.args.s c.args.e c.requires (sym c.is_beside.ensures ∙ c.if-is_beside.true)

pub returns-then-has : goal.returns-then-has
returns-then-has c = (c.in-Some.ensures, c.has.ensures.yes c.if-has.true)

pub returns : goal.returns
returns c = λ lives. absurd (omega (arith, ints, lives, c.has.ensures.no c.if-has.false))
