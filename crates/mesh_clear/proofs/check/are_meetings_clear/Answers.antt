use Rattle.std.proofs.Common.{List, arith, subst, take_all}
use Rattle.std.specs.List.{All}
use Rattle.std.proofs.lemmas.List.Elements.{All-more}
use Rattle.mesh_pairs.specs.declared.pairs.Meeting.{Meeting}
use Rattle.mesh_clear.specs.Private.Looking.{IsClearMeeting}
use Rattle.mesh_clear.proofs.check.are_meetings_clear.Goals as goal

pub loop-m-preserved : goal.loop-m-preserved
loop-m-preserved c =
    All-more (IsClearMeeting c.args.paths.now) c.args.meetings.now c.loop-m.m-index _ (omega (arith, c.loop-m-test.true)) c.loop-m.invariant
    (c.is_next_clear.ensures c.if-not-is_next_clear.false)

pub returns : goal.returns
returns c = λ _.
    subst (λ (ms : List Meeting). All (IsClearMeeting c.args.paths.now) ms) (take_all c.loop-m.m-index c.args.meetings.now (omega (arith, c.loop-m-test.false))) c.loop-m.invariant
