-- What is asked is drawn, and what is drawn is listed.
use Rattle.std.proofs.Common.{Err, ap, sym}
use Rattle.mesh_service.proofs.Requested.{answered_as, given_up_as}
use Rattle.mesh_service.proofs.line.drawn_line.Goals as goal

pub answer_line-requires : goal.answer_line-requires
answer_line-requires g c = c.in_ok-answer.ensures.accepted.safe

pub returns-clause-answered : goal.returns-clause-answered
returns-clause-answered g c =
    rw (sym c.request.view_is)
    (answered_as c.args.telling _ g.I.IntNumber.unit g.I.WideUInt.WideUnsigned.value _ c.request.inside.output c.request.inside.distances c.in_ok-answer.answer _
    c.in_ok-answer.ensures.accepted (rw c.asked_with-asked.ensures at c.in_ok-answer.ensures.drawn) (rw c.is_told.ensures at c.in_ok-answer_line.ensures))

pub returns-in_err-answer-clause-given_up : goal.returns-in_err-answer-clause-given_up
returns-in_err-answer-clause-given_up g c h =
    let e = rw h at c.from_residual.ensures.1 in
    rw (sym c.request.view_is)
    (given_up_as c.args.telling g.I.IntNumber.unit g.I.WideUInt.WideUnsigned.value _ c.request.inside.output c.request.inside.distances
    (rw c.asked_with-asked.ensures at (c.in_err-answer.ensures.past (ap Err (sym e)))))
