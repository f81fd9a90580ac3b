-- What the service answers is the answer.
use Rattle.std.proofs.Common.{◌∙◌, ap, Err}
use Rattle.mesh_service.proofs.Requested.{request_has_bytes}
use Rattle.mesh_service.specs.Requested.{requested_by}
use Rattle.mesh_line_service.proofs.ReplyLemmas.{answered_plainly}
use Rattle.mesh_line_service.proofs.reply.plain_answer.Goals as goal

pub returns-in-Ok : goal.returns-in-Ok
returns-in-Ok c line read =
    answered_plainly c.args.options line c.args.request.now c.in-Ok.answer c.requires.limit c.requires.nearness read c.in-Ok.ensures.answered

pub returns-in-Err-CoordinateOutOfRange : goal.returns-in-Err-CoordinateOutOfRange
returns-in-Err-CoordinateOutOfRange c line read = record {
  utf8 = read.0;
  request = requested_by c.args.request.now;
  requested = read.1;
  refused = c.answer_request.ensures.refused.0 (c.in-Err-CoordinateOutOfRange.is ∙ ap Err c.in-Err-CoordinateOutOfRange.field-0-is);
}

pub returns-in-Err-OutOfMemory : goal.returns-in-Err-OutOfMemory
returns-in-Err-OutOfMemory c line read = request_has_bytes line (requested_by c.args.request.now) read.1
