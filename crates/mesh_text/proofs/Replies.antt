-- Lemmas over requests: the failure in place of an answer is a reply.
use Rattle.std.proofs.Common.{ℕ, List, Err}
use Rattle.mesh_offset.specs.declared.error.IntOutlineError.TheVariants.{CoordinateOutOfRange, OutOfMemory}
use Rattle.mesh_request.specs.Failures.{failure_line}
use Rattle.mesh_request.specs.declared.failure.Failure.{Failure}
use Rattle.mesh_request.specs.declared.failure.Failure.TheVariants.{Unreadable, Refused}
use Rattle.mesh_service.specs.Serving.{IsResponse}
use Rattle.mesh_text.specs.Replies.{IsReplyTo, outcome_of}

pub failure_replies : (Answers : List ℕ → Type 0) (request : List ℕ) (failure : Failure) → IsResponse request (Err failure) → IsReplyTo Answers request (failure_line failure) (outcome_of failure)
failure_replies Answers request Unreadable told = IsReplyTo.no_request told
failure_replies Answers request (Refused CoordinateOutOfRange) told = IsReplyTo.refusal told
failure_replies Answers request (Refused OutOfMemory) told = IsReplyTo.no_memory told
