use Rattle.std.proofs.Common.{◌∙◌, ◌^◌, lit≤, arith}
use Rattle.std.proofs.lemmas.Int.{ints}
use Rattle.mesh_meeting.proofs.Kept.{small_kept}
use Rattle.mesh_check.proofs.BesideLines.{beside_of}
use Rattle.mesh_check.proofs.close.lies_beside.Goals as goal

pub are_beyond-requires-clause-least : goal.are_beyond-requires-clause-least
are_beyond-requires-clause-least c = omega (arith, ints, c.limit_of.ensures.few)

pub returns : goal.returns
returns c = λ t.
    beside_of c.args.units c.limit_of.result c.args.e c.args.f _ _ _ (omega (arith, ints, c.limit_of.ensures.few)) c.limit_of.ensures.value
    (small_kept (2 ^ 63) c.height-start.result (lit≤ tt) c.height-start.ensures.size ∙ c.height-start.ensures.value)
    (small_kept (2 ^ 63) c.height-end.result (lit≤ tt) c.height-end.ensures.size ∙ c.height-end.ensures.value)
    (c.are_beyond.ensures t)
