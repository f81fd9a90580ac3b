-- To the right the cross product counts the other way round.
use Rattle.std.proofs.Common.{◌∙◌, arith}
use Rattle.std.proofs.lemmas.Int.{ints, to_z-of_z}
use mir.Syntax.{w128}
use Rattle.mesh_arc.proofs.Ahead.{ahead_clockwise}
use Rattle.mesh_arc.proofs.steps.ahead.Goals as goal

pub returns-in-Clockwise-clause-value : goal.returns-in-Clockwise-clause-value
returns-in-Clockwise-clause-value g c =
    rw (to_z-of_z w128 c.cross-cross.result (record { sfits = c.cross-cross.type_inv }))
    (to_z-of_z w128 _ (omega (arith, ints, c.cross-cross.ensures.size))
    ∙ ahead_clockwise c.args.sense c.args.v c.args.w c.cross-cross.result c.in-Clockwise.is
    c.cross-cross.ensures.value)
