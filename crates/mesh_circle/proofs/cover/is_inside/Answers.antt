-- Two sides and two more.
use Rattle.std.proofs.lemmas.Int.{to_z-of_z}
use mir.Syntax.{w128}
use Rattle.mesh_circle.specs.Sections.{keeps_inside}
use Rattle.mesh_circle.proofs.Covers.{sides_both, sides_none}
use Rattle.mesh_circle.proofs.cover.is_inside.Goals as goal

pub returns-then-keeps_inside_both : goal.returns-then-keeps_inside_both
returns-then-keeps_inside_both g c =
    let t = to_z-of_z w128 c.args.turn c.ranges.turn in
    sides_both (keeps_inside c.args.turn c.args.circle) c.args.first c.args.second c.args.third c.args.fourth
    c.keeps_inside_both.result c.keeps_inside_both-then-keeps_inside_both.result
    (rw t at c.keeps_inside_both.ensures) (rw t at c.keeps_inside_both-then-keeps_inside_both.ensures)
    c.if-keeps_inside_both.true

pub returns-else-keeps_inside_both : goal.returns-else-keeps_inside_both
returns-else-keeps_inside_both g c =
    let t = to_z-of_z w128 c.args.turn c.ranges.turn in
    sides_none (keeps_inside c.args.turn c.args.circle) c.args.first c.args.second c.args.third c.args.fourth
    c.keeps_inside_both.result
    (rw t at c.keeps_inside_both.ensures) c.if-keeps_inside_both.false
