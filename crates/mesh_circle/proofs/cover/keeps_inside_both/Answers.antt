-- One side and one more.
use Rattle.std.proofs.lemmas.Int.{to_z-of_z}
use mir.Syntax.{w128}
use Rattle.mesh_circle.proofs.Covers.{pair_both, pair_none}
use Rattle.mesh_circle.proofs.cover.keeps_inside_both.Goals as goal

pub returns-then-keeps_inside : goal.returns-then-keeps_inside
returns-then-keeps_inside g c =
    let t = to_z-of_z w128 c.args.turn c.ranges.turn in
    pair_both _ _ _ _ (rw t at c.keeps_inside.ensures) (rw t at c.keeps_inside-then-keeps_inside.ensures)
    c.if-keeps_inside.true

pub returns-else-keeps_inside : goal.returns-else-keeps_inside
returns-else-keeps_inside g c =
    pair_none _ _ _ (rw (to_z-of_z w128 c.args.turn c.ranges.turn) at c.keeps_inside.ensures) c.if-keeps_inside.false
