-- By the order of the two ends.
use Rattle.std.proofs.lemmas.Int.{to_z-of_z}
use mir.Syntax.{w32}
use Rattle.mesh_lattice.proofs.Arithmetic.{between_down, between_up}
use Rattle.mesh_meeting.proofs.meeting.is_between.Goals as goal

pub returns-then-b-a : goal.returns-then-b-a
returns-then-b-a c =
    let a = to_z-of_z w32 c.args.a c.ranges.a in
    let z = to_z-of_z w32 c.args.z c.ranges.z in
    let b = to_z-of_z w32 c.args.b c.ranges.b in
    between_down c.is_in_range.result c.args.a c.args.z c.args.b (rw (b, a) at c.if-b-a.true) (rw (b, z, a) at c.is_in_range.ensures)

pub returns : goal.returns
returns c =
    let a = to_z-of_z w32 c.args.a c.ranges.a in
    let z = to_z-of_z w32 c.args.z c.ranges.z in
    let b = to_z-of_z w32 c.args.b c.ranges.b in
    between_up c.is_in_range-2.result c.args.a c.args.z c.args.b (rw (b, a) at c.if-b-a.false) (rw (a, z, b) at c.is_in_range-2.ensures)
