use Rattle.std.proofs.lemmas.Int.{to_z-of_z}
use mir.Syntax.{w32}
use Rattle.mesh_lattice.proofs.exact.are_ranges_apart.Goals as goal

pub returns-then-is_range_below : goal.returns-then-is_range_below
returns-then-is_range_below c =
    let a = to_z-of_z w32 c.args.a c.ranges.a in
    let b = to_z-of_z w32 c.args.b c.ranges.b in
    let p = to_z-of_z w32 c.args.p c.ranges.p in
    let r = to_z-of_z w32 c.args.r c.ranges.r in
    let below = simp (a, b, p, r) at c.is_range_below.ensures in
    λ _. below c.if-is_range_below.true

pub returns : goal.returns
returns c =
    let a = to_z-of_z w32 c.args.a c.ranges.a in
    let b = to_z-of_z w32 c.args.b c.ranges.b in
    let p = to_z-of_z w32 c.args.p c.ranges.p in
    let r = to_z-of_z w32 c.args.r c.ranges.r in
    let below = simp (a, b, p, r) at c.is_range_below-2.ensures in
    λ t z x y. below t z y x
