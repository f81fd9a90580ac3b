use Rattle.std.proofs.Common.{lit<, ◌+◌, ◌^◌, rules}
use Rattle.std.specs.Prelude.{◌-ℤ◌}
use Rattle.std.proofs.lemmas.Int.{to_z-of_z}
use mir.Syntax.{w32}
use mir.Val.{SFits}
use Rattle.mesh_plane.proofs.Sizes.{difference_size}
use Rattle.mesh_shapes.proofs.AreaSums.{fits_long}
use Rattle.mesh_shapes.proofs.area.area_of.Goals as goal

pub returns-clause-value : goal.returns-clause-value
returns-clause-value c =
    let x = c.long.result in
    let y = c.long-2.result in
    let a : SFits w32 c.args.p.0 = search rules in
    let b : SFits w32 c.args.p.1 = search rules in
    let d : SFits w32 c.args.q.0 = search rules in
    let e : SFits w32 c.args.q.1 = search rules in
    let first = simp (to_z-of_z w32 c.args.p.0 a, to_z-of_z w32 c.args.q.1 e) at c.long.ensures.value in
    let second = simp (to_z-of_z w32 c.args.p.1 b, to_z-of_z w32 c.args.q.0 d) at c.long-2.ensures.value in
    let size = difference_size x y (2 ^ 62) (2 ^ 62) c.long.ensures.size c.long-2.ensures.size in
    simp ((fits_long x (2 ^ 62) c.long.ensures.size (lit< tt)).kept, (fits_long y (2 ^ 62) c.long-2.ensures.size (lit< tt)).kept, (fits_long (x -ℤ y) (2 ^ 62 + 2 ^ 62) size (lit< tt)).kept)
    (λ i. first i -ℤ second i)

pub returns-clause-size : goal.returns-clause-size
returns-clause-size c =
    let x = c.long.result in
    let y = c.long-2.result in
    let size = difference_size x y (2 ^ 62) (2 ^ 62) c.long.ensures.size c.long-2.ensures.size in
    simp ((fits_long x (2 ^ 62) c.long.ensures.size (lit< tt)).kept, (fits_long y (2 ^ 62) c.long-2.ensures.size (lit< tt)).kept, (fits_long (x -ℤ y) (2 ^ 62 + 2 ^ 62) size (lit< tt)).kept) size
