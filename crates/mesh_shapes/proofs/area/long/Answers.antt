use Rattle.std.proofs.Common.{lit<, ◌*◌, ◌^◌}
use Rattle.std.specs.Prelude.{◌*ℤ◌}
use Rattle.std.proofs.lemmas.Int.{to_z-of_z}
use mir.Syntax.{w32}
use Rattle.mesh_plane.proofs.Sizes.{product_size}
use Rattle.mesh_shapes.proofs.AreaSums.{fits_long, narrow_size}
use Rattle.mesh_shapes.proofs.area.long.Goals as goal

pub returns-clause-size : goal.returns-clause-size
returns-clause-size c =
    let a = c.args.a in
    let b = c.args.b in
    let small = product_size a b (2 ^ 31) (2 ^ 31) (narrow_size a c.ranges.a) (narrow_size b c.ranges.b) in
    let ka = to_z-of_z w32 a c.ranges.a in
    let kb = to_z-of_z w32 b c.ranges.b in
    let wa = (fits_long a (2 ^ 31) (narrow_size a c.ranges.a) (lit< tt)).kept in
    let wb = (fits_long b (2 ^ 31) (narrow_size b c.ranges.b) (lit< tt)).kept in
    let w = (fits_long (a *ℤ b) (2 ^ 31 * 2 ^ 31) small (lit< tt)).kept in
    simp (ka, kb, wa, wb, w) small
