-- What fits a coordinate fits its wide type.
use Rattle.std.proofs.Common.{◌*◌, arith, rules}
use mir.Syntax.{w128}
use mir.Val.{to_z, of_z}
use Rattle.mesh_plane.specs.Bounds.{IsWithin}
use Rattle.mesh_drawing.proofs.Ranges.{within_wide}
use Rattle.mesh_drawing.proofs.coordinate.narrowed.Goals as goal

pub wide_from_i128-requires : goal.wide_from_i128-requires
wide_from_i128-requires g c =
    let w : IsWithin (2 * g.I.IntNumber.unit) (to_z w128 (of_z w128 c.args.number)) = search rules in
    within_wide g.I.IntNumber.unit _ _ g.met.I.IntNumber.half_law (omega (arith, g.met.I.IntNumber.least_law)) w
