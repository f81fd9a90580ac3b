-- Half of the width, rounded up; it fits.
use Rattle.std.proofs.Common.{◌≡◌, ◌^◌, ◌∙◌, arith, false}
use Rattle.std.specs.Prelude.{ℤ, pos, negsuc, ◌+ℤ◌, int_lt}
use Rattle.std.specs.Int.RustNames.{int_div}
use Rattle.std.proofs.lemmas.Int.{ints, to_z-of_z}
use mir.Syntax.{w128}
use mir.Val.{to_z, of_z}
use Rattle.mesh_plane.specs.Bounds.{IsWithin}
use Rattle.mesh_offset.specs.Radii.{radius_of}
use Rattle.mesh_offset.proofs.radius.stroke_radius.Goals as goal

halved : (w r : ℤ) → int_lt w (pos 0) ≡ false → IsWithin (2 ^ 31) w
    → r ≡ to_z w128 (of_z w128 (int_div (w +ℤ pos 1) (pos 2))) → r ≡ radius_of w
halved (pos n) r sign small h = h ∙ to_z-of_z w128 (radius_of (pos n)) (omega (arith, ints, small.high))
halved (negsuc n) r sign small h = cc

pub returns-clause-value : goal.returns-clause-value
returns-clause-value g c =
    let width = to_z-of_z w128 c.widen-width.result (record { sfits = c.widen-width.type_inv }) in
    let more = to_z-of_z w128 (c.widen-width.result +ℤ pos 1) (omega (arith, ints, c.widen-width.ensures.small)) in
    let sign = rw (width, c.widen-width.ensures.value) at c.if-width-lt0.false in
    let small = rw c.widen-width.ensures.value at c.widen-width.ensures.small in
    halved (g.I.IntNumber.value c.args.width) _ sign small
    (rw (width, more, c.widen-width.ensures.value) at c.narrow.ensures)
