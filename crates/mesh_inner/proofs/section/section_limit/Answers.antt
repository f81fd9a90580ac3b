-- The section is as wide as the quotient says.
use Rattle.std.proofs.Common.{◌≡◌, ◌<◌, ◌^◌, ◌∙◌, ap, lit≤, arith}
use Rattle.std.specs.Prelude.{unsigned_abs}
use Rattle.std.proofs.lemmas.Int.{to_z_pos}
use mir.Syntax.{w128}
use mir.Val.{to_z}
use Rattle.mesh_plane.specs.Plane.{Edge, minus, dot, length_sq}
use Rattle.mesh_num.specs.Direction.{scaled_direction}
use Rattle.mesh_lattice.proofs.Arithmetic.{small_kept}
use Rattle.mesh_offset.proofs.Apart.{apart_long}
use Rattle.mesh_inner.specs.Inner.{step}
use Rattle.mesh_inner.proofs.Rooms.{length_is, section_is}
use Rattle.mesh_inner.proofs.section.section_limit.Goals as goal

pub twice_square_by-requires-clause-some : goal.twice_square_by-requires-clause-some
twice_square_by-requires-clause-some g c =
    let way : c.way-along.result ≡ minus c.args.edge.1 c.args.edge.0 = c.way-along.ensures.value ∙ ap (λ (e : Edge). minus e.1 e.0) c.edge.view_is in
    let size : c.unsigned_abs-length.result ≡ unsigned_abs (dot c.way-along.result c.way-along.result) =
    c.unsigned_abs-length.ensures.value ∙ ap unsigned_abs (small_kept (2 ^ 65) c.dot.result (lit≤ tt) c.dot.ensures.size ∙ c.dot.ensures.value) in
    let length = length_is c.way-along.result (minus c.args.edge.1 c.args.edge.0) c.unsigned_abs-length.result way size in
    let some : 0 < length_sq (minus c.args.edge.1 c.args.edge.0) = apart_long c.args.edge c.requires.fit.differ in
    omega (arith, length, some)

pub returns : goal.returns
returns g c =
    let unit = g.I.IntNumber.unit in
    let radius = g.I.IntNumber.value c.args.radius in
    let way : c.way-along.result ≡ minus c.args.edge.1 c.args.edge.0 = c.way-along.ensures.value ∙ ap (λ (e : Edge). minus e.1 e.0) c.edge.view_is in
    let size : c.unsigned_abs-length.result ≡ unsigned_abs (dot c.way-along.result c.way-along.result) =
    c.unsigned_abs-length.ensures.value ∙ ap unsigned_abs (small_kept (2 ^ 65) c.dot.result (lit≤ tt) c.dot.ensures.size ∙ c.dot.ensures.value) in
    let length = length_is c.way-along.result (minus c.args.edge.1 c.args.edge.0) c.unsigned_abs-length.result way size in
    let stepped : c.components-step.result ≡ step unit radius c.args.edge =
    c.components-step.ensures ∙ c.scale.ensures.value ∙ ap (scaled_direction unit radius) c.heading.ensures in
    section_is unit radius c.args.edge c.components-step.result c.way-along.result c.unsigned_abs-length.result c.size_of_product.result c.twice_square_by.result
    (to_z w128 c.twice_square_by.result) stepped way length c.size_of_product.ensures.value c.twice_square_by.ensures.value
    (to_z_pos w128 c.twice_square_by.result (omega (arith, c.twice_square_by.ensures.size)))
