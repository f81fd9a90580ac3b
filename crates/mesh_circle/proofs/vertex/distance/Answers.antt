-- The root is the greatest whole number whose square is at most the squared length.
use Rattle.std.proofs.Common.{◌≡◌, ap, arith, rules, sym, ◌∙◌}
use Rattle.std.specs.Prelude.{pos}
use Rattle.std.proofs.lemmas.Int.{ints, to_z_pos}
use mir.Syntax.{w128}
use Rattle.mesh_plane.specs.Plane.{minus, length_sq}
use Rattle.mesh_circle.specs.Sweeps.{distance}
use Rattle.mesh_circle.proofs.Swept.{distance_by}
use Rattle.mesh_circle.proofs.vertex.distance.Goals as goal

pub narrow-requires : goal.narrow-requires
narrow-requires g c =
    let s : c.uint_to_u128-square.result ≡ length_sq (minus c.args.point c.args.center) = search rules in
    let e : distance c.args.center c.args.point ≡ c.isqrt.result =
    distance_by c.args.center c.args.point c.isqrt.result (omega (arith, s, c.isqrt.ensures.square_le))
    (omega (arith, s, c.isqrt.ensures.next_square_gt)) in
    rw (to_z_pos w128 c.isqrt.result (omega (arith, c.isqrt.ensures.bound)))
    (record { low = omega (arith, ints); high = omega (arith, ints, e, c.requires.fits) })

pub returns : goal.returns
returns g c =
    let s : c.uint_to_u128-square.result ≡ length_sq (minus c.args.point c.args.center) = search rules in
    let e : distance c.args.center c.args.point ≡ c.isqrt.result =
    distance_by c.args.center c.args.point c.isqrt.result (omega (arith, s, c.isqrt.ensures.square_le))
    (omega (arith, s, c.isqrt.ensures.next_square_gt)) in
    c.narrow.ensures ∙ to_z_pos w128 c.isqrt.result (omega (arith, c.isqrt.ensures.bound)) ∙ ap pos (sym e)
