-- The radius is the root of what is wanted, in shares of one and the cosine, both rounded up.
use Rattle.std.proofs.Common.{◌≡◌, ◌*◌, ◌^◌, ◌<◌, ◌≤◌, suc, arith, rules}
use Rattle.mesh_inner.proofs.Radii.{radius_keeps, radius_least}
use Rattle.mesh_inner.proofs.formula.radius_for.Goals as goal

pub returns-then-radius-gt-MOST_RADIUS : goal.returns-then-radius-gt-MOST_RADIUS
returns-then-radius-gt-MOST_RADIUS c = λ r h.
    let wanted : c.twice_square-wanted.result ≡ 2 ^ 31 * (suc c.args.distance * suc c.args.distance) = search rules in
    let some : 0 < c.one_and_cosine.result = omega (arith, c.one_and_cosine.ensures.least) in
    let least : c.raised_root-radius.result ≤ r =
    radius_least c.args.distance c.args.step c.twice_square-wanted.result c.one_and_cosine.result c.div_ceil.result c.raised_root-radius.result r
    wanted c.one_and_cosine.ensures.value some c.div_ceil.ensures c.raised_root-radius.ensures.value h in
    omega (arith, c.if-radius-gt-MOST_RADIUS.true, least)

pub returns : goal.returns
returns c =
    let wanted : c.twice_square-wanted.result ≡ 2 ^ 31 * (suc c.args.distance * suc c.args.distance) = search rules in
    let some : 0 < c.one_and_cosine.result = omega (arith, c.one_and_cosine.ensures.least) in (
      omega (arith, c.if-radius-gt-MOST_RADIUS.false),
      radius_keeps c.args.distance c.args.step c.twice_square-wanted.result c.one_and_cosine.result c.div_ceil.result c.raised_root-radius.result
          wanted c.one_and_cosine.ensures.value some c.div_ceil.ensures c.raised_root-radius.ensures.value,
      λ r h.
          radius_least c.args.distance c.args.step c.twice_square-wanted.result c.one_and_cosine.result c.div_ceil.result c.raised_root-radius.result r
          wanted c.one_and_cosine.ensures.value some c.div_ceil.ensures c.raised_root-radius.ensures.value h,
    )
