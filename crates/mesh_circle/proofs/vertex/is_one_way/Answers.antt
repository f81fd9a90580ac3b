-- A direction's components are small.
use Rattle.std.proofs.Common.{◌≡◌, rules}
use Rattle.mesh_arc.proofs.Sizes.{short_safe}
use Rattle.mesh_circle.proofs.vertex.is_one_way.Goals as goal

pub cross_product-requires-clause-own : goal.cross_product-requires-clause-own
cross_product-requires-clause-own g c =
    let least = g.met.I.IntNumber.least_law in
    let e : c.new-u.result ≡ c.args.u = search rules in
    rw e (short_safe g.I.IntNumber.unit c.args.u least c.requires.u)

pub cross_product-requires-clause-other : goal.cross_product-requires-clause-other
cross_product-requires-clause-other g c =
    let least = g.met.I.IntNumber.least_law in
    let e : c.new-w.result ≡ c.args.w = search rules in
    rw e (short_safe g.I.IntNumber.unit c.args.w least c.requires.w)

pub dot_product-requires-clause-own : goal.dot_product-requires-clause-own
dot_product-requires-clause-own g c =
    let least = g.met.I.IntNumber.least_law in
    let e : c.new-u.result ≡ c.args.u = search rules in
    rw e (short_safe g.I.IntNumber.unit c.args.u least c.requires.u)

pub dot_product-requires-clause-other : goal.dot_product-requires-clause-other
dot_product-requires-clause-other g c =
    let least = g.met.I.IntNumber.least_law in
    let e : c.new-w.result ≡ c.args.w = search rules in
    rw e (short_safe g.I.IntNumber.unit c.args.w least c.requires.w)
