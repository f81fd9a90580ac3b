-- The vectors along the sections are short enough for products.
use Rattle.std.specs.Prelude.{unsigned_abs}
use Rattle.mesh_offset.proofs.Padding.{between_safe}
use Rattle.mesh_outline.proofs.builder_join.is_outer.Goals as goal

pub cross_product-cross-requires-clause-own : goal.cross_product-cross-requires-clause-own
cross_product-cross-requires-clause-own g c =
    let n = rw (← c.next.view_is) at c.requires.next in
    rw c.sub-after.ensures (between_safe g.I.IntNumber.unit (unsigned_abs (g.I.IntNumber.value c.args.offset)) c.next.inside.a c.next.inside.b n.safe_a n.safe_b)

pub cross_product-cross-requires-clause-other : goal.cross_product-cross-requires-clause-other
cross_product-cross-requires-clause-other g c =
    let p = rw (← c.previous.view_is) at c.requires.previous in
    rw c.sub-before.ensures (between_safe g.I.IntNumber.unit (unsigned_abs (g.I.IntNumber.value c.args.offset)) c.previous.inside.a c.previous.inside.b p.safe_a p.safe_b)

pub dot_product-requires-clause-own : goal.dot_product-requires-clause-own
dot_product-requires-clause-own g c =
    let n = rw (← c.next.view_is) at c.requires.next in
    rw c.sub-after.ensures (between_safe g.I.IntNumber.unit (unsigned_abs (g.I.IntNumber.value c.args.offset)) c.next.inside.a c.next.inside.b n.safe_a n.safe_b)

pub dot_product-requires-clause-other : goal.dot_product-requires-clause-other
dot_product-requires-clause-other g c =
    let p = rw (← c.previous.view_is) at c.requires.previous in
    rw c.sub-before.ensures (between_safe g.I.IntNumber.unit (unsigned_abs (g.I.IntNumber.value c.args.offset)) c.previous.inside.a c.previous.inside.b p.safe_a p.safe_b)
