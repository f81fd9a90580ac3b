-- Those before one that starts past the east side are apart, and so are all that follow it.
use Rattle.std.proofs.Common.{sym}
use Rattle.mesh_outline.proofs.BoundsInOrder.{apart_past, apart_more, apart_all}
use Rattle.mesh_outline.proofs.bounds_apart.is_apart_from.Goals as goal

pub returns-then-is_less : goal.returns-then-is_less
returns-then-is_less g c _ =
    apart_past c.args.bounds c.args.following.now c.loop-other.other-index c.other-item.result c.requires c.loop-other-test.true c.other-item.is c.loop-other.invariant.far
    (rw (sym c.loop-other.invariant.same, ← c.bounds.view_is, ← c.other.view_is) (c.is_less.ensures.0 c.if-is_less.true))

pub loop-other-preserved : goal.loop-other-preserved
loop-other-preserved g c = record {
  same = c.loop-other.invariant.same;
  far =
      apart_more c.args.bounds c.args.following.now c.loop-other.other-index c.other-item.result c.loop-other-test.true c.other-item.is c.loop-other.invariant.far
      (rw (sym c.loop-other.invariant.same, ← c.other.view_is) (c.is_south_or_north.ensures c.if-not-is_south_or_north.false));
}

pub returns : goal.returns
returns g c _ = apart_all c.args.bounds c.args.following.now c.loop-other.other-index c.loop-other-test.false c.loop-other.invariant.far
