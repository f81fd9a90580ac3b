-- The greatest length so far grows point by point.
use Rattle.std.proofs.Common.{arith, sym}
use Rattle.mesh_stroke.proofs.CustomCaps.{greatest_none, greatest_next}
use Rattle.mesh_stroke.proofs.cap.custom.padding.Goals as goal
use Rattle.mesh_stroke.proofs.cap.custom.padding.Goals.{then-greatest-length, else-greatest-length}

pub loop-point-init : goal.loop-point-init
loop-point-init g c = record { is = sym greatest_none; most = omega arith }

pub loop-point-preserved : goal.loop-point-preserved
loop-point-preserved g c =
    let i = c.loop-point.invariant in
    let most = c.raised_length-length.ensures.most in
    let n =
    greatest_next c.args.points.now c.loop-point.point-index c.point-item.result c.loop-point.greatest
    c.raised_length-length.result (omega (arith, c.loop-point-test.true)) c.point-item.is i.is
    c.raised_length-length.ensures.value in
    elim c.if-greatest-length.branch [
      | then-greatest-length w ↦
          record {
            is = omega (arith, n, w.greatest-is, w.if-greatest-length.true);
            most = omega (arith, w.greatest-is, most);
          }
      | else-greatest-length w ↦
          record {
            is = omega (arith, n, w.greatest-is, w.if-greatest-length.false);
            most = omega (arith, w.greatest-is, i.most);
          }
    ]
