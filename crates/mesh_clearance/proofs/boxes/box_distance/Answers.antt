use Rattle.std.proofs.Common.{subst}
use Rattle.mesh_plane.specs.Plane.{Point}
use Rattle.mesh_clearance.specs.Boxes.{IsGap}
use Rattle.mesh_clearance.proofs.Boxed.{boxes_apart}
use Rattle.mesh_clearance.proofs.boxes.box_distance.Goals as goal

pub returns : goal.returns
returns c =
    let n = c.shortest.result in
    boxes_apart c.args.b c.args.c n c.square.result
    (subst (λ (w : Point × Point). IsGap w.0.0 w.1.0 n.0) (λ i. (c.minus.ensures.value i, c.minus-2.ensures.value i)) c.shortest.ensures.x)
    (subst (λ (w : Point × Point). IsGap w.0.1 w.1.1 n.1) (λ i. (c.minus.ensures.value i, c.minus-2.ensures.value i)) c.shortest.ensures.y)
    c.square.ensures.value
