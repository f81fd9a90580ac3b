use Rattle.std.proofs.Common.{List, sym, ◌∙◌, ap, subst}
use Rattle.std.specs.Prelude.{Vec}
use Rattle.std.specs.List.{All}
use Rattle.std.specs.declared.alloc.Global.{Global}
use Rattle.mesh_plane.specs.Bounds.{IsSafe}
use Rattle.mesh_plane.specs.Plane.{Point}
use Rattle.mesh_below.proofs.AnswerPoints.{image_at}
use Rattle.mesh_below.proofs.answer.int_shape.Goals as goal

pub int_contour-requires : goal.int_contour-requires
int_contour-requires g c =
    let safe : List Point → Type 0 = λ (ps : List Point). All (IsSafe g.I.IntNumber.unit) ps in
    subst safe (sym (c.deref.ensures.value ∙ ap (λ (v : Vec Point Global). v.items) c.contour-item.is))
    (image_at safe (λ (v : Vec Point Global). v.items) c.args.shape.now c.loop-contour.contour-index c.contour-item.result c.loop-contour-test.true c.requires)
