use Rattle.std.proofs.Common.{List, sym, ◌∙◌, ap, subst}
use Rattle.std.specs.Prelude.{Vec}
use Rattle.std.specs.List.{All}
use Rattle.std.specs.declared.alloc.Global.{Global}
use Rattle.mesh_plane.specs.Bounds.{IsSafe}
use Rattle.mesh_num.specs.Paths.{paths_of}
use Rattle.mesh_plane.specs.Plane.{Point}
use Rattle.mesh_below.proofs.AnswerPoints.{image_at}
use Rattle.mesh_below.proofs.answer.int_shapes.Goals as goal

pub int_shape-requires : goal.int_shape-requires
int_shape-requires g c =
    let safe : List (List Point) → Type 0 = λ (shape : List (List Point)). All (λ (ps : List Point). All (IsSafe g.I.IntNumber.unit) ps) shape in
    subst safe (sym (ap (λ (cs : List (Vec Point Global)). paths_of cs) (c.deref.ensures.value ∙ ap (λ (v : Vec (Vec Point Global) Global). v.items) c.shape-item.is)))
    (image_at safe (λ (v : Vec (Vec Point Global) Global). paths_of v.items) c.args.shapes.now c.loop-shape.shape-index c.shape-item.result c.loop-shape-test.true c.requires)
