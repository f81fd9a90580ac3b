use Rattle.std.proofs.Common.{◌∙◌, ap, cond}
use Rattle.std.specs.Prelude.{Vec}
use Rattle.std.specs.declared.alloc.Global.{Global}
use Rattle.mesh_plane.specs.Plane.{Point}
use Rattle.mesh_shapes.specs.Contours.{reversed}
use Rattle.mesh_shapes.proofs.Shapes.{pushed_contour}
use Rattle.mesh_shapes.proofs.Taking.{others_set}
use Rattle.mesh_shapes.proofs.arrange.push_contour.Goals as goal

pub returns-clause-added : goal.returns-clause-added
returns-clause-added c =
    pushed_contour c.args.rings.now c.args.clockwise c.args.i c.index-rings-i.result c.args.shape.now.items c.answered.result c.push.new.self.items c.requires
    (c.answered.ensures ∙ ap (λ (v : Vec Point Global). cond c.args.clockwise (reversed v.items) v.items) c.replace-points.ensures.value)
    c.in_ok-push.ensures.items

pub returns-clause-others : goal.returns-clause-others
returns-clause-others c = others_set c.args.rings.now c.args.i _
