-- Vectors between safe points are short.
use Rattle.std.proofs.Common.{◌*◌, subst, sym}
use Rattle.mesh_plane.specs.Bounds.{IsSafe}
use Rattle.mesh_variable_stroke.proofs.joint.turn_between.Goals as goal
use Rattle.mesh_num.proofs.Moving.{safe_difference}

pub cross_product-requires-clause-own : goal.cross_product-requires-clause-own
cross_product-requires-clause-own g c =
    subst (IsSafe (2 * g.I.IntNumber.unit)) (sym c.sub.ensures)
    (safe_difference g.I.IntNumber.unit c.args.b c.args.a c.requires.b c.requires.a)

pub cross_product-requires-clause-other : goal.cross_product-requires-clause-other
cross_product-requires-clause-other g c =
    subst (IsSafe (2 * g.I.IntNumber.unit)) (sym c.sub-2.ensures)
    (safe_difference g.I.IntNumber.unit c.args.d c.args.c c.requires.d c.requires.c)
