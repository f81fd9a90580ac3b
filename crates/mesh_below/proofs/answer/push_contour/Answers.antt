use Rattle.std.proofs.Common.{sym, ◌∙◌, length}
use Rattle.std.proofs.lemmas.Bool.{eqb-true}
use Rattle.mesh_shapes.proofs.AreaSums.{some_elements}
use Rattle.mesh_below.proofs.LatticeContours.{adds_one, adds_empty}
use Rattle.mesh_below.proofs.answer.push_contour.Goals as goal

pub returns-then-is_empty : goal.returns-then-is_empty
returns-then-is_empty g c = adds_empty c.args.contours.now.items c.args.contour.now (eqb-true (length c.args.contour.now) 0 (sym c.is_empty.ensures ∙ c.if-is_empty.true))

pub returns : goal.returns
returns g c =
    adds_one c.args.contours.now.items c.push.new.self.items _ c.args.contour.now c.in_ok-push.ensures.items c.in_ok-lattice_contour.ensures
    (some_elements c.args.contour.now (sym c.is_empty.ensures ∙ c.if-is_empty.false))
