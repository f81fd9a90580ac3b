-- The bounds of all points are safe where each path is, and what holds of all contours that stay safe.
use Rattle.std.specs.Prelude.{IsOk}
use Rattle.mesh_join.specs.Joins.{outline_padding}
use Rattle.mesh_join.specs.Styles.{style_of}
use Rattle.mesh_outline.proofs.Padding.{outline_padding_least}
use Rattle.mesh_offset.proofs.PaddingBounds.{accepted_by_bounds, accepted_without_points, on_ok_where}
use Rattle.mesh_outline.proofs.PromisedOfAll.{have_promised_edges}
use Rattle.mesh_outline.proofs.Staying.{stays_safe}
use Rattle.mesh_outline.proofs.offset.AnyIntOutlineOffset.validate_outline.Goals as goal

pub returns-clause-bounds : goal.returns-clause-bounds
returns-clause-bounds g c =
    accepted_by_bounds g.I.IntNumber.unit (outline_padding (style_of g.I.IntNumber.value c.args.style.now)) (g.S.IntShapeResource.paths c.args.self.now)
    (IsOk c.validate_outline_bounds.result) (outline_padding_least (style_of g.I.IntNumber.value c.args.style.now)) c.validate_outline_bounds.ensures.safe

pub returns-clause-no_point : goal.returns-clause-no_point
returns-clause-no_point g c =
    accepted_without_points g.I.IntNumber.unit (outline_padding (style_of g.I.IntNumber.value c.args.style.now)) (g.S.IntShapeResource.paths c.args.self.now)
    (IsOk c.validate_outline_bounds.result) c.validate_outline_bounds.ensures.safe

pub returns-clause-built : goal.returns-clause-built
returns-clause-built g c =
    have_promised_edges g.I.IntNumber.unit (style_of g.I.IntNumber.value c.args.style.now)
    (g.S.IntShapeResource.paths c.args.self.now) g.met.I.IntNumber.least_law

pub returns-clause-stays_safe : goal.returns-clause-stays_safe
returns-clause-stays_safe g c =
    on_ok_where c.validate_outline_bounds.result
    (λ ok. stays_safe g.I.IntNumber.unit (style_of g.I.IntNumber.value c.args.style.now)
    (g.S.IntShapeResource.paths c.args.self.now) g.met.I.IntNumber.least_law (c.validate_outline_bounds.ensures.safe.0 ok))
