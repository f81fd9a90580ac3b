-- The bounds of all points are safe where each path is, and the edges of each path have what is promised of them.
use Rattle.std.specs.Prelude.{IsOk}
use Rattle.mesh_stroke.specs.Styles.{stroke_padding, stroke_style_of}
use Rattle.mesh_offset.proofs.PaddingBounds.{accepted_by_bounds, accepted_without_points, on_ok_where}
use Rattle.mesh_stroke.proofs.Halves.{halves_of_all}
use Rattle.mesh_stroke.proofs.Resolving.{padding_least, promised, stays_safe}
use Rattle.mesh_stroke.proofs.offset.AnyIntStrokeOffset.validate_stroke.Goals as goal

pub returns-clause-bounds : goal.returns-clause-bounds
returns-clause-bounds g c =
    accepted_by_bounds g.I.IntNumber.unit (stroke_padding (stroke_style_of g.I.IntNumber.value c.args.style.now)) (g.S.IntShapeResource.paths c.args.self.now)
    (IsOk c.validate_bounds.result) (padding_least (stroke_style_of g.I.IntNumber.value c.args.style.now)) (rw c.padding.ensures.value at c.validate_bounds.ensures.safe)

pub returns-clause-no_point : goal.returns-clause-no_point
returns-clause-no_point g c =
    accepted_without_points g.I.IntNumber.unit (stroke_padding (stroke_style_of g.I.IntNumber.value c.args.style.now)) (g.S.IntShapeResource.paths c.args.self.now)
    (IsOk c.validate_bounds.result) (rw c.padding.ensures.value at c.validate_bounds.ensures.safe)

pub returns-clause-built : goal.returns-clause-built
returns-clause-built g c =
    on_ok_where c.validate_bounds.result
    (λ ok closed. promised g.I.IntNumber.unit (stroke_style_of g.I.IntNumber.value c.args.style.now) closed
    (g.S.IntShapeResource.paths c.args.self.now) g.met.I.IntNumber.least_law
    ((rw c.padding.ensures.value at c.validate_bounds.ensures.safe).0 ok))

pub returns-clause-stays_safe : goal.returns-clause-stays_safe
returns-clause-stays_safe g c =
    on_ok_where c.validate_bounds.result
    (λ ok closed. stays_safe g.I.IntNumber.unit (stroke_style_of g.I.IntNumber.value c.args.style.now) closed
    (g.S.IntShapeResource.paths c.args.self.now) g.met.I.IntNumber.least_law
    ((rw c.padding.ensures.value at c.validate_bounds.ensures.safe).0 ok))

pub returns-clause-halves : goal.returns-clause-halves
returns-clause-halves g c closed =
    halves_of_all g.I.IntNumber.unit g.met.I.IntNumber.least_law (stroke_style_of g.I.IntNumber.value c.args.style.now) closed
    (g.S.IntShapeResource.paths c.args.self.now)
