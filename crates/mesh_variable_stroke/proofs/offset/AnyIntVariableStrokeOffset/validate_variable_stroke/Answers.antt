-- The bounds of all points are safe where each path is, and what holds of all paths that may be stroked.
use Rattle.std.specs.Prelude.{IsOk}
use Rattle.mesh_offset.proofs.PaddingBounds.{on_ok_where}
use Rattle.mesh_variable_stroke.proofs.Resolving.{promised, stays_safe}
use Rattle.mesh_variable_stroke.proofs.Reach.{told_by_bounds, told_without_points}
use Rattle.mesh_variable_stroke.proofs.offset.AnyIntVariableStrokeOffset.validate_variable_stroke.Goals as goal

pub returns-clause-bounds : goal.returns-clause-bounds
returns-clause-bounds g c =
    told_by_bounds g.I.IntNumber.unit (g.S.IntVariableStrokeSource.paths c.args.self.now) (IsOk c.validate_vertices.result) c.validate_vertices.ensures.safe

pub returns-clause-no_point : goal.returns-clause-no_point
returns-clause-no_point g c =
    told_without_points g.I.IntNumber.unit (g.S.IntVariableStrokeSource.paths c.args.self.now) (IsOk c.validate_vertices.result) c.validate_vertices.ensures.safe

pub returns-clause-built : goal.returns-clause-built
returns-clause-built g c =
    on_ok_where c.validate_vertices.result
    (λ ok arc. promised g.I.IntNumber.unit arc (g.S.IntVariableStrokeSource.paths c.args.self.now) g.met.I.IntNumber.least_law
    (c.validate_vertices.ensures.safe.0 ok))

pub returns-clause-stays_safe : goal.returns-clause-stays_safe
returns-clause-stays_safe g c =
    on_ok_where c.validate_vertices.result
    (λ ok arc. stays_safe g.I.IntNumber.unit arc (g.S.IntVariableStrokeSource.paths c.args.self.now) g.met.I.IntNumber.least_law
    (c.validate_vertices.ensures.safe.0 ok))
