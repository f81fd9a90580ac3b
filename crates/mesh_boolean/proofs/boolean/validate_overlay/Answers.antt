-- Nothing moves.
use Rattle.mesh_boolean.proofs.Ranges.{safe_unmoved, unmoved_safe}
use Rattle.mesh_boolean.proofs.boolean.validate_overlay.Goals as goal

pub returns-clause-safe : goal.returns-clause-safe
returns-clause-safe g c =
    let is = rw (c.to_wide.ensures.value, c.ZERO.ensures, g.met.I.IntNumber.value_zero) at c.validate_bounds.ensures.safe in (
      λ ok. unmoved_safe g.I.IntNumber.unit (g.S.IntShapeResource.paths c.args.source.now) (is.0 ok),
      λ safe. is.1 (safe_unmoved g.I.IntNumber.unit (g.S.IntShapeResource.paths c.args.source.now) safe),
    )
