-- What the segments hold, and that they can be resolved.
use Rattle.std.proofs.Common.{ap, refl}
use Rattle.mesh_variable_stroke.proofs.Resolving.{resolvable}
use Rattle.mesh_variable_stroke.proofs.resolve.stroke_overlay.Goals as goal

pub returns-clause-resolvable : goal.returns-clause-resolvable
returns-clause-resolvable g c =
    resolvable g.I.IntNumber.unit c.args.style.arc (g.S.IntVariableStrokeSource.paths c.args.source.now)
    g.met.I.IntNumber.least_law c.requires _ _ (ap (λ v. v.items) c.with_segments-overlay.ensures.segments) c.in_ok-stroke_segments.ensures

pub returns-clause-options : goal.returns-clause-options
returns-clause-options g c = refl
