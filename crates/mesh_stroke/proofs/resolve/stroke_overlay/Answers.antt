-- What the segments hold, and that they can be resolved.
use Rattle.std.proofs.Common.{refl, ap}
use Rattle.mesh_stroke.specs.Styles.{stroke_style_of}
use Rattle.mesh_stroke.proofs.Resolving.{resolvable}
use Rattle.mesh_stroke.proofs.resolve.stroke_overlay.Goals as goal

pub returns-clause-options : goal.returns-clause-options
returns-clause-options g c = refl

pub returns-clause-resolvable : goal.returns-clause-resolvable
returns-clause-resolvable g c =
    resolvable g.I.IntNumber.unit (stroke_style_of g.I.IntNumber.value c.args.style.now) c.args.closed (g.S.IntShapeResource.paths c.args.source.now)
    g.met.I.IntNumber.least_law c.requires _ _ (ap (λ v. v.items) c.with_segments-overlay.ensures.segments) c.in_ok-stroke_segments.ensures
