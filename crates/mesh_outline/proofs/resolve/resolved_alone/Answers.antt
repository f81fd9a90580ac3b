-- The contour's own edges are resolved.
use Rattle.std.proofs.Common.{ap}
use Rattle.mesh_num.specs.Paths.{shapes_of}
use Rattle.mesh_offset.proofs.Resolving.{built_balanced, built_safe}
use Rattle.mesh_outline.proofs.Resolving.{built_subject, comes_alone}
use Rattle.mesh_outline.proofs.resolve.resolved_alone.Goals as goal

pub build-requires : goal.build-requires
build-requires g c = c.requires

pub overlay_answer-requires-clause-subject : goal.overlay_answer-requires-clause-subject
overlay_answer-requires-clause-subject g c = built_subject _ _ _ c.new-built.ensures.items (ap (λ v. v.items) c.with_segments.ensures.segments) c.in_ok-build.ensures.form

pub overlay_answer-requires-clause-balanced : goal.overlay_answer-requires-clause-balanced
overlay_answer-requires-clause-balanced g c = built_balanced _ _ _ c.new-built.ensures.items (ap (λ v. v.items) c.with_segments.ensures.segments) c.in_ok-build.ensures.balanced

pub overlay_answer-requires-clause-safe : goal.overlay_answer-requires-clause-safe
overlay_answer-requires-clause-safe g c = built_safe g.I.IntNumber.unit _ _ _ c.new-built.ensures.items (ap (λ v. v.items) c.with_segments.ensures.segments) c.in_ok-build.ensures.safe

pub returns : goal.returns
returns g c =
    comes_alone g.I.IntNumber.unit c.args.builder.now c.args.fill c.args.path.now _ _ _ _ (shapes_of c.in_ok-answer.answer.shapes.items) _ _
    c.new-built.ensures.items (ap (λ v. v.items) c.with_segments.ensures.segments) c.with_segments.ensures.options c.in_ok-build.ensures.edges
    c.in_ok-answer.ensures.resolution c.in_ok-answer.ensures.safe c.in_ok-answer.ensures.settled c.in_ok-answer.ensures.own_boundary
