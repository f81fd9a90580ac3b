-- What is its own boundary is arranged, what is not is resolved once more.
use Rattle.std.proofs.Common.{ap}
use Rattle.mesh_num.specs.Paths.{shapes_of}
use Rattle.mesh_outline.proofs.Resolving.{again_arranged, again_resolvable, again_anew}
use Rattle.mesh_outline.proofs.shapes.resolved_again.Goals as goal

pub arranged-requires-clause-own_boundary : goal.arranged-requires-clause-own_boundary
arranged-requires-clause-own_boundary g c = c.requires.own_boundary c.if-is_own_boundary.true

pub returns-then-is_own_boundary : goal.returns-then-is_own_boundary
returns-then-is_own_boundary g c =
    again_arranged g.I.IntNumber.unit _ (shapes_of c.args.shapes.items) (shapes_of c.in_ok-answer.answer.items) (c.requires.own_boundary c.if-is_own_boundary.true)
    c.in_ok-answer.ensures.resolution c.in_ok-answer.ensures.safe

pub overlay-requires-clause-subject : goal.overlay-requires-clause-subject
overlay-requires-clause-subject g c =
    (again_resolvable g.I.IntNumber.unit (shapes_of c.args.shapes.items) _ _ (ap (λ v. v.items) c.with_segments-overlay.ensures.segments) c.in_ok-segments.ensures).subject

pub overlay-requires-clause-balanced : goal.overlay-requires-clause-balanced
overlay-requires-clause-balanced g c =
    (again_resolvable g.I.IntNumber.unit (shapes_of c.args.shapes.items) _ _ (ap (λ v. v.items) c.with_segments-overlay.ensures.segments) c.in_ok-segments.ensures).balanced

pub overlay-requires-clause-safe : goal.overlay-requires-clause-safe
overlay-requires-clause-safe g c =
    (again_resolvable g.I.IntNumber.unit (shapes_of c.args.shapes.items) _ _ (ap (λ v. v.items) c.with_segments-overlay.ensures.segments) c.in_ok-segments.ensures).safe

pub returns : goal.returns
returns g c =
    again_anew g.I.IntNumber.unit (shapes_of c.args.shapes.items) _ _ (ap (λ v. v.items) c.with_segments-overlay.ensures.segments) c.in_ok-segments.ensures
    _ (shapes_of c.in_ok-answer-2.answer.items) c.in_ok-answer-2.ensures.resolution c.in_ok-answer-2.ensures.safe
