-- What contours give is resolved together.
use Rattle.std.proofs.Common.{◌+◌, ap, arith, length, subst}
use Rattle.mesh_num.specs.Paths.{shapes_of}
use Rattle.mesh_num.specs.Segments.{edges_of}
use Rattle.mesh_below.specs.Options.{choices_of}
use Rattle.mesh_join.specs.Styles.{style_of}
use Rattle.mesh_offset.proofs.Counting.{counts_fewer}
use Rattle.mesh_outline.specs.Nearness.{IsOutlineDrawing}
use Rattle.mesh_outline.proofs.NearSteps.{counts_last, near_outline, near_resolvable}
use Rattle.mesh_outline.proofs.nearness.resolved_near.Goals as goal

pub overlay_with_nearness-requires-clause-subject : goal.overlay_with_nearness-requires-clause-subject
overlay_with_nearness-requires-clause-subject g c =
    (near_resolvable _ g.I.IntNumber.unit (style_of g.I.IntNumber.value c.args.style.now) (g.S.IntShapeResource.paths c.args.source.now) _ _
    (ap (λ v. v.items) c.with_segments-overlay.ensures.segments) c.in_ok-given.ensures.given.0).subject

pub overlay_with_nearness-requires-clause-balanced : goal.overlay_with_nearness-requires-clause-balanced
overlay_with_nearness-requires-clause-balanced g c =
    (near_resolvable _ g.I.IntNumber.unit (style_of g.I.IntNumber.value c.args.style.now) (g.S.IntShapeResource.paths c.args.source.now) _ _
    (ap (λ v. v.items) c.with_segments-overlay.ensures.segments) c.in_ok-given.ensures.given.0).balanced

pub overlay_with_nearness-requires-clause-safe : goal.overlay_with_nearness-requires-clause-safe
overlay_with_nearness-requires-clause-safe g c =
    (near_resolvable _ g.I.IntNumber.unit (style_of g.I.IntNumber.value c.args.style.now) (g.S.IntShapeResource.paths c.args.source.now) _ _
    (ap (λ v. v.items) c.with_segments-overlay.ensures.segments) c.in_ok-given.ensures.given.0).safe

pub returns-in_err-given-clause-counted : goal.returns-in_err-given-clause-counted
returns-in_err-given-clause-counted g c =
    counts_fewer (IsOutlineDrawing g.I.IntNumber.unit (style_of g.I.IntNumber.value c.args.style.now) (g.S.IntShapeResource.paths c.args.source.now))
    (length (g.S.IntShapeResource.paths c.args.source.now)) (length (g.S.IntShapeResource.paths c.args.source.now) + 1) (omega arith) _ _ c.near_segments.ensures.counted

pub returns-in_err-near-clause-counted : goal.returns-in_err-near-clause-counted
returns-in_err-near-clause-counted g c =
    counts_last _ g.I.IntNumber.unit (style_of g.I.IntNumber.value c.args.style.now) (g.S.IntShapeResource.paths c.args.source.now) _ _
    (ap (λ v. v.items) c.with_segments-overlay.ensures.segments) c.in_ok-given.ensures.given.0 _ _ _ c.in_ok-given.ensures.counted c.overlay_with_nearness.ensures.counted

pub returns-clause-counted : goal.returns-clause-counted
returns-clause-counted g c =
    counts_last _ g.I.IntNumber.unit (style_of g.I.IntNumber.value c.args.style.now) (g.S.IntShapeResource.paths c.args.source.now) _ _
    (ap (λ v. v.items) c.with_segments-overlay.ensures.segments) c.in_ok-given.ensures.given.0 _ _ _ c.in_ok-given.ensures.counted c.overlay_with_nearness.ensures.counted

pub returns-clause-standing : goal.returns-clause-standing
returns-clause-standing g c =
    near_outline g.I.IntNumber.unit g.met.I.IntNumber.least_law (style_of g.I.IntNumber.value c.args.style.now) c.in_ok-given.given.nearness c.in_ok-near.near.nearness
    (choices_of g.I.WideUInt.WideUnsigned.value c.args.options) (g.S.IntShapeResource.paths c.args.source.now) _ _ (shapes_of c.in_ok-near.near.shapes.items)
    c.args.count.now _ _ (ap (λ v. v.items) c.with_segments-overlay.ensures.segments) c.in_ok-given.ensures.given c.in_ok-near.ensures.standing
