-- The contour's own edges are resolved.
use Rattle.std.proofs.Common.{List, ap}
use Rattle.std.specs.List.Sorted.{IsPermutation}
use Rattle.mesh_plane.specs.Plane.{Edge}
use Rattle.mesh_num.specs.Paths.{shapes_of}
use Rattle.mesh_offset.proofs.Counting.{counts_of_one}
use Rattle.mesh_offset.proofs.Resolving.{built_balanced, built_safe}
use Rattle.mesh_outline.specs.Outline.{outline_edges}
use Rattle.mesh_outline.proofs.NearSteps.{built_drawn, comes_near}
use Rattle.mesh_outline.proofs.Resolving.{built_subject}
use Rattle.mesh_outline.proofs.nearness.near_alone.Goals as goal

pub build-requires : goal.build-requires
build-requires g c = c.requires

pub overlay_with_nearness-requires-clause-subject : goal.overlay_with_nearness-requires-clause-subject
overlay_with_nearness-requires-clause-subject g c = built_subject _ _ _ c.new-built.ensures.items (ap (λ v. v.items) c.with_segments-overlay.ensures.segments) c.in_ok-build.ensures.form

pub overlay_with_nearness-requires-clause-balanced : goal.overlay_with_nearness-requires-clause-balanced
overlay_with_nearness-requires-clause-balanced g c = built_balanced _ _ _ c.new-built.ensures.items (ap (λ v. v.items) c.with_segments-overlay.ensures.segments) c.in_ok-build.ensures.balanced

pub overlay_with_nearness-requires-clause-safe : goal.overlay_with_nearness-requires-clause-safe
overlay_with_nearness-requires-clause-safe g c = built_safe g.I.IntNumber.unit _ _ _ c.new-built.ensures.items (ap (λ v. v.items) c.with_segments-overlay.ensures.segments) c.in_ok-build.ensures.safe

pub returns-clause-answer : goal.returns-clause-answer
returns-clause-answer g c =
    comes_near c.in_ok-near.near.nearness g.I.IntNumber.unit c.args.builder.now c.args.fill c.args.path.now _ _ _ _ (shapes_of c.in_ok-near.near.shapes.items)
    c.args.count.now c.overlay_with_nearness.new.count
    c.new-built.ensures.items (ap (λ v. v.items) c.with_segments-overlay.ensures.segments) c.with_segments-overlay.ensures.options c.in_ok-build.ensures.edges
    c.in_ok-near.ensures.standing c.in_ok-near.ensures.safe

pub returns-in_err-near-clause-counted : goal.returns-in_err-near-clause-counted
returns-in_err-near-clause-counted g c =
    counts_of_one (λ (es : List Edge). IsPermutation es (outline_edges g.I.IntNumber.unit c.args.builder.now c.args.path.now)) _ c.args.count.now _
    (built_drawn g.I.IntNumber.unit c.args.builder.now c.args.path.now _ _ _ c.new-built.ensures.items (ap (λ v. v.items) c.with_segments-overlay.ensures.segments) c.in_ok-build.ensures.edges)
    c.overlay_with_nearness.ensures.counted

pub returns-clause-counted : goal.returns-clause-counted
returns-clause-counted g c =
    counts_of_one (λ (es : List Edge). IsPermutation es (outline_edges g.I.IntNumber.unit c.args.builder.now c.args.path.now)) _ c.args.count.now _
    (built_drawn g.I.IntNumber.unit c.args.builder.now c.args.path.now _ _ _ c.new-built.ensures.items (ap (λ v. v.items) c.with_segments-overlay.ensures.segments) c.in_ok-build.ensures.edges)
    c.overlay_with_nearness.ensures.counted
