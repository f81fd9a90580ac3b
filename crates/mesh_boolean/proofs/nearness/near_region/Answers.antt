-- The edges of the contours are resolved.
use Rattle.std.proofs.Common.{◌≡◌, List, [], ap, subst}
use Rattle.std.specs.Prelude.{IfOk}
use Rattle.std.specs.List.{flat_map}
use Rattle.mesh_num.specs.Paths.{shapes_of}
use Rattle.mesh_plane.specs.Plane.{Edge}
use Rattle.mesh_plane.specs.Winding.{boundary}
use Rattle.mesh_lattice.specs.FillRules.{filled_by}
use Rattle.mesh_below.specs.Nearness.{AreCountedRegions}
use Rattle.mesh_below.specs.Options.{choices_of}
use Rattle.mesh_offset.proofs.Counting.{counts_of_one}
use Rattle.mesh_boolean.specs.Booleans.{closed_edges}
use Rattle.mesh_boolean.proofs.Adding.{closed_edges_are, closed_resolvable, paths_closed}
use Rattle.mesh_boolean.proofs.nearness.near_region.Goals as goal

pub overlay_by_with_nearness-requires-clause-subject : goal.overlay_by_with_nearness-requires-clause-subject
overlay_by_with_nearness-requires-clause-subject g c =
    (closed_resolvable g.I.IntNumber.unit (flat_map boundary (g.S.IntShapeResource.paths c.args.source.now)) _ _ (ap (λ v. v.items) c.with_segments-overlay.ensures.segments)
    (paths_closed g.I.IntNumber.unit (g.S.IntShapeResource.paths c.args.source.now) _ _ c.new-segments.ensures.items c.requires c.in_ok-add_paths.ensures)).subject

pub overlay_by_with_nearness-requires-clause-balanced : goal.overlay_by_with_nearness-requires-clause-balanced
overlay_by_with_nearness-requires-clause-balanced g c =
    (closed_resolvable g.I.IntNumber.unit (flat_map boundary (g.S.IntShapeResource.paths c.args.source.now)) _ _ (ap (λ v. v.items) c.with_segments-overlay.ensures.segments)
    (paths_closed g.I.IntNumber.unit (g.S.IntShapeResource.paths c.args.source.now) _ _ c.new-segments.ensures.items c.requires c.in_ok-add_paths.ensures)).balanced

pub overlay_by_with_nearness-requires-clause-safe : goal.overlay_by_with_nearness-requires-clause-safe
overlay_by_with_nearness-requires-clause-safe g c =
    (closed_resolvable g.I.IntNumber.unit (flat_map boundary (g.S.IntShapeResource.paths c.args.source.now)) _ _ (ap (λ v. v.items) c.with_segments-overlay.ensures.segments)
    (paths_closed g.I.IntNumber.unit (g.S.IntShapeResource.paths c.args.source.now) _ _ c.new-segments.ensures.items c.requires c.in_ok-add_paths.ensures)).safe

pub returns-clause-standing : goal.returns-clause-standing
returns-clause-standing g c =
    subst (λ (es : List Edge). IfOk c.overlay_by_with_nearness.result (λ near. AreCountedRegions near.nearness es (filled_by c.args.rule)
    (choices_of g.I.WideUInt.WideUnsigned.value c.args.options) (shapes_of near.shapes.items) c.args.count.now c.overlay_by_with_nearness.new.count))
    (closed_edges_are g.I.IntNumber.unit (flat_map boundary (g.S.IntShapeResource.paths c.args.source.now)) _ _ (ap (λ v. v.items) c.with_segments-overlay.ensures.segments)
    (paths_closed g.I.IntNumber.unit (g.S.IntShapeResource.paths c.args.source.now) _ _ c.new-segments.ensures.items c.requires c.in_ok-add_paths.ensures))
    c.overlay_by_with_nearness.ensures.standing

pub returns-clause-counted : goal.returns-clause-counted
returns-clause-counted g c =
    counts_of_one (λ (es : List Edge). es ≡ closed_edges (g.S.IntShapeResource.paths c.args.source.now)) _ c.args.count.now _
    (closed_edges_are g.I.IntNumber.unit (flat_map boundary (g.S.IntShapeResource.paths c.args.source.now)) _ _ (ap (λ v. v.items) c.with_segments-overlay.ensures.segments)
    (paths_closed g.I.IntNumber.unit (g.S.IntShapeResource.paths c.args.source.now) _ _ c.new-segments.ensures.items c.requires c.in_ok-add_paths.ensures))
    c.overlay_by_with_nearness.ensures.counted
