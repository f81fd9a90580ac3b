-- The edges of both answers are resolved.
use Rattle.std.proofs.Common.{◌≡◌, List, [], ◌++◌, ap, subst}
use Rattle.std.specs.Prelude.{IfOk}
use Rattle.mesh_num.specs.Paths.{shapes_of}
use Rattle.mesh_plane.specs.Plane.{Edge}
use Rattle.mesh_lattice.specs.FillRules.{filled_by}
use Rattle.mesh_below.specs.Nearness.{AreCountedRegions}
use Rattle.mesh_below.specs.Options.{choices_of}
use Rattle.mesh_offset.specs.Adding.{answer_edges, in_sense}
use Rattle.mesh_offset.proofs.Counting.{counts_of_one}
use Rattle.mesh_boolean.specs.Booleans.{both_edges}
use Rattle.mesh_boolean.proofs.Adding.{both_closed, closed_edges_are, closed_resolvable}
use Rattle.mesh_boolean.proofs.nearness.near_combined.Goals as goal

pub overlay_by_with_nearness-requires-clause-subject : goal.overlay_by_with_nearness-requires-clause-subject
overlay_by_with_nearness-requires-clause-subject g c =
    (closed_resolvable g.I.IntNumber.unit _ _ _ (ap (λ v. v.items) c.with_segments-overlay.ensures.segments)
    (both_closed g.I.IntNumber.unit c.args.sense (shapes_of c.args.first.now.items) (shapes_of c.args.second.now.items) _ _ _ c.new-segments.ensures.items
    c.requires.first c.requires.second c.in_ok-add_shapes.ensures c.in_ok-add_shapes-2.ensures)).subject

pub overlay_by_with_nearness-requires-clause-balanced : goal.overlay_by_with_nearness-requires-clause-balanced
overlay_by_with_nearness-requires-clause-balanced g c =
    (closed_resolvable g.I.IntNumber.unit _ _ _ (ap (λ v. v.items) c.with_segments-overlay.ensures.segments)
    (both_closed g.I.IntNumber.unit c.args.sense (shapes_of c.args.first.now.items) (shapes_of c.args.second.now.items) _ _ _ c.new-segments.ensures.items
    c.requires.first c.requires.second c.in_ok-add_shapes.ensures c.in_ok-add_shapes-2.ensures)).balanced

pub overlay_by_with_nearness-requires-clause-safe : goal.overlay_by_with_nearness-requires-clause-safe
overlay_by_with_nearness-requires-clause-safe g c =
    (closed_resolvable g.I.IntNumber.unit _ _ _ (ap (λ v. v.items) c.with_segments-overlay.ensures.segments)
    (both_closed g.I.IntNumber.unit c.args.sense (shapes_of c.args.first.now.items) (shapes_of c.args.second.now.items) _ _ _ c.new-segments.ensures.items
    c.requires.first c.requires.second c.in_ok-add_shapes.ensures c.in_ok-add_shapes-2.ensures)).safe

pub returns-clause-standing : goal.returns-clause-standing
returns-clause-standing g c =
    subst (λ (es : List Edge). IfOk c.overlay_by_with_nearness.result (λ near. AreCountedRegions near.nearness es (filled_by c.args.rule)
    (choices_of g.I.WideUInt.WideUnsigned.value c.args.options) (shapes_of near.shapes.items) c.args.count.now c.overlay_by_with_nearness.new.count))
    (closed_edges_are g.I.IntNumber.unit (answer_edges (shapes_of c.args.first.now.items) ++ in_sense c.args.sense (answer_edges (shapes_of c.args.second.now.items))) _ _
    (ap (λ v. v.items) c.with_segments-overlay.ensures.segments)
    (both_closed g.I.IntNumber.unit c.args.sense (shapes_of c.args.first.now.items) (shapes_of c.args.second.now.items) _ _ _ c.new-segments.ensures.items
    c.requires.first c.requires.second c.in_ok-add_shapes.ensures c.in_ok-add_shapes-2.ensures))
    c.overlay_by_with_nearness.ensures.standing

pub returns-clause-counted : goal.returns-clause-counted
returns-clause-counted g c =
    counts_of_one (λ (es : List Edge). es ≡ both_edges c.args.sense (shapes_of c.args.first.now.items) (shapes_of c.args.second.now.items)) _ c.args.count.now _
    (closed_edges_are g.I.IntNumber.unit (answer_edges (shapes_of c.args.first.now.items) ++ in_sense c.args.sense (answer_edges (shapes_of c.args.second.now.items))) _ _
    (ap (λ v. v.items) c.with_segments-overlay.ensures.segments)
    (both_closed g.I.IntNumber.unit c.args.sense (shapes_of c.args.first.now.items) (shapes_of c.args.second.now.items) _ _ _ c.new-segments.ensures.items
    c.requires.first c.requires.second c.in_ok-add_shapes.ensures c.in_ok-add_shapes-2.ensures))
    c.overlay_by_with_nearness.ensures.counted
