-- The edges of all zones are resolved.
use Rattle.std.proofs.Common.{◌≡◌, List, ap, subst}
use Rattle.std.specs.List.{flat_map}
use Rattle.mesh_plane.specs.Plane.{Edge}
use Rattle.mesh_num.specs.Paths.{shapes_of}
use Rattle.mesh_lattice.specs.FillRules.{filled_by}
use Rattle.mesh_lattice.specs.declared.fill.WindingRule.TheVariants as winding_rule
use Rattle.mesh_below.specs.Nearness.{AreCountedRegions, AreRegionsBeyond}
use Rattle.mesh_below.specs.Options.{choices_of}
use Rattle.mesh_offset.specs.Adding.{answer_edges}
use Rattle.mesh_offset.proofs.Counting.{counts_of_one}
use Rattle.mesh_boolean.specs.Zones.{zone_edges, zones_of}
use Rattle.mesh_boolean.proofs.Adding.{closed_edges_are, closed_resolvable}
use Rattle.mesh_boolean.proofs.ZoneEdges.{covered_beyond}
use Rattle.mesh_boolean.proofs.zones.coverage_with_nearness.Goals as goal

pub overlay_by_with_nearness-requires-clause-subject : goal.overlay_by_with_nearness-requires-clause-subject
overlay_by_with_nearness-requires-clause-subject g c =
    (closed_resolvable g.I.IntNumber.unit (flat_map answer_edges (zones_of c.args.zones.now)) _ _ (ap (λ v. v.items) c.with_segments-overlay.ensures.segments) c.in_ok-segments.ensures).subject

pub overlay_by_with_nearness-requires-clause-balanced : goal.overlay_by_with_nearness-requires-clause-balanced
overlay_by_with_nearness-requires-clause-balanced g c =
    (closed_resolvable g.I.IntNumber.unit (flat_map answer_edges (zones_of c.args.zones.now)) _ _ (ap (λ v. v.items) c.with_segments-overlay.ensures.segments) c.in_ok-segments.ensures).balanced

pub overlay_by_with_nearness-requires-clause-safe : goal.overlay_by_with_nearness-requires-clause-safe
overlay_by_with_nearness-requires-clause-safe g c =
    (closed_resolvable g.I.IntNumber.unit (flat_map answer_edges (zones_of c.args.zones.now)) _ _ (ap (λ v. v.items) c.with_segments-overlay.ensures.segments) c.in_ok-segments.ensures).safe

pub returns-clause-regions : goal.returns-clause-regions
returns-clause-regions g c =
    covered_beyond c.args.least (zones_of c.args.zones.now) (choices_of g.I.WideUInt.WideUnsigned.value c.args.options) (shapes_of c.in_ok-near.near.shapes.items) c.in_ok-near.near.nearness c.requires.once
    (subst (λ (es : List Edge). AreRegionsBeyond c.in_ok-near.near.nearness es (filled_by (winding_rule.AtLeast c.args.least)) (choices_of g.I.WideUInt.WideUnsigned.value c.args.options)
    (shapes_of c.in_ok-near.near.shapes.items))
    (closed_edges_are g.I.IntNumber.unit (flat_map answer_edges (zones_of c.args.zones.now)) _ _ (ap (λ v. v.items) c.with_segments-overlay.ensures.segments) c.in_ok-segments.ensures)
    c.in_ok-near.ensures.regions)

pub returns-clause-standing : goal.returns-clause-standing
returns-clause-standing g c =
    subst (λ (es : List Edge). AreCountedRegions c.in_ok-near.near.nearness es (filled_by (winding_rule.AtLeast c.args.least)) (choices_of g.I.WideUInt.WideUnsigned.value c.args.options)
    (shapes_of c.in_ok-near.near.shapes.items) c.args.count.now c.overlay_by_with_nearness.new.count)
    (closed_edges_are g.I.IntNumber.unit (flat_map answer_edges (zones_of c.args.zones.now)) _ _ (ap (λ v. v.items) c.with_segments-overlay.ensures.segments) c.in_ok-segments.ensures)
    c.in_ok-near.ensures.standing

pub returns-in_err-near-clause-counted : goal.returns-in_err-near-clause-counted
returns-in_err-near-clause-counted g c =
    counts_of_one (λ (es : List Edge). es ≡ zone_edges (zones_of c.args.zones.now)) _ c.args.count.now _
    (closed_edges_are g.I.IntNumber.unit (flat_map answer_edges (zones_of c.args.zones.now)) _ _ (ap (λ v. v.items) c.with_segments-overlay.ensures.segments) c.in_ok-segments.ensures)
    c.overlay_by_with_nearness.ensures.counted

pub returns-clause-counted : goal.returns-clause-counted
returns-clause-counted g c =
    counts_of_one (λ (es : List Edge). es ≡ zone_edges (zones_of c.args.zones.now)) _ c.args.count.now _
    (closed_edges_are g.I.IntNumber.unit (flat_map answer_edges (zones_of c.args.zones.now)) _ _ (ap (λ v. v.items) c.with_segments-overlay.ensures.segments) c.in_ok-segments.ensures)
    c.overlay_by_with_nearness.ensures.counted
