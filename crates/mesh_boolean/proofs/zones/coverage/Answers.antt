-- The edges of all zones are resolved.
use Rattle.std.proofs.Common.{◌≡◌, List, ap, subst}
use Rattle.std.specs.List.{flat_map}
use Rattle.mesh_plane.specs.Plane.{Edge}
use Rattle.mesh_num.specs.Paths.{shapes_of}
use Rattle.mesh_lattice.specs.FillRules.{filled_by}
use Rattle.mesh_lattice.specs.declared.fill.WindingRule.TheVariants as winding_rule
use Rattle.mesh_below.specs.Laws.{AreRegions}
use Rattle.mesh_below.specs.Options.{choices_of}
use Rattle.mesh_offset.specs.Adding.{answer_edges}
use Rattle.mesh_boolean.specs.Zones.{zones_of}
use Rattle.mesh_boolean.proofs.Adding.{closed_edges_are, closed_resolvable}
use Rattle.mesh_boolean.proofs.ZoneEdges.{covered_regions}
use Rattle.mesh_boolean.proofs.zones.coverage.Goals as goal

pub overlay_by-requires-clause-subject : goal.overlay_by-requires-clause-subject
overlay_by-requires-clause-subject g c =
    (closed_resolvable g.I.IntNumber.unit (flat_map answer_edges (zones_of c.args.zones.now)) _ _ (ap (λ v. v.items) c.with_segments-overlay.ensures.segments) c.in_ok-segments.ensures).subject

pub overlay_by-requires-clause-balanced : goal.overlay_by-requires-clause-balanced
overlay_by-requires-clause-balanced g c =
    (closed_resolvable g.I.IntNumber.unit (flat_map answer_edges (zones_of c.args.zones.now)) _ _ (ap (λ v. v.items) c.with_segments-overlay.ensures.segments) c.in_ok-segments.ensures).balanced

pub overlay_by-requires-clause-safe : goal.overlay_by-requires-clause-safe
overlay_by-requires-clause-safe g c =
    (closed_resolvable g.I.IntNumber.unit (flat_map answer_edges (zones_of c.args.zones.now)) _ _ (ap (λ v. v.items) c.with_segments-overlay.ensures.segments) c.in_ok-segments.ensures).safe

pub returns-clause-regions : goal.returns-clause-regions
returns-clause-regions g c =
    covered_regions c.args.least (zones_of c.args.zones.now) (choices_of g.I.WideUInt.WideUnsigned.value c.args.options) (shapes_of c.in_ok-answer.answer.shapes.items) c.requires.once
    (subst (λ (es : List Edge). AreRegions es (filled_by (winding_rule.AtLeast c.args.least)) (choices_of g.I.WideUInt.WideUnsigned.value c.args.options)
    (shapes_of c.in_ok-answer.answer.shapes.items))
    (closed_edges_are g.I.IntNumber.unit (flat_map answer_edges (zones_of c.args.zones.now)) _ _ (ap (λ v. v.items) c.with_segments-overlay.ensures.segments) c.in_ok-segments.ensures)
    c.in_ok-answer.ensures.regions)
