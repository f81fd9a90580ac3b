-- The edges of both are resolved once.
use Rattle.std.proofs.Common.{◌≡◌, List, ap, subst, sym, ◌∙◌}
use Rattle.mesh_plane.specs.Plane.{Edge}
use Rattle.mesh_plane.specs.Winding.{IsBalanced}
use Rattle.mesh_num.specs.Paths.{shapes_of}
use Rattle.mesh_num.specs.Segments.{SignedEdge, edges_of}
use Rattle.mesh_lattice.specs.FillRules.{filled_by}
use Rattle.mesh_lattice.specs.Reach.{AreEdgesSafe}
use Rattle.mesh_below.specs.Options.{choices_of}
use Rattle.mesh_below.specs.Laws.{AreRegions}
use Rattle.mesh_boolean.proofs.ZoneEdges.{overlaid_regions}
use Rattle.mesh_boolean.specs.Rules.{way_of}
use Rattle.mesh_boolean.specs.Zones.{edges_by, rule_by}
use Rattle.mesh_boolean.proofs.zones.overlay_regions.Goals as goal

pub overlay_by-requires-clause-balanced : goal.overlay_by-requires-clause-balanced
overlay_by-requires-clause-balanced g c =
    subst (λ (ss : List SignedEdge). IsBalanced (edges_of ss)) (sym (ap (λ v. v.items) c.with_segments-overlay.ensures.segments)) c.in_ok-segments.ensures.resolvable.balanced

pub overlay_by-requires-clause-safe : goal.overlay_by-requires-clause-safe
overlay_by-requires-clause-safe g c =
    subst (λ (ss : List SignedEdge). AreEdgesSafe g.I.IntNumber.unit (edges_of ss)) (sym (ap (λ v. v.items) c.with_segments-overlay.ensures.segments)) c.in_ok-segments.ensures.resolvable.safe

pub returns-clause-regions : goal.returns-clause-regions
returns-clause-regions g c =
    let same = ap (λ ss. edges_of ss) (ap (λ v. v.items) c.with_segments-overlay.ensures.segments) ∙ c.in_ok-segments.ensures.same in
    let is = rw c.way_of-way.ensures at same in
    overlaid_regions (shapes_of c.args.subject.now.items) (shapes_of c.args.clip.now.items) c.requires.subject_once c.requires.clip_once c.args.rule (choices_of g.I.WideUInt.WideUnsigned.value c.args.options)
    (shapes_of c.in_ok-answer.answer.shapes.items)
    (subst (λ (es : List Edge). AreRegions es (filled_by (rule_by (way_of c.args.rule))) (choices_of g.I.WideUInt.WideUnsigned.value c.args.options)
    (shapes_of c.in_ok-answer.answer.shapes.items)) is (rw (c.last_rule.ensures ∙ ap rule_by c.way_of-way.ensures) at c.in_ok-answer.ensures.regions))
