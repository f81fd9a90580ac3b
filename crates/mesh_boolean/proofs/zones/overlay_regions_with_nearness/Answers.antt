-- The edges of both are resolved once.
use Rattle.std.proofs.Common.{◌≡◌, List, ap, subst, sym, ◌∙◌}
use Rattle.mesh_plane.specs.Plane.{Edge}
use Rattle.mesh_plane.specs.Winding.{IsBalanced}
use Rattle.mesh_num.specs.Paths.{shapes_of}
use Rattle.mesh_num.specs.Segments.{SignedEdge, edges_of}
use Rattle.mesh_lattice.specs.FillRules.{filled_by}
use Rattle.mesh_lattice.specs.Reach.{AreEdgesSafe}
use Rattle.mesh_below.specs.Options.{choices_of}
use Rattle.mesh_below.specs.Nearness.{AreRegionsBeyond}
use Rattle.mesh_offset.proofs.Counting.{counts_of_one}
use Rattle.mesh_boolean.proofs.ZoneEdges.{overlaid_beyond}
use Rattle.mesh_boolean.specs.Rules.{way_of}
use Rattle.mesh_boolean.specs.Zones.{edges_by, rule_by}
use Rattle.mesh_boolean.proofs.zones.overlay_regions_with_nearness.Goals as goal

pub overlay_by_with_nearness-requires-clause-balanced : goal.overlay_by_with_nearness-requires-clause-balanced
overlay_by_with_nearness-requires-clause-balanced g c =
    subst (λ (ss : List SignedEdge). IsBalanced (edges_of ss)) (sym (ap (λ v. v.items) c.with_segments-overlay.ensures.segments)) c.in_ok-segments.ensures.resolvable.balanced

pub overlay_by_with_nearness-requires-clause-safe : goal.overlay_by_with_nearness-requires-clause-safe
overlay_by_with_nearness-requires-clause-safe g c =
    subst (λ (ss : List SignedEdge). AreEdgesSafe g.I.IntNumber.unit (edges_of ss)) (sym (ap (λ v. v.items) c.with_segments-overlay.ensures.segments)) c.in_ok-segments.ensures.resolvable.safe

pub returns-clause-regions : goal.returns-clause-regions
returns-clause-regions g c =
    let same = ap (λ ss. edges_of ss) (ap (λ v. v.items) c.with_segments-overlay.ensures.segments) ∙ c.in_ok-segments.ensures.same in
    let is = rw c.way_of-way.ensures at same in
    overlaid_beyond (shapes_of c.args.subject.now.items) (shapes_of c.args.clip.now.items) c.requires.subject_once c.requires.clip_once c.args.rule (choices_of g.I.WideUInt.WideUnsigned.value c.args.options)
    (shapes_of c.in_ok-near.near.shapes.items) c.in_ok-near.near.nearness
    (subst (λ (es : List Edge). AreRegionsBeyond c.in_ok-near.near.nearness es (filled_by (rule_by (way_of c.args.rule))) (choices_of g.I.WideUInt.WideUnsigned.value c.args.options)
    (shapes_of c.in_ok-near.near.shapes.items)) is (rw (c.last_rule.ensures ∙ ap rule_by c.way_of-way.ensures) at c.in_ok-near.ensures.regions))

pub returns-in_err-near-clause-counted : goal.returns-in_err-near-clause-counted
returns-in_err-near-clause-counted g c =
    let same = ap (λ ss. edges_of ss) (ap (λ v. v.items) c.with_segments-overlay.ensures.segments) ∙ c.in_ok-segments.ensures.same in
    counts_of_one (λ (es : List Edge). es ≡ edges_by (way_of c.args.rule) (shapes_of c.args.subject.now.items) (shapes_of c.args.clip.now.items)) _ c.args.count.now _ (rw c.way_of-way.ensures at same)
    c.overlay_by_with_nearness.ensures.counted

pub returns-clause-counted : goal.returns-clause-counted
returns-clause-counted g c =
    let same = ap (λ ss. edges_of ss) (ap (λ v. v.items) c.with_segments-overlay.ensures.segments) ∙ c.in_ok-segments.ensures.same in
    counts_of_one (λ (es : List Edge). es ≡ edges_by (way_of c.args.rule) (shapes_of c.args.subject.now.items) (shapes_of c.args.clip.now.items)) _ c.args.count.now _ (rw c.way_of-way.ensures at same)
    c.overlay_by_with_nearness.ensures.counted
