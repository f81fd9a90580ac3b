-- The segments are those of both contours.
use Rattle.std.proofs.Common.{◌^◌, ◌∙◌, ap}
use Rattle.mesh_uses.proofs.Contours.{both_added, both_edges, both_subjects, both_balanced, both_safe}
use Rattle.mesh_uses.proofs.below.united.Goals as goal

pub overlay-requires-clause-subject : goal.overlay-requires-clause-subject
overlay-requires-clause-subject c =
    let added = both_added c.args.first.now c.args.second.now _ _ _ c.new-segments.ensures.items c.in_ok-add_contour.ensures c.in_ok-add_contour-2.ensures in
    both_subjects c.args.first.now c.args.second.now _ (ap (λ v. v.items) c.with_segments.ensures.segments ∙ added)

pub overlay-requires-clause-balanced : goal.overlay-requires-clause-balanced
overlay-requires-clause-balanced c =
    let added = both_added c.args.first.now c.args.second.now _ _ _ c.new-segments.ensures.items c.in_ok-add_contour.ensures c.in_ok-add_contour-2.ensures in
    both_balanced c.args.first.now c.args.second.now _ (ap (λ v. v.items) c.with_segments.ensures.segments ∙ added)

pub overlay-requires-clause-safe : goal.overlay-requires-clause-safe
overlay-requires-clause-safe c =
    let added = both_added c.args.first.now c.args.second.now _ _ _ c.new-segments.ensures.items c.in_ok-add_contour.ensures c.in_ok-add_contour-2.ensures in
    both_safe c.args.first.now c.args.second.now _ (ap (λ v. v.items) c.with_segments.ensures.segments ∙ added) (2 ^ 30) c.requires.first c.requires.second

pub returns : goal.returns
returns c =
    let added = both_added c.args.first.now c.args.second.now _ _ _ c.new-segments.ensures.items c.in_ok-add_contour.ensures c.in_ok-add_contour-2.ensures in
    let edges = both_edges c.args.first.now c.args.second.now _ (ap (λ v. v.items) c.with_segments.ensures.segments ∙ added) in
    rw (edges, c.with_segments.ensures.options) at c.overlay.ensures.regions
