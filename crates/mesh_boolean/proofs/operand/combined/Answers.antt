-- The edges of both answers are resolved.
use Rattle.std.proofs.Common.{List, [], ◌++◌, ap, subst}
use Rattle.mesh_num.specs.Paths.{shapes_of}
use Rattle.mesh_plane.specs.Plane.{Edge}
use Rattle.mesh_lattice.specs.FillRules.{filled_by}
use Rattle.mesh_below.specs.Laws.{AreRegions}
use Rattle.mesh_below.specs.Options.{choices_of}
use Rattle.mesh_offset.specs.Adding.{answer_edges, in_sense}
use Rattle.mesh_boolean.proofs.Adding.{both_closed, closed_edges_are, closed_resolvable}
use Rattle.mesh_boolean.proofs.operand.combined.Goals as goal

pub overlay_by-requires-clause-subject : goal.overlay_by-requires-clause-subject
overlay_by-requires-clause-subject g c =
    (closed_resolvable g.I.IntNumber.unit _ _ _ (ap (λ v. v.items) c.with_segments-overlay.ensures.segments)
    (both_closed g.I.IntNumber.unit c.args.sense (shapes_of c.args.first.now.items) (shapes_of c.args.second.now.items) _ _ _ c.new-segments.ensures.items
    c.requires.first c.requires.second c.in_ok-add_shapes.ensures c.in_ok-add_shapes-2.ensures)).subject

pub overlay_by-requires-clause-balanced : goal.overlay_by-requires-clause-balanced
overlay_by-requires-clause-balanced g c =
    (closed_resolvable g.I.IntNumber.unit _ _ _ (ap (λ v. v.items) c.with_segments-overlay.ensures.segments)
    (both_closed g.I.IntNumber.unit c.args.sense (shapes_of c.args.first.now.items) (shapes_of c.args.second.now.items) _ _ _ c.new-segments.ensures.items
    c.requires.first c.requires.second c.in_ok-add_shapes.ensures c.in_ok-add_shapes-2.ensures)).balanced

pub overlay_by-requires-clause-safe : goal.overlay_by-requires-clause-safe
overlay_by-requires-clause-safe g c =
    (closed_resolvable g.I.IntNumber.unit _ _ _ (ap (λ v. v.items) c.with_segments-overlay.ensures.segments)
    (both_closed g.I.IntNumber.unit c.args.sense (shapes_of c.args.first.now.items) (shapes_of c.args.second.now.items) _ _ _ c.new-segments.ensures.items
    c.requires.first c.requires.second c.in_ok-add_shapes.ensures c.in_ok-add_shapes-2.ensures)).safe

pub returns-clause-regions : goal.returns-clause-regions
returns-clause-regions g c =
    subst (λ (es : List Edge). AreRegions es (filled_by c.args.rule) (choices_of g.I.WideUInt.WideUnsigned.value c.args.options) (shapes_of c.in_ok-answer.answer.shapes.items))
    (closed_edges_are g.I.IntNumber.unit (answer_edges (shapes_of c.args.first.now.items) ++ in_sense c.args.sense (answer_edges (shapes_of c.args.second.now.items))) _ _
    (ap (λ v. v.items) c.with_segments-overlay.ensures.segments)
    (both_closed g.I.IntNumber.unit c.args.sense (shapes_of c.args.first.now.items) (shapes_of c.args.second.now.items) _ _ _ c.new-segments.ensures.items
    c.requires.first c.requires.second c.in_ok-add_shapes.ensures c.in_ok-add_shapes-2.ensures))
    c.in_ok-answer.ensures.regions
