-- The edges of the contours are resolved.
use Rattle.std.proofs.Common.{List, [], ap, subst}
use Rattle.std.specs.List.{flat_map}
use Rattle.mesh_num.specs.Paths.{shapes_of}
use Rattle.mesh_plane.specs.Plane.{Edge}
use Rattle.mesh_plane.specs.Winding.{boundary}
use Rattle.mesh_lattice.specs.FillRules.{filled_by}
use Rattle.mesh_below.specs.Laws.{AreRegions}
use Rattle.mesh_below.specs.Options.{choices_of}
use Rattle.mesh_boolean.proofs.Adding.{closed_edges_are, closed_resolvable, paths_closed}
use Rattle.mesh_boolean.proofs.operand.region_of.Goals as goal

pub overlay_by-requires-clause-subject : goal.overlay_by-requires-clause-subject
overlay_by-requires-clause-subject g c =
    (closed_resolvable g.I.IntNumber.unit (flat_map boundary (g.S.IntShapeResource.paths c.args.source.now)) _ _ (ap (λ v. v.items) c.with_segments-overlay.ensures.segments)
    (paths_closed g.I.IntNumber.unit (g.S.IntShapeResource.paths c.args.source.now) _ _ c.new-segments.ensures.items c.requires c.in_ok-add_paths.ensures)).subject

pub overlay_by-requires-clause-balanced : goal.overlay_by-requires-clause-balanced
overlay_by-requires-clause-balanced g c =
    (closed_resolvable g.I.IntNumber.unit (flat_map boundary (g.S.IntShapeResource.paths c.args.source.now)) _ _ (ap (λ v. v.items) c.with_segments-overlay.ensures.segments)
    (paths_closed g.I.IntNumber.unit (g.S.IntShapeResource.paths c.args.source.now) _ _ c.new-segments.ensures.items c.requires c.in_ok-add_paths.ensures)).balanced

pub overlay_by-requires-clause-safe : goal.overlay_by-requires-clause-safe
overlay_by-requires-clause-safe g c =
    (closed_resolvable g.I.IntNumber.unit (flat_map boundary (g.S.IntShapeResource.paths c.args.source.now)) _ _ (ap (λ v. v.items) c.with_segments-overlay.ensures.segments)
    (paths_closed g.I.IntNumber.unit (g.S.IntShapeResource.paths c.args.source.now) _ _ c.new-segments.ensures.items c.requires c.in_ok-add_paths.ensures)).safe

pub returns-clause-regions : goal.returns-clause-regions
returns-clause-regions g c =
    subst (λ (es : List Edge). AreRegions es (filled_by c.args.rule) (choices_of g.I.WideUInt.WideUnsigned.value c.args.options) (shapes_of c.in_ok-answer.answer.shapes.items))
    (closed_edges_are g.I.IntNumber.unit (flat_map boundary (g.S.IntShapeResource.paths c.args.source.now)) _ _ (ap (λ v. v.items) c.with_segments-overlay.ensures.segments)
    (paths_closed g.I.IntNumber.unit (g.S.IntShapeResource.paths c.args.source.now) _ _ c.new-segments.ensures.items c.requires c.in_ok-add_paths.ensures))
    c.in_ok-answer.ensures.regions
