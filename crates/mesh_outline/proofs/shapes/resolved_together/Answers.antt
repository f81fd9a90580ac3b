-- One outer boundary is resolved twice at most, other contours alone and then together.
use Rattle.std.proofs.Common.{ap, ◌∙◌, []}
use Rattle.mesh_num.specs.Paths.{shapes_of}
use Rattle.mesh_join.specs.Styles.{style_of}
use Rattle.mesh_outline.specs.Private.Sections.{offset_join}
use Rattle.mesh_outline.proofs.ContourKinds.{one_path}
use Rattle.mesh_outline.proofs.Padding.{path_movable}
use Rattle.mesh_outline.proofs.Resolving.{resolvable, is_outline, single_outline, outer_way}
use Rattle.mesh_outline.specs.declared.kind.ContourKind.TheVariants.{Outer}
use Rattle.mesh_outline.proofs.shapes.resolved_together.Goals as goal

pub resolved_twice-requires : goal.resolved_twice-requires
resolved_twice-requires g c =
    let style = style_of g.I.IntNumber.value c.args.style.now in
    let paths = g.S.IntShapeResource.paths c.args.source.now in
    let single = c.is_outer_boundary.ensures c.if-is_outer_boundary.true in
    path_movable g.I.IntNumber.unit style Outer c.new-builder.result _ (outer_way style c.new-builder.result (c.new-builder.ensures ∙ ap (offset_join (g.I.IntNumber.value c.args.style.now.outer_offset)) c.new-join.ensures))
    (rw c.path_at.ensures (c.requires.safe 0 [] (one_path paths c.args.kinds.now Outer c.requires.kinds single)))

pub returns-then-is_outer_boundary-clause-outline : goal.returns-then-is_outer_boundary-clause-outline
returns-then-is_outer_boundary-clause-outline g c =
    let style = style_of g.I.IntNumber.value c.args.style.now in
    let paths = g.S.IntShapeResource.paths c.args.source.now in
    let single = c.is_outer_boundary.ensures c.if-is_outer_boundary.true in
    single_outline g.I.IntNumber.unit style c.new-builder.result _ paths c.path_at.result.now c.args.kinds.now (shapes_of c.in_ok-shapes.shapes.items)
    c.requires.kinds single c.path_at.ensures (c.new-builder.ensures ∙ ap (offset_join (g.I.IntNumber.value c.args.style.now.outer_offset)) c.new-join.ensures) c.in_ok-shapes.ensures

pub overlay-requires-clause-subject : goal.overlay-requires-clause-subject
overlay-requires-clause-subject g c =
    (resolvable g.I.IntNumber.unit (style_of g.I.IntNumber.value c.args.style.now) (g.S.IntShapeResource.paths c.args.source.now) _ _
    (ap (λ v. v.items) c.with_segments-overlay.ensures.segments) c.in_ok-segments.ensures).subject

pub overlay-requires-clause-balanced : goal.overlay-requires-clause-balanced
overlay-requires-clause-balanced g c =
    (resolvable g.I.IntNumber.unit (style_of g.I.IntNumber.value c.args.style.now) (g.S.IntShapeResource.paths c.args.source.now) _ _
    (ap (λ v. v.items) c.with_segments-overlay.ensures.segments) c.in_ok-segments.ensures).balanced

pub overlay-requires-clause-safe : goal.overlay-requires-clause-safe
overlay-requires-clause-safe g c =
    (resolvable g.I.IntNumber.unit (style_of g.I.IntNumber.value c.args.style.now) (g.S.IntShapeResource.paths c.args.source.now) _ _
    (ap (λ v. v.items) c.with_segments-overlay.ensures.segments) c.in_ok-segments.ensures).safe

pub returns-clause-outline : goal.returns-clause-outline
returns-clause-outline g c =
    let style = style_of g.I.IntNumber.value c.args.style.now in
    let paths = g.S.IntShapeResource.paths c.args.source.now in
    let held = ap (λ v. v.items) c.with_segments-overlay.ensures.segments in
    is_outline g.I.IntNumber.unit style _ paths _ (shapes_of c.in_ok-shapes-3.shapes.items) c.in_ok-segments.ensures (rw held at c.in_ok-shapes-3.ensures.resolution)
