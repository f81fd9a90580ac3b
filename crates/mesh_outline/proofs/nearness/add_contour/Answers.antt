-- The kind chooses the way and the sense.
use Rattle.std.proofs.Common.{List, sym, arith}
use Rattle.std.specs.List.Sorted.{IsPermutation}
use Rattle.std.proofs.lemmas.Result.{IfOk-weaker}
use Rattle.mesh_plane.specs.Plane.{Edge}
use Rattle.mesh_join.specs.Styles.{style_of}
use Rattle.mesh_offset.proofs.Counting.{counts_weaker}
use Rattle.mesh_outline.specs.Nearness.{drawn_of}
use Rattle.mesh_outline.specs.Outline.{outline_edges}
use Rattle.mesh_outline.proofs.NearSteps.{drawn_kind, near_ignored, near_moved}
use Rattle.mesh_outline.proofs.Padding.{path_movable}
use Rattle.mesh_outline.proofs.nearness.add_contour.Goals as goal

pub add_resolved-requires : goal.add_resolved-requires
add_resolved-requires g c =
    path_movable g.I.IntNumber.unit (style_of g.I.IntNumber.value c.args.style.now) c.args.kind c.in-Some.builder c.args.path.now (sym c.in-Some.ensures) c.requires.safe

pub returns-in_default-clause-given : goal.returns-in_default-clause-given
returns-in_default-clause-given g c =
    near_ignored g.I.IntNumber.unit (style_of g.I.IntNumber.value c.args.style.now) c.args.kind c.args.path.now c.args.segments.now.items c.args.count.now
    c.requires.kind (sym c.in_default.ensures) (omega arith)

pub returns-clause-given : goal.returns-clause-given
returns-clause-given g c =
    IfOk-weaker c.add_resolved.result _ _
    (λ k h. near_moved k g.I.IntNumber.unit (style_of g.I.IntNumber.value c.args.style.now) c.args.kind c.in-Some.builder c.fill_of.result c.args.path.now _ _ _ _
    c.requires.kind (sym c.in-Some.ensures) c.fill_of.ensures h)
    c.add_resolved.ensures.added

pub returns-clause-counted : goal.returns-clause-counted
returns-clause-counted g c =
    counts_weaker 1 (λ (es : List Edge). IsPermutation es (outline_edges g.I.IntNumber.unit c.in-Some.builder c.args.path.now))
    (λ (es : List Edge). IsPermutation es (drawn_of g.I.IntNumber.unit (style_of g.I.IntNumber.value c.args.style.now) c.args.path.now))
    (drawn_kind g.I.IntNumber.unit (style_of g.I.IntNumber.value c.args.style.now) c.args.kind c.in-Some.builder c.args.path.now c.requires.kind (sym c.in-Some.ensures))
    _ _ c.add_resolved.ensures.counted
