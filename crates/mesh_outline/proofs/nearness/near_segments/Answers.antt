-- One contour after another.
use Rattle.std.proofs.Common.{◌+◌, [], arith, length}
use Rattle.std.proofs.lemmas.List.Elements.{Contains-get_or}
use Rattle.mesh_join.specs.Styles.{style_of}
use Rattle.mesh_offset.proofs.Counting.{counts_fewer, counts_more, counts_none, counts_weaker}
use Rattle.mesh_outline.specs.Nearness.{IsOutlineDrawing}
use Rattle.mesh_outline.specs.declared.kind.ContourKind.TheVariants.{Outer}
use Rattle.mesh_outline.proofs.ContourKinds.{kind_count, kind_at}
use Rattle.mesh_outline.proofs.NearSteps.{counts_contour, near_all, near_more, near_none}
use Rattle.mesh_outline.proofs.nearness.near_segments.Goals as goal

pub loop-index-init : goal.loop-index-init
loop-index-init g c = (
  rw c.new-segments.ensures.items (near_none g.I.IntNumber.unit (style_of g.I.IntNumber.value c.args.style.now) (g.S.IntShapeResource.paths c.args.source.now) c.args.count.now (omega arith)),
  omega arith,
  counts_none 0 (IsOutlineDrawing g.I.IntNumber.unit (style_of g.I.IntNumber.value c.args.style.now) (g.S.IntShapeResource.paths c.args.source.now)) c.args.count.now (omega arith),
)

pub bounds-kinds-index : goal.bounds-kinds-index
bounds-kinds-index g c =
    let count = kind_count (g.S.IntShapeResource.paths c.args.source.now) c.args.kinds.now c.requires.kinds in
    omega arith

pub add_contour-requires-clause-safe : goal.add_contour-requires-clause-safe
add_contour-requires-clause-safe g c = rw c.path_at.ensures (c.requires.safe c.loop-index.index [] (omega arith))

pub add_contour-requires-clause-kind : goal.add_contour-requires-clause-kind
add_contour-requires-clause-kind g c =
    rw c.path_at.ensures (kind_at (g.S.IntShapeResource.paths c.args.source.now) c.args.kinds.now c.loop-index.index Outer c.requires.kinds (omega arith))

pub returns-in_err-own-clause-counted : goal.returns-in_err-own-clause-counted
returns-in_err-own-clause-counted g c =
    counts_fewer (IsOutlineDrawing g.I.IntNumber.unit (style_of g.I.IntNumber.value c.args.style.now) (g.S.IntShapeResource.paths c.args.source.now))
    (c.loop-index.index + 1) (length (g.S.IntShapeResource.paths c.args.source.now)) (omega arith) _ _
    (counts_contour g.I.IntNumber.unit (style_of g.I.IntNumber.value c.args.style.now) (g.S.IntShapeResource.paths c.args.source.now) c.loop-index.index
    _ _ _ (omega arith) c.loop-index.invariant.2 (rw c.path_at.ensures at c.add_contour.ensures.counted))

pub loop-index-preserved : goal.loop-index-preserved
loop-index-preserved g c = (
  rw c.max-nearness.ensures
      (near_more c.loop-index.nearness c.in_ok-own.own g.I.IntNumber.unit (style_of g.I.IntNumber.value c.args.style.now) (g.S.IntShapeResource.paths c.args.source.now)
      c.loop-index.index _ _ _ _ _ (omega arith) c.loop-index.invariant.0 (rw c.path_at.ensures at c.in_ok-own.ensures.given)),
  let before = c.loop-index.invariant.1 in
      let own = c.in_ok-own.ensures.small in
      let most = c.max-nearness.ensures in
      omega (arith, before, own, most),
  counts_contour g.I.IntNumber.unit (style_of g.I.IntNumber.value c.args.style.now) (g.S.IntShapeResource.paths c.args.source.now) c.loop-index.index
      _ _ _ (omega arith) c.loop-index.invariant.2 (rw c.path_at.ensures at c.add_contour.ensures.counted),
)

pub returns-clause-given : goal.returns-clause-given
returns-clause-given g c =
    near_all c.loop-index.nearness g.I.IntNumber.unit (style_of g.I.IntNumber.value c.args.style.now) (g.S.IntShapeResource.paths c.args.source.now)
    c.loop-index.index _ _ _ (omega arith) c.loop-index.invariant.0

pub returns-clause-counted : goal.returns-clause-counted
returns-clause-counted g c =
    counts_fewer (IsOutlineDrawing g.I.IntNumber.unit (style_of g.I.IntNumber.value c.args.style.now) (g.S.IntShapeResource.paths c.args.source.now))
    c.loop-index.index (length (g.S.IntShapeResource.paths c.args.source.now)) (omega arith) _ _ c.loop-index.invariant.2
