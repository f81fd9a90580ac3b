-- One contour after another.
use Rattle.std.proofs.Common.{[], arith}
use Rattle.mesh_join.specs.Styles.{style_of}
use Rattle.mesh_offset.proofs.Adding.{adds_nothing}
use Rattle.mesh_outline.specs.declared.kind.ContourKind.TheVariants.{Outer}
use Rattle.mesh_outline.proofs.Adding.{give_none, give_more, give_all}
use Rattle.mesh_outline.proofs.ContourKinds.{kind_count, kind_at}
use Rattle.mesh_outline.proofs.resolve.given_segments.Goals as goal

pub loop-index-init : goal.loop-index-init
loop-index-init g c = ([], give_none g.I.IntNumber.unit (style_of g.I.IntNumber.value c.args.style.now), rw c.new-segments.ensures.items (adds_nothing g.I.IntNumber.unit []))

pub bounds-kinds-index : goal.bounds-kinds-index
bounds-kinds-index g c =
    let count = kind_count (g.S.IntShapeResource.paths c.args.source.now) c.args.kinds.now c.requires.kinds in
    omega arith

pub add_contour-requires-clause-safe : goal.add_contour-requires-clause-safe
add_contour-requires-clause-safe g c = rw c.path_at.ensures (c.requires.safe c.loop-index.index [] (omega arith))

pub add_contour-requires-clause-kind : goal.add_contour-requires-clause-kind
add_contour-requires-clause-kind g c =
    rw c.path_at.ensures (kind_at (g.S.IntShapeResource.paths c.args.source.now) c.args.kinds.now c.loop-index.index Outer c.requires.kinds (omega arith))

pub loop-index-preserved : goal.loop-index-preserved
loop-index-preserved g c =
    give_more g.I.IntNumber.unit (style_of g.I.IntNumber.value c.args.style.now) (g.S.IntShapeResource.paths c.args.source.now)
    c.loop-index.index _ _ (omega arith) c.loop-index.invariant (rw c.path_at.ensures at c.in_ok-add_contour.ensures)

pub returns : goal.returns
returns g c =
    give_all g.I.IntNumber.unit (style_of g.I.IntNumber.value c.args.style.now) (g.S.IntShapeResource.paths c.args.source.now)
    c.loop-index.index _ (omega arith) c.loop-index.invariant
