-- One contour after another.
use Rattle.std.proofs.Common.{[], arith}
use Rattle.mesh_join.specs.Styles.{style_of}
use Rattle.mesh_outline.specs.Private.Gathered.{so_far}
use Rattle.mesh_outline.specs.declared.kind.ContourKind.TheVariants.{Outer}
use Rattle.mesh_outline.proofs.ContourKinds.{kind_count, kind_at}
use Rattle.mesh_outline.proofs.Gathering.{gathered_none, gathered_more, gathered_all}
use Rattle.mesh_outline.proofs.gather.gather_all.Goals as goal

pub loop-index-init : goal.loop-index-init
loop-index-init g c = rw (c.new.ensures.items, c.new-2.ensures.items) (gathered_none g.I.IntNumber.unit (style_of g.I.IntNumber.value c.args.style.now))

pub bounds-kinds-index : goal.bounds-kinds-index
bounds-kinds-index g c =
    let count = kind_count (g.S.IntShapeResource.paths c.args.source.now) c.args.kinds.now c.requires.kinds in
    omega arith

pub gather-requires-clause-safe : goal.gather-requires-clause-safe
gather-requires-clause-safe g c = rw c.path_at.ensures (c.requires.safe c.loop-index.index [] (omega arith))

pub gather-requires-clause-kind : goal.gather-requires-clause-kind
gather-requires-clause-kind g c =
    rw c.path_at.ensures (kind_at (g.S.IntShapeResource.paths c.args.source.now) c.args.kinds.now c.loop-index.index Outer c.requires.kinds (omega arith))

pub gather-requires-clause-no_hole : goal.gather-requires-clause-no_hole
gather-requires-clause-no_hole g c =
    let count = kind_count (g.S.IntShapeResource.paths c.args.source.now) c.args.kinds.now c.requires.kinds in
    c.requires.no_hole c.loop-index.index Outer (omega arith)

pub loop-index-preserved : goal.loop-index-preserved
loop-index-preserved g c =
    gathered_more g.I.IntNumber.unit (style_of g.I.IntNumber.value c.args.style.now) (g.S.IntShapeResource.paths c.args.source.now) _ c.loop-index.index c.path_at.result.now _ (omega arith) c.path_at.ensures c.loop-index.invariant c.in_ok-gather.ensures

pub returns : goal.returns
returns g c =
    gathered_all g.I.IntNumber.unit (style_of g.I.IntNumber.value c.args.style.now) (g.S.IntShapeResource.paths c.args.source.now) (so_far c.loop-index.gathered) c.loop-index.index (omega arith) c.loop-index.invariant
