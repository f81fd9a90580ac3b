-- Each path so far is safe, and at the end each path.
use Rattle.std.proofs.Common.{arith, refl}
use Rattle.mesh_offset.proofs.PaddingBounds.{paths_safe_more, all_paths_safe}
use Rattle.mesh_offset.proofs.bounds.validate_bounds.Goals as goal

pub loop-index-preserved : goal.loop-index-preserved
loop-index-preserved g c =
    paths_safe_more g.I.IntNumber.unit (g.I.Wide.WideNumber.value c.args.padding) (g.S.IntShapeResource.paths c.args.source.now) c.loop-index.index (omega arith)
    c.loop-index.invariant (rw (← c.path_at.ensures) (c.is_path_safe.ensures.0 c.if-not-is_path_safe.false))

pub returns-clause-safe : goal.returns-clause-safe
returns-clause-safe g c = (
  λ _.
      (all_paths_safe g.I.IntNumber.unit (g.I.Wide.WideNumber.value c.args.padding) (g.S.IntShapeResource.paths c.args.source.now) c.loop-index.index (omega arith) c.loop-index.invariant),
  λ _. refl,
)
