-- Each path so far may be stroked, and at the end each path.
use Rattle.std.proofs.Common.{List, [], arith, refl, subst, take_all}
use Rattle.std.specs.Prelude.{ℤ}
use Rattle.std.specs.List.{All}
use Rattle.std.proofs.lemmas.List.Elements.{All-more}
use Rattle.mesh_join.specs.VariableStyles.{Vertex}
use Rattle.mesh_variable_stroke.specs.Drawn.{AreStrokable}
use Rattle.mesh_variable_stroke.proofs.bounds.validate_vertices.Goals as goal

pub loop-index-preserved : goal.loop-index-preserved
loop-index-preserved g c =
    All-more (λ (path : List Vertex). AreStrokable g.I.IntNumber.unit (g.I.IntNumber.value c.padding-padding.result) path)
    (g.S.IntVariableStrokeSource.paths c.args.source.now) c.loop-index.index [] (omega arith)
    c.loop-index.invariant (rw (← c.path_at.ensures) (c.is_strokable.ensures.0 c.if-not-is_strokable.false))

pub returns-clause-safe : goal.returns-clause-safe
returns-clause-safe g c = (
  λ _.
      subst (λ (padding : ℤ). All (λ (path : List Vertex). AreStrokable g.I.IntNumber.unit padding path) (g.S.IntVariableStrokeSource.paths c.args.source.now))
      c.padding-padding.ensures.value
      (subst (λ (paths : List (List Vertex)). All (λ (path : List Vertex). AreStrokable g.I.IntNumber.unit (g.I.IntNumber.value c.padding-padding.result) path) paths)
      (take_all c.loop-index.index (g.S.IntVariableStrokeSource.paths c.args.source.now) (omega arith)) c.loop-index.invariant),
  λ _. refl,
)
