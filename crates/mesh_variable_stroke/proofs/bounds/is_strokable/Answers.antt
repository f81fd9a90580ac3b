-- Each vertex so far is safe, and at the end each vertex.
use Rattle.std.proofs.Common.{refl, arith, ◌∙◌, subst, take_all}
use Rattle.std.specs.Prelude.{List}
use Rattle.std.proofs.lemmas.List.Elements.{All-more}
use Rattle.mesh_num.specs.Rectangle.{IsSafeWidened}
use Rattle.mesh_join.specs.VariableStyles.{Vertex}
use Rattle.mesh_variable_stroke.specs.Drawn.{AreStrokable}
use Rattle.mesh_variable_stroke.proofs.bounds.is_strokable.Goals as goal

pub loop-vertex-preserved : goal.loop-vertex-preserved
loop-vertex-preserved g c =
    let here = c.is_safe_widened.ensures.0 c.if-not-is_safe_widened.false in
    All-more (λ (v : Vertex). IsSafeWidened g.I.IntNumber.unit (g.I.IntNumber.value c.args.padding) v.point) c.args.path.now c.loop-vertex.vertex-index c.vertex-item.result
    (omega (arith, c.loop-vertex-test.true)) c.loop-vertex.invariant
    (subst (λ (v : Vertex). IsSafeWidened g.I.IntNumber.unit (g.I.IntNumber.value c.args.padding) v.point) (c.vertex.view_is ∙ c.vertex-item.is) here)

pub returns : goal.returns
returns g c = (
  λ _.
      subst (λ (path : List Vertex). AreStrokable g.I.IntNumber.unit (g.I.IntNumber.value c.args.padding) path)
      (take_all c.loop-vertex.vertex-index c.args.path.now (omega (arith, c.loop-vertex-test.false))) c.loop-vertex.invariant,
  λ _. refl,
)
