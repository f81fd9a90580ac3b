-- The greatest radius so far grows path by path.
use Rattle.std.proofs.Common.{◌∙◌, ap, sym, subst, arith}
use Rattle.std.specs.Prelude.{ℤ, pos, ◌≤ℤ◌}
use Rattle.mesh_variable_stroke.specs.Drawn.{greatest_radius}
use Rattle.mesh_variable_stroke.proofs.Reach.{padding_none, padding_more, padding_least}
use Rattle.mesh_variable_stroke.proofs.bounds.padding.Goals as goal

pub loop-index-init : goal.loop-index-init
loop-index-init g c = ap g.I.IntNumber.value c.ZERO-padding.ensures ∙ g.met.I.IntNumber.value_zero ∙ sym padding_none

pub loop-index-preserved : goal.loop-index-preserved
loop-index-preserved g c =
    padding_more (g.S.IntVariableStrokeSource.paths c.args.source.now) c.loop-index.index
    (g.I.IntNumber.value c.loop-index.padding) (g.I.IntNumber.value c.greatest_radius.result) _
    (omega arith) c.loop-index.invariant (c.greatest_radius.ensures ∙ ap greatest_radius c.path_at.ensures)
    c.greater-padding.ensures

pub returns-clause-least : goal.returns-clause-least
returns-clause-least g c = subst (λ (z : ℤ). pos 0 ≤ℤ z) (sym c.loop-index.invariant) (padding_least _)
