use Rattle.std.proofs.Common.{◌∙◌, sym}
use Rattle.i_overlay_mesh.proofs.Points.{by_values, one_pair, same_pair}
use Rattle.i_overlay_mesh.proofs.laws.points_are_ordered.Goals as goal

pub returns-clause-order : goal.returns-clause-order
returns-clause-order g c =
    rw (← c.p.view_is, ← c.q.view_is)
    ((rw (← c.p.view_is, ← c.q.view_is) at c.cmp.ensures)
    ∙ by_values g.I.IntNumber.value g.I.IntNumber.of_value g.I.Ord.cmp g.I.IntNumber.value_back g.met.I.IntNumber.cmp_law c.p.inside.x c.p.inside.y c.q.inside.x c.q.inside.y)

pub returns-clause-equal : goal.returns-clause-equal
returns-clause-equal g c = (
  λ h. one_pair c.args.p.now c.args.q.now (sym (returns-clause-order g c) ∙ h),
  λ e. returns-clause-order g c ∙ same_pair c.args.p.now c.args.q.now e,
)
