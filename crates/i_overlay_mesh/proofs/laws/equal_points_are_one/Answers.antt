use Rattle.std.proofs.Common.{◌≡◌, ◌∙◌, sym, ap}
use Rattle.std.specs.Ordering.{int_cmp, is_eq, ordering_then}
use Rattle.i_overlay_mesh.proofs.Points.{by_equals, is_equal, one_pair, same_pair}
use Rattle.i_overlay_mesh.proofs.laws.equal_points_are_one.Given as given
use Rattle.i_overlay_mesh.proofs.laws.equal_points_are_one.Goals as goal

-- equality is what comparison says
compared : (g : given.Over) (c : goal.After-eq g) → c.eq.result ≡ is_eq (ordering_then (int_cmp c.args.p.now.0 c.args.q.now.0) (int_cmp c.args.p.now.1 c.args.q.now.1))
compared g c =
    rw (← c.p.view_is, ← c.q.view_is)
    ((rw (← c.p.view_is, ← c.q.view_is) at c.eq.ensures)
    ∙ by_equals g.I.IntNumber.value g.I.IntNumber.of_value g.I.Ord.cmp g.I.PartialEq.eq g.I.IntNumber.value_back g.met.I.IntNumber.cmp_law g.met.I.Ord.matches_eq
    c.p.inside.x c.p.inside.y c.q.inside.x c.q.inside.y)

pub returns : goal.returns
returns g c = (
  λ h. one_pair c.args.p.now c.args.q.now (is_equal _ (sym (compared g c) ∙ h)),
  λ e. compared g c ∙ ap is_eq (same_pair c.args.p.now c.args.q.now e),
)
