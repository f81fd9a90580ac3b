-- The components of a direction, widened.
use Rattle.std.proofs.Common.{◌∙◌, ◌^◌, subst, sym, rules}
use Rattle.mesh_join.specs.Private.Miters.{IsNarrow}
use Rattle.mesh_join.proofs.Wide.{pair_read, short_narrow}
use Rattle.mesh_join.proofs.miter.coordinates_of.Goals as goal

pub returns-clause-value : goal.returns-clause-value
returns-clause-value g c =
    pair_read c.widen.result c.widen-2.result c.args.direction c.widen.ensures.small c.widen-2.ensures.small
    ((λ i. (c.widen.ensures.value i, c.widen-2.ensures.value i)) ∙ (λ i. (c.x.ensures i, c.y.ensures i)))

pub returns-clause-narrow : goal.returns-clause-narrow
returns-clause-narrow g c =
    subst (IsNarrow (2 ^ 30)) (sym (returns-clause-value g c))
    (short_narrow g.I.IntNumber.unit c.args.direction g.met.I.IntNumber.most_law (search rules))
