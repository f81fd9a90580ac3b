use Rattle.std.proofs.Common.{sym, ◌∙◌, subst}
use Rattle.std.specs.Prelude.{ℤ}
use Rattle.std.proofs.lemmas.Bool.{false≢true}
use Rattle.mesh_lattice.specs.Split.{AreOpposite}
use Rattle.mesh_pairs.proofs.pairs.do_cross.Goals as goal

pub returns-then-not-are_opposite : goal.returns-then-not-are_opposite
returns-then-not-are_opposite c = (
  λ t. absurd (false≢true t),
  λ h. absurd (false≢true (sym c.if-not-are_opposite.true ∙ c.are_opposite.ensures.1 (subst (λ (s : ℤ × ℤ). AreOpposite s.0 s.1) (sym c.requires.second) h.second_parted))),
)

pub returns : goal.returns
returns c = (
  λ t. record {
    second_parted = subst (λ (s : ℤ × ℤ). AreOpposite s.0 s.1) c.requires.second (c.are_opposite.ensures.0 c.if-not-are_opposite.false);
    first_parted = subst (λ (s : ℤ × ℤ). AreOpposite s.0 s.1) c.requires.first (c.are_opposite-2.ensures.0 t);
  },
  λ h. c.are_opposite-2.ensures.1 (subst (λ (s : ℤ × ℤ). AreOpposite s.0 s.1) (sym c.requires.first) h.first_parted),
)
