use Rattle.std.proofs.Common.{ℕ, ◌<◌, sym, subst}
use Rattle.std.proofs.lemmas.Bool.{both_ways, false≢true}
use Rattle.mesh_below.proofs.Asking.{starts_at}
use Rattle.mesh_below.proofs.checks.start_alike.Goals as goal

pub returns-then-not-same_point : goal.returns-then-not-same_point
returns-then-not-same_point c = (
  (λ h. absurd (false≢true h)),
  (λ alike.
      absurd (both_ways _ (sym c.if-not-same_point.ensures)
      (starts_at c.args.first.now c.args.second.now c.loop-i.i _ c.loop-i-test.true (subst (λ (n : ℕ). c.loop-i.i < n) c.if-first-second.false c.loop-i-test.true) alike))),
)
