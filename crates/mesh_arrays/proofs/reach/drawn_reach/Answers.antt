-- What would not stay in range is refused.
use Rattle.std.proofs.Common.{sym, ◌∙◌}
use Rattle.std.proofs.lemmas.Bool.{true≢false}
use Rattle.mesh_arrays.proofs.reach.drawn_reach.Goals as goal

pub safe_reach-requires : goal.safe_reach-requires
safe_reach-requires g c = c.stays_in_range.ensures.0 c.if-stays_in_range.true

pub returns-else-stays_in_range : goal.returns-else-stays_in_range
returns-else-stays_in_range g c = λ safe. true≢false (sym (c.stays_in_range.ensures.1 safe) ∙ c.if-stays_in_range.false)
