-- A padding covers its offset, so it is not negative.
use Rattle.std.proofs.Common.{arith}
use Rattle.std.proofs.lemmas.Int.{ints}
use Rattle.mesh_outline.proofs.bounds.outline_padding.Goals as goal

pub returns-then-is_wide_less-clause-least : goal.returns-then-is_wide_less-clause-least
returns-then-is_wide_less-clause-least g c = omega (arith, ints, c.padding-inner.ensures.covers)

pub returns-else-is_wide_less-clause-least : goal.returns-else-is_wide_less-clause-least
returns-else-is_wide_less-clause-least g c = omega (arith, ints, c.padding-outer.ensures.covers)
