-- The coordinate is above the least one and below the bound.
use Rattle.std.proofs.Common.{arith}
use Rattle.std.proofs.lemmas.Int.{ints}
use Rattle.mesh_offset.proofs.bounds.is_safe.Goals as goal

pub returns-then-is_wide_less : goal.returns-then-is_wide_less
returns-then-is_wide_less g c =
    let high = rw c.unit-then-is_wide_less.ensures at c.is_wide_less-then-is_wide_less.ensures in
    let above = c.is_wide_less.ensures.0 c.if-is_wide_less.true in
    let least = rw (c.to_wide.ensures.value, c.ZERO.ensures, g.met.I.IntNumber.value_zero, c.unit.ensures)
    at c.minus-least.ensures in
    (λ less. record { low = omega (arith, ints, least, above); high = high.0 less }, λ small. high.1 small.high)
