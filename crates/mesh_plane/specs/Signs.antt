-- Numbers that have the signs of others.
use Rattle.std.specs.Prelude.{ℤ, pos, ◌≤ℤ◌}

-- `k` is 0 or has the sign of `x`, and is 0 where `x` is
pub record HasSignOf (x k : ℤ) : Type 0 where
  pub nonneg : pos 0 ≤ℤ x → pos 0 ≤ℤ k
  pub nonpos : x ≤ℤ pos 0 → k ≤ℤ pos 0
