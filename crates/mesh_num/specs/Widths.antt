-- The units of both coordinate types, and that they are these. The lemmas stand here since the impls of `IntNumber`
-- cite them.
use Rattle.std.proofs.Common.{◌≡◌, ◌^◌, refl, inl, inr}
use Rattle.std.specs.Prelude.{ℕ, ◌⊎◌}

-- the unit of `i16` or of `i32`
unfoldable pub IsUnit : ℕ → Type 0
IsUnit unit = (unit ≡ 2 ^ 14) ⊎ (unit ≡ 2 ^ 30)

pub small_unit : IsUnit (2 ^ 14)
unfolding IsUnit
small_unit = inl refl

pub large_unit : IsUnit (2 ^ 30)
unfolding IsUnit
large_unit = inr refl
