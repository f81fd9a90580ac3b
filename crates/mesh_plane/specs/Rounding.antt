-- Quotients rounded to a whole number.
use Rattle.std.specs.Prelude.{ℕ, suc, ◌+◌, ◌*◌, ◌/◌, ℤ, pos, negsuc, neg_ℤ}

-- the whole number next to `a / d`; a half goes away from 0
abbrev pub rounded : ℤ → ℕ → ℤ
rounded (pos a) d = pos ((2 * a + d) / (2 * d))
rounded (negsuc a) d = neg_ℤ (pos ((2 * suc a + d) / (2 * d)))
