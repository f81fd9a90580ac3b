-- Quotients of a product, rounded to a whole number.
use Rattle.std.specs.Prelude.{ℤ, pos, negsuc, suc, neg_ℤ, ◌*ℤ◌}
use Rattle.mesh_plane.specs.Rounding.{rounded}

-- the whole number next to `a * b / d`; a half goes away from 0. The sign of `d` moves to the product.
abbrev pub rounded_product : ℤ → ℤ → ℤ → ℤ
rounded_product a b (pos d) = rounded (a *ℤ b) d
rounded_product a b (negsuc d) = rounded (neg_ℤ (a *ℤ b)) (suc d)
