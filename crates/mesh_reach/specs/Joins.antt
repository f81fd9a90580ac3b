-- How far joins reach from their corners, as twice the square of a distance.
use Rattle.std.specs.Prelude.{ℕ, ◌+◌, ◌*◌, max, ℤ, unsigned_abs}
use Rattle.mesh_join.specs.Miters.{miter_padding}
use Rattle.mesh_join.specs.declared.style.IntLineJoin.{IntLineJoin}
use Rattle.mesh_join.specs.declared.style.IntLineJoin.TheVariants.{Bevel, Miter, Round}

-- rounding may put a point at the distance `n` farther away by the root of a half: this is at least twice the square of
-- both together
abbrev pub rounded_reach : ℕ → ℕ
rounded_reach n = 2 * (n * n) + 3 * n + 1

-- twice the square of the diagonal of a square with the side `n`
abbrev pub diagonal_reach : ℕ → ℕ
diagonal_reach n = 4 * (n * n)

-- how far a join of each kind reaches from its corner
abbrev pub join_reach : IntLineJoin → ℤ → ℕ
join_reach Bevel radius = rounded_reach (unsigned_abs radius)
join_reach (Miter angle) radius =
    max (rounded_reach (unsigned_abs radius)) (diagonal_reach (unsigned_abs (miter_padding angle radius)))
join_reach (Round _) radius = rounded_reach (unsigned_abs radius)
