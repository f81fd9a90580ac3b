-- A list of pairs that holds a quarter turn's halves, tested by squares and quotients: only private contracts read
-- this.
use Rattle.std.specs.Prelude.{ℕ, List, [], ◌∷◌, ◌+◌, ◌-◌, ◌*◌, ◌/◌, Bool, true, leb, ltb, eqb, ◌&&◌}
use Rattle.mesh_sine.specs.Sine.{one}

-- whether the cosine of `a` is the one of half the angle, and whether the sine is
abbrev pub is_half_cosine : ℕ × ℕ → ℕ × ℕ → Bool
is_half_cosine e a = leb (a.0 * a.0) (one * (one + e.0) / 2) && ltb (one * (one + e.0) / 2) ((a.0 + 1) * (a.0 + 1))

abbrev pub is_half_sine : ℕ × ℕ → ℕ × ℕ → Bool
is_half_sine e a = eqb (e.1 * one / (2 * a.0)) a.1 && leb (a.1 * a.1) (one * one - a.0 * a.0)

-- whether each pair of the list is the half of the one before it, the first the half of `e`; a check computes it
abbrev pub are_halves : ℕ × ℕ → List (ℕ × ℕ) → Bool
are_halves e [] = true
are_halves e (a ∷ l) = (is_half_cosine e a && is_half_sine e a) && are_halves a l
