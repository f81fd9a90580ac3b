-- Radius and step of round joins, by a formula: the radius times the cosine of half the step is at least one unit more
-- than the distance. Twice the square of that cosine is one and the cosine of the step.
use Rattle.std.specs.Prelude.{ℕ, suc, ◌≡◌, ◌+◌, ◌-◌, ◌*◌, ◌^◌, ◌≤◌, ◌<◌, ◌⊎◌, min, max, Option, Some, None, unsigned_abs}
use Rattle.mesh_sine.specs.Sine.{sin_cos}

-- the size of the cosine, times 2 ^ 30, of a step that is brought to between 2 ^ 22 and 2 ^ 29 bits
abbrev pub cosine : ℕ → ℕ
cosine step = unsigned_abs (sin_cos (min (max step (2 ^ 22)) (2 ^ 29))).1

-- arcs of this step with this radius keep the distance, by the formula
abbrev pub DoesKeep : ℕ → ℕ → ℕ → Type 0
DoesKeep distance step radius = 2 ^ 31 * (suc distance * suc distance) ≤ radius * radius * (2 ^ 30 + cosine step)

-- the least radius that does; none where that is above 2 ^ 28
abbrev pub IsRadiusFor : ℕ → ℕ → Option ℕ → Type 0
IsRadiusFor distance step (Some radius) =
    (radius ≤ 2 ^ 28) × DoesKeep distance step radius × ((r : ℕ) → DoesKeep distance step r → radius ≤ r)
IsRadiusFor distance step None = (r : ℕ) → DoesKeep distance step r → 2 ^ 28 < r

-- the greatest step with which a radius of one unit less than the distance and the tolerance does, as far as steps that
-- are one bit apart tell; none where the least step does not
abbrev pub IsStepFor : ℕ → ℕ → Option ℕ → Type 0
IsStepFor distance tolerance (Some step) =
    (2 ^ 22 ≤ step) × (step ≤ 2 ^ 29) × DoesKeep distance step (distance + (tolerance - 1))
    × ((step ≡ 2 ^ 29) ⊎ (DoesKeep distance (suc step) (distance + (tolerance - 1)) → ⊥))
IsStepFor distance tolerance None = DoesKeep distance (2 ^ 22) (distance + (tolerance - 1)) → ⊥
