-- Laws of sines. The function of the same name in the module `laws` carries each.
use Rattle.std.specs.Prelude.{ℕ, ◌^◌, ◌<◌, ◌≤◌, pos, ◌≤ℤ◌}
use Rattle.mesh_sine.specs.Sine.{sin_cos}

-- below a quarter turn, an angle of at least 2 ^ 24 bits has a sine of at least 2 ^ 24
abbrev pub SinesAreNotSmall : Type 0
SinesAreNotSmall = (bits : ℕ) → 2 ^ 24 ≤ bits → bits < 2 ^ 30 → pos (2 ^ 24) ≤ℤ (sin_cos bits).0
