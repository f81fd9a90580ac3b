-- Roots that are raised to whole numbers.
use Rattle.std.specs.Prelude.{ℕ, suc, ◌*◌, if◌then◌else◌, nat_eq}
use Rattle.mesh_sine.specs.Sine.{root}

-- the root of a whole number, raised to the next whole number where it is none
unfoldable pub raised_root : ℕ → ℕ
raised_root n = if nat_eq (root n * root n) n then root n else suc (root n)
