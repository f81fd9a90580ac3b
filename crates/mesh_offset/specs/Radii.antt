-- Half of a width.
use Rattle.std.specs.Prelude.{◌+◌, ◌/◌, ℤ, pos, negsuc}

-- half of a width, rounded up; a width below 0 counts as 0
abbrev pub radius_of : ℤ → ℤ
radius_of (pos width) = pos ((width + 1) / 2)
radius_of (negsuc width) = pos 0
