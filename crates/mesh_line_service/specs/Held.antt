-- What is held of a line.
use Rattle.std.specs.Prelude.{ℕ, ◌≡◌, ◌≤◌, ◌<◌, List, length, Option, Some, IfSome}
use Rattle.mesh_line_service.specs.declared.line.Held.{Held}
use Rattle.mesh_line_service.specs.declared.line.Held.TheVariants.{Whole, TooLong, NoMemory}

-- the line has at most so many bytes, where there is a bound
abbrev pub IsWithin : Option ℕ → List ℕ → Type 0
IsWithin longest line = IfSome longest (λ most. length line ≤ most)

-- of this line these bytes are held: all of it, where it is not too long; a part, as it is too long; or a part, as
-- memory was refused, and there was a byte
abbrev pub Holds : Option ℕ → List ℕ → List ℕ → Held → Type 0
Holds longest line bytes Whole = (bytes ≡ line) × IsWithin longest line
Holds longest line bytes (TooLong most) = (longest ≡ Some most) × (most < length line)
Holds longest line bytes NoMemory = 0 < length line
