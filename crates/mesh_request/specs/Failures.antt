-- Failures, and their lines, which are printed in place of an answer.
use Rattle.std.specs.Prelude.{ℕ, List, codes}
use Rattle.mesh_offset.specs.declared.error.IntOutlineError.TheVariants.{CoordinateOutOfRange, OutOfMemory}
use Rattle.mesh_request.specs.declared.failure.Failure.{Failure}
use Rattle.mesh_request.specs.declared.failure.Failure.TheVariants.{Unreadable, Refused}

-- the line of a failure
abbrev pub failure_line : Failure → List ℕ
failure_line Unreadable = codes "{\"unreadable\":\"request\"}\n"
failure_line (Refused CoordinateOutOfRange) =
    codes "{\"refused\":\"mesh coordinate exceeds the integer engine range\"}\n"
failure_line (Refused OutOfMemory) = codes "{\"refused\":\"mesh construction ran out of memory\"}\n"

-- memory was refused
abbrev pub IsOfMemory : Failure → Type 0
IsOfMemory Unreadable = ⊥
IsOfMemory (Refused CoordinateOutOfRange) = ⊥
IsOfMemory (Refused OutOfMemory) = Unit {0}
