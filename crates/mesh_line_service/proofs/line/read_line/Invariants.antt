-- What was taken of the line so far, which has no line feed, is held as far as it may be.
use Rattle.std.proofs.Common.{◌≢◌, ℕ, List, All}
use Rattle.std.specs.Io.KnownBytes.{Consumes}
use Rattle.mesh_line_service.specs.Held.{Holds}
use Rattle.mesh_line_service.proofs.line.read_line.Given as goal

abbrev pub invariant-loop : goal.invariant-loop
invariant-loop g l = (text : List ℕ) × All (λ byte. byte ≢ 10) text
    × Consumes (g.R.Read.remaining l.initial.reader) (g.R.Read.remaining l.reader) text
    × Holds l.longest text l.line.bytes.items l.line.held
