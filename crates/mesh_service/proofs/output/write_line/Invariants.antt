-- What was written and what is left make up the line.
use Rattle.std.proofs.Common.{◌≡◌, ℕ, List, ◌++◌}
use Rattle.std.specs.Io.KnownBytes.{Appends}
use Rattle.mesh_service.proofs.output.write_line.Given as goal

abbrev pub invariant-loop : goal.invariant-loop
invariant-loop g l = (done : List ℕ) × (l.initial.line ≡ done ++ l.rest) × Appends (g.W.Write.contents l.initial.writer) (g.W.Write.contents l.writer) done
