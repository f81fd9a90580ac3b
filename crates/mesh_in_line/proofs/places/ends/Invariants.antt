use Rattle.std.specs.List.{All}
use Rattle.mesh_in_line.specs.Private.Lines.{turned, IsEndOfSome}
use Rattle.mesh_in_line.proofs.places.ends.Given as goal

abbrev pub invariant-loop-e : goal.invariant-loop-e
invariant-loop-e l = All (λ p. IsEndOfSome l.edges (turned l.level p)) l.ends.items
