use Rattle.std.specs.List.{All}
use Rattle.mesh_in_line.specs.Private.Lines.{turned, AreRising, IsEndOfSome}
use Rattle.mesh_in_line.proofs.places.places.Given as goal

abbrev pub invariant-loop-p : goal.invariant-loop-p
invariant-loop-p l = AreRising l.places.items × All (λ p. IsEndOfSome l.edges (turned l.level p)) l.places.items
