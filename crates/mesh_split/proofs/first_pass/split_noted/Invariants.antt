use Rattle.std.specs.Prelude.{◌≡◌}
use Rattle.mesh_store.specs.Steps.{IsPile}
use Rattle.mesh_split.proofs.first_pass.split_noted.Given as goal

abbrev pub invariant-loop-split : goal.invariant-loop-split
invariant-loop-split l = record { same : l.count ≡ l.fn.count; pile : IsPile l.fn.edges l.splitter.log l.splitter.todo l.splitter.live }
