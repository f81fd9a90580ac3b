use Rattle.mesh_store.specs.Steps.{KeepsPile, StandOnce}
use Rattle.mesh_split.proofs.first_pass.take_up.Given as goal

abbrev pub invariant-loop-e : goal.invariant-loop-e
invariant-loop-e l = record {
  once : StandOnce l.splitter.todo l.splitter.live;
  kept : KeepsPile l.initial.splitter.log l.initial.splitter.todo l.initial.splitter.live l.splitter.log l.splitter.todo l.splitter.live;
}
