use Rattle.std.specs.Prelude.{◌*◌}
use Rattle.mesh_split.specs.Counting.{CountsAtMost}
use Rattle.mesh_store.specs.Steps.{IsPile, AllClear}
use Rattle.mesh_split.proofs.first_pass.first_pass.Given as goal

abbrev pub invariant-loop-draw : goal.invariant-loop-draw
invariant-loop-draw l = record {
  counted : CountsAtMost (4 * l._draw) l.fn.edges l.fn.count l.count;
  pile : IsPile l.fn.edges l.splitter.log l.splitter.todo l.splitter.live;
  clear : AllClear l.splitter.live;
}
