use Rattle.std.proofs.Common.{◌≡◌, ◌≤◌, ◌-◌, ◌++◌, length}
use Rattle.mesh_arrays.proofs.given.next_items.Given as goal

-- what was taken and what is left are what there was
abbrev pub invariant-loop-rest : goal.invariant-loop-rest
invariant-loop-rest g l = record {
  parts : l.initial.rest.items ≡ l.items.items ++ l.rest.items;
  few : length l.items.items ≤ l.count;
}

abbrev pub decreases-loop-rest : goal.decreases-loop-rest
decreases-loop-rest g l = l.count - length l.items.items
