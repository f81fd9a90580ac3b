-- The groups so far stand end to end up to `start`, where the last of them ends, and the other lists are left.
use Rattle.std.proofs.Common.{◌≡◌, ◌≤◌, take, drop, length}
use Rattle.mesh_num.specs.Paths.{paths_of}
use Rattle.mesh_arrays.specs.EndToEnd.{end_to_end, ends_from}
use Rattle.mesh_arrays.proofs.EndToEnd.{last_from}
use Rattle.mesh_arrays.proofs.given.group.Given as goal

abbrev pub invariant-loop-place : goal.invariant-loop-place
invariant-loop-place g l = record {
  joined : end_to_end (paths_of l.groups.items) ≡ take l.start l.fn.lists.items;
  ended : ends_from 0 (paths_of l.groups.items) ≡ take l.place-index l.ends;
  last : l.start ≡ last_from 0 (take l.place-index l.ends);
  within : l.start ≤ length l.fn.lists.items;
  left : l.rest.items ≡ drop l.start l.fn.lists.items;
}
