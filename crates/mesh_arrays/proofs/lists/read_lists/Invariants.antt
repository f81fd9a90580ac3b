-- The lists so far stand end to end up to `start`, where the last of them ends.
use Rattle.std.proofs.Common.{◌≡◌, ◌≤◌, take, map, length}
use Rattle.mesh_num.specs.Paths.{paths_of}
use Rattle.mesh_arrays.specs.EndToEnd.{end_to_end, ends_from}
use Rattle.mesh_arrays.proofs.EndToEnd.{last_from}
use Rattle.mesh_arrays.proofs.lists.read_lists.Given as goal

abbrev pub invariant-loop-place : goal.invariant-loop-place
invariant-loop-place g l = record {
  joined : end_to_end (paths_of l.lists.items) ≡ take l.start (map g.T.Flat.item_of l.all);
  ended : ends_from 0 (paths_of l.lists.items) ≡ take l.place-index l.ends;
  last : l.start ≡ last_from 0 (take l.place-index l.ends);
  within : l.start ≤ length l.all;
}
