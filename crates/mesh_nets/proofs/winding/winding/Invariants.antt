use Rattle.std.proofs.Common.{◌≡◌, ◌≤◌, take}
use Rattle.std.specs.Prelude.{unsigned_abs}
use Rattle.mesh_plane.specs.Winding.{refined, winding}
use Rattle.mesh_nets.proofs.winding.winding.Given as goal

abbrev pub invariant-loop-e : goal.invariant-loop-e
invariant-loop-e l = record {
  value : l.sum ≡ winding 2 (refined 2 l.fn.p) (take l.e-index l.edges);
  size : unsigned_abs l.sum ≤ l.e-index;
}
