use Rattle.std.proofs.Common.{◌≡◌, [], take}
use Rattle.mesh_paths.specs.Paths.{AreHeld}
use Rattle.mesh_paths.specs.Filed.{AreFiled}
use Rattle.mesh_paths.specs.Stops.{AreBelow}
use Rattle.mesh_paths.proofs.paths.Paths.start.Given as goal

abbrev pub invariant-loop-k : goal.invariant-loop-k
invariant-loop-k l = record {
  filed : AreFiled l.paths;
  edges : l.paths.edges.items ≡ take l.k l.list.items;
  points : l.paths.points ≡ l.fn.given.points;
  splits : l.paths.splits ≡ [];
  held : AreHeld l.paths;
  below : AreBelow l.paths.stops l.first;
}
