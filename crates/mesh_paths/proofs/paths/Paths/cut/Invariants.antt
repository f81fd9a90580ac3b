use Rattle.std.proofs.Common.{◌≡◌, false, true}
use Rattle.mesh_lattice.specs.Split.{occurs}
use Rattle.mesh_paths.specs.Private.Cutting.{cut_of, IsCutting}
use Rattle.mesh_paths.specs.Stops.{path_of}
use Rattle.mesh_paths.proofs.paths.Paths.cut.Given as goal

abbrev pub invariant-loop-left : goal.invariant-loop-left
invariant-loop-left l = record {
  cutting : IsCutting l.fn.self l.self (cut_of l.a l.b l.stop) l.a.id l.left;
  near : l.is_cut ≡ true → occurs (l.a.at, l.b.at) (path_of l.self.stops l.near.path) ≡ false;
}

abbrev pub decreases-loop-left : goal.decreases-loop-left
decreases-loop-left l = l.left
