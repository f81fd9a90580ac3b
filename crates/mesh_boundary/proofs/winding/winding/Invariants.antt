use Rattle.std.proofs.Common.{◌≡◌, take}
use Rattle.std.specs.Prelude.{pos, ◌≤ℤ◌, unsigned_abs}
use Rattle.mesh_plane.specs.Winding.{sum_of}
use Rattle.mesh_boundary.specs.Private.CountedSides.{counted_winding}
use Rattle.mesh_lattice.specs.Counted.{size}
use Rattle.mesh_boundary.proofs.winding.winding.Given as goal

abbrev pub invariant-loop-s : goal.invariant-loop-s
invariant-loop-s l = record {
  value : l.sum ≡ counted_winding l.q (take l.s-index l.segments);
  size : pos (unsigned_abs l.sum) ≤ℤ sum_of size (take l.s-index l.segments);
}
