use Rattle.std.proofs.Common.{◌≡◌, take}
use Rattle.std.specs.Prelude.{pos, ◌≤ℤ◌, ◌*ℤ◌, unsigned_abs}
use Rattle.mesh_boundary.specs.Private.Slants.{listed_winding, listed_size}
use Rattle.mesh_boundary.proofs.slanted.Slant.winding.Given as goal

abbrev pub invariant-loop-e : goal.invariant-loop-e
invariant-loop-e l = record {
  value : l.sum ≡ listed_winding l.self.0 l.q (take l.e-index l.row);
  size : pos (unsigned_abs l.sum) ≤ℤ (pos 3 *ℤ listed_size (take l.e-index l.row));
}
