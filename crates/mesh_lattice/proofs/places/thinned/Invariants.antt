use Rattle.std.proofs.Common.{◌≤◌, length}
use Rattle.mesh_lattice.specs.Marks.{AreRising}
use Rattle.mesh_lattice.proofs.places.thinned.Given as goal

abbrev pub invariant-loop-i : goal.invariant-loop-i
invariant-loop-i l = record { rising : AreRising l.left.items; most : length l.left.items ≤ l.most }
