use Rattle.mesh_lattice.specs.Marks.{AreRising}
use Rattle.mesh_lattice.proofs.places.marks_along.Given as goal

abbrev pub invariant-loop-at : goal.invariant-loop-at
invariant-loop-at l = AreRising l.marks.items
