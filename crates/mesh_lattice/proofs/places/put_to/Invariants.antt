use Rattle.mesh_lattice.specs.Marks.{IsPutTo}
use Rattle.mesh_lattice.proofs.places.put_to.Given as goal

abbrev pub invariant-loop-i : goal.invariant-loop-i
invariant-loop-i g l = IsPutTo l.initial.lists.items l.lists.items l.first l.i l.x
