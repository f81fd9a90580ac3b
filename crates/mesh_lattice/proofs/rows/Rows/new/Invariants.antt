use Rattle.std.proofs.Common.{take}
use Rattle.mesh_lattice.specs.Rows.{AreRows}
use Rattle.mesh_lattice.proofs.rows.Rows.new.Given as goal

abbrev pub invariant-loop-e : goal.invariant-loop-e
invariant-loop-e g l = AreRows l.marks.items l.lists.items (take l.e-index l.edges)
