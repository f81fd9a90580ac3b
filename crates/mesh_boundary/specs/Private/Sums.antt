-- Rows of segments, which are listed once many sums were asked for.
use Rattle.std.specs.Prelude.{List, ℤ, Option, IfSome}
use Rattle.mesh_lattice.specs.Counted.{Counted}
use Rattle.mesh_lattice.specs.declared.rows.Rows.{Rows}
use Rattle.mesh_lattice.specs.Rows.{AreRows}

-- rows, if there are any, have these segments
abbrev pub MayHaveRows : Option (Rows ℤ) → List Counted → Type 0
MayHaveRows rows ks = IfSome rows (λ r. AreRows r.marks.items r.lists.items ks)
