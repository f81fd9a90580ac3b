use Rattle.std.proofs.Common.{◌≡◌, map, take}
use Rattle.mesh_lattice.specs.Split.{back}
use Rattle.mesh_below.proofs.checks.backwards.Given as goal

abbrev pub invariant-loop-e : goal.invariant-loop-e
invariant-loop-e l = l.backwards.items ≡ map back (take l.e-index l.edges)
