use Rattle.std.proofs.Common.{take}
use Rattle.mesh_lattice.specs.Clean.{IsProper}
use Rattle.mesh_below.proofs.given.are_proper.Given as goal

abbrev pub invariant-loop-e : goal.invariant-loop-e
invariant-loop-e l = IsProper (take l.e-index l.edges)
