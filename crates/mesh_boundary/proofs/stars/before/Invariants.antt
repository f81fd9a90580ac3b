use Rattle.std.proofs.Common.{◌≡◌, take}
use Rattle.mesh_boundary.specs.Private.Stars.{counted_before}
use Rattle.mesh_boundary.proofs.stars.before.Given as goal

abbrev pub invariant-loop-s : goal.invariant-loop-s
invariant-loop-s l = l.sum ≡ counted_before l.e (take l.s-index l.fan)
