use Rattle.std.proofs.Common.{◌≡◌, ℕ}
use Rattle.mesh_boundary.specs.Private.Stars.{part}
use Rattle.mesh_boundary.proofs.stars.parts_of.Given as goal

abbrev pub invariant-loop-size : goal.invariant-loop-size
invariant-loop-size l = (i : ℕ) → (part l.parts.items i).1 ≡ 0
