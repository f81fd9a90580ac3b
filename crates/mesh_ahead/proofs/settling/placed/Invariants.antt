use Rattle.std.proofs.Common.{◌≡◌, take}
use Rattle.mesh_ahead.specs.Arranged.{unplaced}
use Rattle.mesh_ahead.proofs.settling.placed.Given as goal

abbrev pub invariant-loop-e : goal.invariant-loop-e
invariant-loop-e l = unplaced l.placed.items ≡ take l.e-index l.edges
