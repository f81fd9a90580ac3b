use Rattle.std.proofs.Common.{◌≡◌, take}
use Rattle.mesh_ahead.specs.Arranged.{unplaced}
use Rattle.mesh_ahead.proofs.settling.without_places.Given as goal

abbrev pub invariant-loop-k : goal.invariant-loop-k
invariant-loop-k l = l.edges.items ≡ unplaced (take l.k-index l.placed)
