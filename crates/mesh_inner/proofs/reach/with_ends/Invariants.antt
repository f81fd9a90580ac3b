-- The last edge so far.
use Rattle.std.proofs.Common.{◌≡◌, take}
use Rattle.mesh_plane.specs.Turning.{last_of}
use Rattle.mesh_inner.proofs.reach.with_ends.Given as goal

abbrev pub invariant-loop-edge : goal.invariant-loop-edge
invariant-loop-edge g l = l.last ≡ last_of l.first (take l.edge-index l.others)
