use Rattle.std.proofs.Common.{◌≡◌, map, take}
use Rattle.mesh_plane.specs.Plane.{Edge}
use Rattle.mesh_below.proofs.checks.start_alike.Given as goal

abbrev pub invariant-loop-i : goal.invariant-loop-i
invariant-loop-i l = map (λ (e : Edge). e.0) (take l.i l.first) ≡ map (λ (e : Edge). e.0) (take l.i l.second)
