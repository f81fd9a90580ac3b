use Rattle.std.proofs.Common.{◌^◌, ◌≤◌, List, take}
use Rattle.mesh_plane.specs.Plane.{Edge}
use Rattle.mesh_store.specs.Steps.{latest_first}
use Rattle.mesh_store.specs.Witnesses.{witness_in, AreSplitsOf, AreWitnessed}
use Rattle.mesh_split.proofs.nearness.nearness.Given as goal

abbrev pub invariant-loop-ends : goal.invariant-loop-ends
invariant-loop-ends l =
    ((given : List Edge) → AreSplitsOf given (latest_first (take l.ends-index l.ends-items))
    → AreWitnessed given (latest_first (take l.ends-index l.ends-items)) (witness_in l.witnesses) l.most)
    × (l.most ≤ 2 ^ 38)
