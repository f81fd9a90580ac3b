use Rattle.std.proofs.Common.{ℕ, ◌<◌, ◌^◌}
use Rattle.std.specs.Prelude.{◌↔◌}
use Rattle.mesh_pairs.specs.Boxes.{lane, DoMeet, IsIn}
use Rattle.mesh_pairs.proofs.boxes.EightBounds.meeting.Given as goal

abbrev pub invariant-loop-k : goal.invariant-loop-k
invariant-loop-k l = record {
  places : (j : ℕ) → j < l.k → IsIn l.places j ↔ DoMeet (lane l.self j) l.bounds;
  few : l.places < 2 ^ l.k;
}
