use Rattle.mesh_boolean.specs.Private.Meeting.{AreBoxes}
use Rattle.mesh_boolean.proofs.Meeting.{zones_in}
use Rattle.mesh_boolean.proofs.meeting_pairs.boxes_of.Given as goal

-- those of the zones so far
abbrev pub invariant-loop-place : goal.invariant-loop-place
invariant-loop-place g l = AreBoxes (zones_in l.zones) l.place l.boxes.items
