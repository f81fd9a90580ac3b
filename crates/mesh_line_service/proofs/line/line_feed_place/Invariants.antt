-- No line feed was met.
use Rattle.std.proofs.Common.{◌≢◌, ◌-◌, ◌≤◌, All, length, take}
use Rattle.mesh_line_service.proofs.line.line_feed_place.Given as goal

abbrev pub invariant-loop-i : goal.invariant-loop-i
invariant-loop-i l = (l.i ≤ length l.bytes) × All (λ byte. byte ≢ 10) (take l.i l.bytes)

abbrev pub decreases-loop-i : goal.decreases-loop-i
decreases-loop-i l = length l.bytes - l.i
