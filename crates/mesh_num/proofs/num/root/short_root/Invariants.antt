use Rattle.std.proofs.Common.{◌-◌, ◌*◌, ◌^◌, ◌<◌, ◌≤◌}
use Rattle.mesh_num.proofs.num.root.short_root.Given as goal

abbrev pub invariant-loop-root : goal.invariant-loop-root
invariant-loop-root l = l.root < 2 ^ 32

abbrev pub decreases-loop-root : goal.decreases-loop-root
decreases-loop-root l = l.root

abbrev pub invariant-loop-root-2 : goal.invariant-loop-root-2
invariant-loop-root-2 l = record { within : l.root * l.root ≤ l.number; size : l.root < 2 ^ 32 }

abbrev pub decreases-loop-root-2 : goal.decreases-loop-root-2
decreases-loop-root-2 l = 2 ^ 32 - l.root
