use Rattle.std.proofs.Common.{take}
use Rattle.std.specs.List.{All}
use Rattle.mesh_clear.specs.Private.Looking.{IsClearMeeting}
use Rattle.mesh_clear.proofs.check.are_meetings_clear.Given as goal

abbrev pub invariant-loop-m : goal.invariant-loop-m
invariant-loop-m l = All (IsClearMeeting l.paths) (take l.m-index l.meetings)
