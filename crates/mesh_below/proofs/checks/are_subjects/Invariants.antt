use Rattle.std.proofs.Common.{take}
use Rattle.std.specs.List.{All}
use Rattle.mesh_num.specs.Segments.{IsSubject}
use Rattle.mesh_below.proofs.checks.are_subjects.Given as goal

abbrev pub invariant-loop-s : goal.invariant-loop-s
invariant-loop-s g l = All IsSubject (take l.s-index l.segments)
