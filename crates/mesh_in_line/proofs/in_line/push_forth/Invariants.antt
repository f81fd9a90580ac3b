use Rattle.std.proofs.Common.{◌≡◌, ◌++◌}
use Rattle.mesh_in_line.specs.Private.Lines.{onward, point_at}
use Rattle.mesh_in_line.proofs.in_line.push_forth.Given as goal

abbrev pub invariant-loop-k : goal.invariant-loop-k
invariant-loop-k l = l.cut.items ≡ l.initial.cut.items ++ onward (point_at l.level l.places) l.s.from l.k
