use Rattle.std.proofs.Common.{◌≡◌, ◌-◌, ◌++◌}
use Rattle.mesh_in_line.specs.Private.Lines.{backward, point_at}
use Rattle.mesh_in_line.proofs.in_line.push_back.Given as goal

abbrev pub invariant-loop-k : goal.invariant-loop-k
invariant-loop-k l = l.cut.items ≡ l.initial.cut.items ++ backward (point_at l.level l.places) (l.s.to - l.k) l.k
