use Rattle.std.proofs.Common.{◌≡◌, List, ℕ, length, take}
use Rattle.mesh_lattice.specs.Split.{after}
use Rattle.mesh_in_line.specs.Private.Lines.{cuts_to, point_at, AreFirsts}
use Rattle.mesh_in_line.proofs.in_line.pieces.Given as goal

abbrev pub invariant-loop-k : goal.invariant-loop-k
invariant-loop-k l =
    (firsts : List ℕ) → AreFirsts l.spans (length l.spans) (length l.places) firsts
    → l.cut.items ≡ after (cuts_to (point_at l.level l.places) firsts (length l.places)) (take l.k l.edges)
