use Rattle.std.proofs.Common.{◌≡◌, ℕ, ◌<◌, length, get_or}
use Rattle.mesh_in_line.specs.Private.Lines.{AreFirsts}
use Rattle.mesh_in_line.proofs.spans.firsts.Given as goal

abbrev pub invariant-loop-place : goal.invariant-loop-place
invariant-loop-place l = (length l.firsts.items ≡ l.place) × ((k : ℕ) → k < l.place → get_or l.firsts.items k 0 ≡ k)

abbrev pub invariant-loop-s : goal.invariant-loop-s
invariant-loop-s l = AreFirsts l.spans l.s-index l.places l.firsts.items
