use Rattle.std.proofs.Common.{take}
use Rattle.mesh_clearance.proofs.Searching.{IsCleared}
use Rattle.mesh_clearance.proofs.search.clearance.Given as goal

abbrev pub invariant-loop-section : goal.invariant-loop-section
invariant-loop-section l = IsCleared l.edges (take l.section-index l.sections) l.sections l.least
