-- The sections so far.
use Rattle.std.proofs.Common.{take}
use Rattle.std.specs.List.{All}
use Rattle.mesh_inner.specs.Inner.{IsSectionWide}
use Rattle.mesh_inner.specs.Private.Walks.{IsLimit}
use Rattle.mesh_inner.proofs.section.sections_limit.Given as goal

abbrev pub invariant-loop-edge : goal.invariant-loop-edge
invariant-loop-edge g l =
    IsLimit l.least (λ t. IsSectionWide g.I.IntNumber.unit (g.I.IntNumber.value l.fn.radius) t l.fn.first
    × All (IsSectionWide g.I.IntNumber.unit (g.I.IntNumber.value l.fn.radius) t) (take l.edge-index l.others))
