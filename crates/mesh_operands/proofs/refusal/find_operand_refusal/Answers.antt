-- The subject comes before the clip, and zones come in their order.
use Rattle.mesh_operands.specs.Operands.{operand_of}
use Rattle.mesh_operands.proofs.Refused.{clip_refused}
use Rattle.mesh_operands.proofs.refusal.find_operand_refusal.Goals as goal

pub returns-in_default-clause-first : goal.returns-in_default-clause-first
returns-in_default-clause-first g c =
    rw c.in-Boolean.is
    (clip_refused g.I.IntNumber.unit (operand_of g.I.IntNumber.value c.in-Boolean.boolean.subject) (operand_of g.I.IntNumber.value c.in-Boolean.boolean.clip) c.at_operand-in-Boolean.result
    (c.at_operand.ensures.none.0 c.in_default.is) c.at_operand-in-Boolean.ensures.place c.at_operand-in-Boolean.ensures.reason)

pub returns-in-Coverage-clause-none : goal.returns-in-Coverage-clause-none
returns-in-Coverage-clause-none g c = rw c.in-Coverage.is (rw c.deref.ensures.value at c.first_zone.ensures.none)

pub returns-in-Coverage-clause-first : goal.returns-in-Coverage-clause-first
returns-in-Coverage-clause-first g c = rw c.in-Coverage.is (rw c.deref.ensures.value at c.first_zone.ensures.first)

pub returns-in-Overlaps-clause-none : goal.returns-in-Overlaps-clause-none
returns-in-Overlaps-clause-none g c = rw c.in-Overlaps.is (rw c.deref-in-Overlaps.ensures.value at c.first_zone-in-Overlaps.ensures.none)

pub returns-in-Overlaps-clause-first : goal.returns-in-Overlaps-clause-first
returns-in-Overlaps-clause-first g c = rw c.in-Overlaps.is (rw c.deref-in-Overlaps.ensures.value at c.first_zone-in-Overlaps.ensures.first)
