-- Each operand is tested.
use Rattle.mesh_operands.proofs.combine.may_be_combined.Goals as goal

pub returns-in-Coverage : goal.returns-in-Coverage
returns-in-Coverage g c = rw c.in-Coverage.is (rw c.deref.ensures.value at c.may_all_take_part.ensures)

pub returns-in-Overlaps : goal.returns-in-Overlaps
returns-in-Overlaps g c = rw c.in-Overlaps.is (rw c.deref-in-Overlaps.ensures.value at c.may_all_take_part-in-Overlaps.ensures)
