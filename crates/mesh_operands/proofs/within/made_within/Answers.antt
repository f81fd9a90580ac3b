-- Each combination is made in its own way.
use Rattle.mesh_operands.proofs.within.made_within.Goals as goal

pub returns-in_ok-near-in-Coverage-clause-combined : goal.returns-in_ok-near-in-Coverage-clause-combined
returns-in_ok-near-in-Coverage-clause-combined g c = rw (c.shapes_answer-in-Coverage.ensures, c.in-Coverage.is) c.in_ok-near-in-Coverage.ensures.combined

pub returns-in_ok-near-in-Overlaps-clause-combined : goal.returns-in_ok-near-in-Overlaps-clause-combined
returns-in_ok-near-in-Overlaps-clause-combined g c = rw c.in-Overlaps.is c.in_ok-near-in-Overlaps.ensures.combined
