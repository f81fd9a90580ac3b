-- After an error the buffer is as it was handed on.
use Rattle.mesh_variable_stroke.proofs.offset.IntVariableStrokeOffset.variable_stroke_into.Goals as goal

pub returns-clause-err : goal.returns-clause-err
returns-clause-err g c = c.variable_stroke_custom_into.ensures.err

pub returns-clause-regions : goal.returns-clause-regions
returns-clause-regions g c = rw c.new.ensures at c.variable_stroke_custom_into.ensures.regions

pub returns-clause-edges : goal.returns-clause-edges
returns-clause-edges g c = rw c.new.ensures at c.variable_stroke_custom_into.ensures.edges
