-- After an error the buffer is as it was.
use Rattle.mesh_stroke.proofs.offset.IntStrokeOffset.stroke_into.Goals as goal

pub returns-clause-err : goal.returns-clause-err
returns-clause-err g c = c.stroke_custom_into.ensures.err

pub returns-clause-regions : goal.returns-clause-regions
returns-clause-regions g c = rw c.new.ensures at c.stroke_custom_into.ensures.regions

pub returns-clause-edges : goal.returns-clause-edges
returns-clause-edges g c = rw c.new.ensures at c.stroke_custom_into.ensures.edges
