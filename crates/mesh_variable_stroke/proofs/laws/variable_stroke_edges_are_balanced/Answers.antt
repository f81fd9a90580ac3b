-- The edges of strokes can be resolved.
use Rattle.mesh_variable_stroke.proofs.Resolving.{stroke_closed}
use Rattle.mesh_variable_stroke.proofs.laws.variable_stroke_edges_are_balanced.Goals as goal

pub returns : goal.returns
returns c unit options paths built same = stroke_closed unit options paths built same
