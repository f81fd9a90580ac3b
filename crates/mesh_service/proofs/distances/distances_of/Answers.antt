-- Each kind of drawing has its distances.
use Rattle.mesh_service.proofs.distances.distances_of.Goals as goal

pub returns-in-Outline : goal.returns-in-Outline
returns-in-Outline g c = rw c.in-Outline.is c.outline_distances.ensures

pub stroke_distances-requires : goal.stroke_distances-requires
stroke_distances-requires g c = rw c.in-Stroke.is at c.requires

pub returns-in-Stroke : goal.returns-in-Stroke
returns-in-Stroke g c = rw c.in-Stroke.is c.stroke_distances.ensures

pub returns-in-VariableStroke : goal.returns-in-VariableStroke
returns-in-VariableStroke g c = rw c.in-VariableStroke.is c.variable_stroke_distances.ensures
