-- Each kind is drawn in its own way.
use Rattle.mesh_drawing.proofs.region.region_within.Goals as goal

pub returns-in-Outline-clause-regions : goal.returns-in-Outline-clause-regions
returns-in-Outline-clause-regions g c = rw c.in-Outline.is c.near_shapes.ensures.shapes

pub returns-in-Outline-clause-counted : goal.returns-in-Outline-clause-counted
returns-in-Outline-clause-counted g c = rw c.in-Outline.is c.near_shapes.ensures.counted

pub returns-in-Stroke-clause-regions : goal.returns-in-Stroke-clause-regions
returns-in-Stroke-clause-regions g c = rw c.in-Stroke.is c.near_shapes-in-Stroke.ensures.shapes

pub returns-in-Stroke-clause-counted : goal.returns-in-Stroke-clause-counted
returns-in-Stroke-clause-counted g c = rw c.in-Stroke.is c.near_shapes-in-Stroke.ensures.counted

pub returns-in-VariableStroke-clause-regions : goal.returns-in-VariableStroke-clause-regions
returns-in-VariableStroke-clause-regions g c = rw c.in-VariableStroke.is c.near_shapes-in-VariableStroke.ensures.shapes

pub returns-in-VariableStroke-clause-counted : goal.returns-in-VariableStroke-clause-counted
returns-in-VariableStroke-clause-counted g c = rw c.in-VariableStroke.is c.near_shapes-in-VariableStroke.ensures.counted
