-- Each kind is drawn in its own way.
use Rattle.mesh_drawing.proofs.draw.draw.Goals as goal

pub returns-in-Outline-clause-past : goal.returns-in-Outline-clause-past
returns-in-Outline-clause-past g c = rw c.in-Outline.is c.draw_one.ensures.past

pub returns-in-Stroke-clause-past : goal.returns-in-Stroke-clause-past
returns-in-Stroke-clause-past g c = rw c.in-Stroke.is c.draw_one-in-Stroke.ensures.past

pub returns-in-VariableStroke-clause-past : goal.returns-in-VariableStroke-clause-past
returns-in-VariableStroke-clause-past g c = rw c.in-VariableStroke.is c.draw_one-in-VariableStroke.ensures.past
