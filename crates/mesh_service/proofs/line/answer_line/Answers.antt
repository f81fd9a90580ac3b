-- An answer is listed as its kind is.
use Rattle.mesh_service.proofs.line.answer_line.Goals as goal

pub returns-in-Edges : goal.returns-in-Edges
returns-in-Edges g c = rw (c.in-Edges.is, ← c.deref.ensures.value) c.told_edges_line.ensures

pub returns-in-Shapes : goal.returns-in-Shapes
returns-in-Shapes g c = rw c.in-Shapes.is c.measured_line.ensures

pub returns-in-NearShapes : goal.returns-in-NearShapes
returns-in-NearShapes g c = rw c.in-NearShapes.is (rw c.where_told-nearness.ensures at c.measured_line-in-NearShapes.ensures)
