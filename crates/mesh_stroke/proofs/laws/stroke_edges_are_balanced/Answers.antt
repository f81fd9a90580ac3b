-- The edges of strokes can be resolved.
use Rattle.mesh_stroke.proofs.Resolving.{stroke_closed}
use Rattle.mesh_stroke.proofs.laws.stroke_edges_are_balanced.Goals as goal

pub returns : goal.returns
returns c unit least style closed paths built same = stroke_closed unit least style closed paths built same
