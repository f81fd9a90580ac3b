-- A stroke is measured; of anything else nothing is told.
use Rattle.std.proofs.Common.{refl}
use Rattle.mesh_arrays.proofs.reach.safe_reach.Goals as goal

pub stroke_reach-requires : goal.stroke_reach-requires
stroke_reach-requires g c = rw c.in-Stroke.is at c.requires

pub returns-in-Outline : goal.returns-in-Outline
returns-in-Outline g c = record { accepted = c.requires; found = rw c.in-Outline.is refl }

pub returns-in_ok-stroke_reach-in-Stroke : goal.returns-in_ok-stroke_reach-in-Stroke
returns-in_ok-stroke_reach-in-Stroke g c = record { accepted = c.requires; found = rw c.in-Stroke.is c.in_ok-stroke_reach-in-Stroke.ensures }

pub returns-in-VariableStroke : goal.returns-in-VariableStroke
returns-in-VariableStroke g c = record { accepted = c.requires; found = rw c.in-VariableStroke.is refl }
