-- Step by step.
use Rattle.mesh_variable_stroke.proofs.ByIndex.{has_steps_by_index}
use Rattle.mesh_variable_stroke.proofs.laws.steps_are_by_index.Goals as goal

pub returns : goal.returns
returns c unit first others = has_steps_by_index unit first others
