-- What is computed for an outline stays safe.
use Rattle.mesh_outline.proofs.Staying.{stays_safe}
use Rattle.mesh_outline.proofs.laws.outlines_stay_safe.Goals as goal

pub returns : goal.returns
returns c unit least style contours safe = stays_safe unit style contours least safe
