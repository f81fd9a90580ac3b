-- A stroke is the same from both ends of its path.
use Rattle.mesh_stroke.proofs.Reversal.{strokes_can_be_reversed}
use Rattle.mesh_stroke.proofs.laws.strokes_can_be_reversed.Goals as goal

pub returns : goal.returns
returns c = strokes_can_be_reversed
