-- Each cap is that of its end.
use Rattle.mesh_stroke.proofs.caps.BothCaps.new.Goals as goal

pub returns : goal.returns
returns g c = λ i. (c.new.ensures i, c.new-2.ensures i)
