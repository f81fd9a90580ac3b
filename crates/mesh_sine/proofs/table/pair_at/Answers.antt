use Rattle.mesh_sine.proofs.Halves.{listed}
use Rattle.mesh_sine.proofs.table.pair_at.Goals as goal

pub returns : goal.returns
returns c = listed c.args.table.now c.args.index (0, 0) c.requires.table c.requires.index
