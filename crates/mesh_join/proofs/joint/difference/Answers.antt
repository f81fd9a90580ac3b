-- Both differences fit 128 bits.
use Rattle.mesh_join.proofs.Wide.{minus_read}
use Rattle.mesh_join.proofs.joint.difference.Goals as goal

pub returns : goal.returns
returns c = minus_read c.args.point c.args.vector c.requires.point c.requires.vector
