-- Both sums fit 128 bits.
use Rattle.mesh_join.proofs.Wide.{plus_read}
use Rattle.mesh_join.proofs.joint.sum.Goals as goal

pub returns : goal.returns
returns c = plus_read c.args.point c.args.vector c.requires.point c.requires.vector
