-- The products and what is made of them fit 128 bits.
use Rattle.mesh_join.proofs.Wide.{factors_fit, cross_fits, cross_read}
use Rattle.mesh_join.proofs.joint.cross.Goals as goal

pub overflow_mul-result : goal.overflow_mul-result
overflow_mul-result c = factors_fit c.args.v.0 c.args.w.1 c.requires.v.x c.requires.w.y

pub overflow_mul-result-2 : goal.overflow_mul-result-2
overflow_mul-result-2 c = factors_fit c.args.v.1 c.args.w.0 c.requires.v.y c.requires.w.x

pub overflow_sub-result : goal.overflow_sub-result
overflow_sub-result c = cross_fits c.args.v c.args.w c.requires.v c.requires.w

pub returns : goal.returns
returns c = cross_read c.args.v c.args.w c.requires.v c.requires.w
