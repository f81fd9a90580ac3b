use Rattle.std.proofs.Common.{sym, ◌∙◌}
use Rattle.mesh_lattice.specs.Split.{same_edge}
use Rattle.mesh_lattice.proofs.Ends.{decides_edge}
use Rattle.mesh_below.proofs.resolve.is_once.Goals as goal

pub returns : goal.returns
unfolding same_edge
returns c = λ t. λ i. ((decides_edge c.args.s.0 c.args.e).0 (sym c.eq.ensures ∙ t) i, c.is_one.ensures c.if-not-is_one.false i)
