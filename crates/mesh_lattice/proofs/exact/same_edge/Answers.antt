use Rattle.std.proofs.Common.{◌∙◌, sym, ◌&&◌}
use Rattle.mesh_plane.specs.Winding.{same_point}
use Rattle.mesh_lattice.specs.Split.{same_edge}
use Rattle.mesh_lattice.proofs.exact.same_edge.Goals as goal

pub returns-then-same_point : goal.returns-then-same_point
unfolding same_edge
returns-then-same_point c =
    c.same_point-then-same_point.ensures ∙ λ i. (sym c.if-same_point.true ∙ c.same_point.ensures) i && same_point c.args.e.1 c.args.f.1

pub returns-else-same_point : goal.returns-else-same_point
unfolding same_edge
returns-else-same_point c = c.if-same_point.false ∙ λ i. (sym c.if-same_point.false ∙ c.same_point.ensures) i && same_point c.args.e.1 c.args.f.1
