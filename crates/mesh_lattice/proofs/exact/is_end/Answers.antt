use Rattle.std.proofs.Common.{◌∙◌, sym, ◌||◌}
use Rattle.mesh_lattice.specs.Split.{is_end}
use Rattle.mesh_plane.specs.Winding.{same_point}
use Rattle.mesh_lattice.proofs.exact.is_end.Goals as goal

pub returns-then-same_point : goal.returns-then-same_point
unfolding is_end
returns-then-same_point c = c.if-same_point.true ∙ λ i. (sym c.if-same_point.true ∙ c.same_point.ensures) i || same_point c.args.c c.args.e.1

pub returns-else-same_point : goal.returns-else-same_point
unfolding is_end
returns-else-same_point c = c.same_point-else-same_point.ensures ∙ λ i. (sym c.if-same_point.false ∙ c.same_point.ensures) i || same_point c.args.c c.args.e.1
