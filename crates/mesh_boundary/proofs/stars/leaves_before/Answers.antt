use Rattle.std.proofs.Common.{◌∙◌, sym}
use Rattle.mesh_boundary.proofs.StarLists.{not_leaving_before}
use Rattle.mesh_boundary.proofs.stars.leaves_before.Goals as goal

pub returns-then-same_point : goal.returns-then-same_point
returns-then-same_point c = sym (not_leaving_before c.args.s c.args.e (sym c.same_point.ensures ∙ c.if-same_point.true))
