use Rattle.std.proofs.Common.{◌∙◌, sym}
use Rattle.mesh_rounds.proofs.Joining.{clear_from_start, clear_to_end}
use Rattle.mesh_rounds.proofs.groups.only_join.Goals as goal

pub returns-then-is_end : goal.returns-then-is_end
returns-then-is_end c = λ t. clear_from_start c.args.x c.args.y (sym c.is_end.ensures ∙ c.if-is_end.true) (c.is_off.ensures t)

pub returns-then-is_end-2 : goal.returns-then-is_end-2
returns-then-is_end-2 c = λ t. clear_to_end c.args.x c.args.y (sym c.is_end-2.ensures ∙ c.if-is_end-2.true) (c.is_off-then-is_end-2.ensures t)
