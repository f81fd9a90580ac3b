-- The next chain starts round at the greater circle.
use Rattle.std.proofs.Common.{◌∙◌, sym}
use Rattle.mesh_num.proofs.Subjects.{less_is}
use Rattle.mesh_variable_stroke.proofs.Stepping.{started_round}
use Rattle.mesh_variable_stroke.proofs.walk.break_off.Goals as goal

pub returns-in_ok-finish-clause-chain : goal.returns-in_ok-finish-clause-chain
returns-in_ok-finish-clause-chain g c =
    c.new.ensures ∙ started_round c.args.at c.args.next _ _ c.at.view_is c.next.view_is
    (sym (less_is _ _ _ c.is_less.ensures) ∙ c.if-is_less.true)
