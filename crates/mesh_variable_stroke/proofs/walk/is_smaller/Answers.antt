-- The circle is not smaller than the first one of the section.
use Rattle.std.proofs.Common.{sym, ◌∙◌}
use Rattle.mesh_num.proofs.Subjects.{less_is}
use Rattle.mesh_variable_stroke.proofs.Stepping.{smaller_or}
use Rattle.mesh_variable_stroke.proofs.walk.is_smaller.Goals as goal

pub returns-else-is_less : goal.returns-else-is_less
returns-else-is_less g c =
    let seen = rw (← c.section-inside.view_is) at c.section.view_is in
    smaller_or _ c.args.circle _ c.args.section.now _ c.circle.view_is seen
    (sym (less_is _ _ _ c.is_less.ensures) ∙ c.if-is_less.false)
    (less_is _ _ _ c.is_less-else-is_less.ensures)
