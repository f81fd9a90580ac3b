use Rattle.std.proofs.Common.{sym, ◌∙◌}
use Rattle.mesh_circle.proofs.Circles.{no_section_made}
use Rattle.mesh_circle.proofs.section.has_no_section.Goals as goal

pub returns-else-are_dots : goal.returns-else-are_dots
returns-else-are_dots g c =
    no_section_made c.args.a c.args.b c.is_nested_with.result (sym c.are_dots.ensures ∙ c.if-are_dots.false)
    c.is_nested_with.ensures
