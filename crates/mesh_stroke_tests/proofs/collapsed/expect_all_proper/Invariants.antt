-- One builder of the style serves all forms.
use Rattle.std.proofs.Common.{◌≡◌}
use Rattle.mesh_stroke.specs.Styles.{stroke_style_of}
use Rattle.mesh_stroke_tests.proofs.collapsed.expect_all_proper.Given as goal

abbrev pub invariant-loop-is_closed : goal.invariant-loop-is_closed
invariant-loop-is_closed g l = l.builder ≡ stroke_style_of g.I.IntNumber.value l.style
