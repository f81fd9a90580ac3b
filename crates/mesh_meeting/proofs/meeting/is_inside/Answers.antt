use Rattle.std.proofs.Common.{◌≡◌, ◌∙◌, refl, sym}
use Rattle.std.specs.Prelude.{pos}
use Rattle.std.proofs.lemmas.Bool.{eq-eqb}
use mir.Syntax.{w64}
use mir.Val.{of_z}
use Rattle.mesh_meeting.proofs.Kept.{zero_bits}
use Rattle.mesh_meeting.proofs.meeting.is_inside.Goals as goal

pub returns : goal.returns
returns c =
    let zero : c.args.beside ≡ pos 0 = (zero_bits c.args.beside c.ranges.beside).0 (eq-eqb (of_z w64 c.args.beside) 0 c.if-beside-ne0.false) in (
      λ t. record {
        on_line = sym c.requires ∙ zero;
        in_box = c.is_in_box.ensures.0 c.if-not-is_in_box.false;
        no_end = sym c.is_end.ensures ∙ c.if-is_end.false;
      },
      λ inside. refl,
    )
