use Rattle.std.proofs.Common.{◌≡◌, ◌∙◌, refl, sym}
use Rattle.std.specs.Prelude.{pos}
use Rattle.std.proofs.lemmas.Bool.{eq-eqb, false≢true}
use mir.Syntax.{w64}
use mir.Val.{of_z}
use Rattle.mesh_meeting.proofs.Kept.{zero_bits}
use Rattle.mesh_pairs.proofs.pairs.is_inside.Goals as goal

pub returns : goal.returns
returns c =
    let zero : c.args.beside ≡ pos 0 = (zero_bits c.args.beside c.ranges.beside).0 (eq-eqb (of_z w64 c.args.beside) 0 c.if-beside-ne0.false) in (
      λ t. record {
        on_line = sym c.requires ∙ zero;
        in_box = (c.of.ensures c.args.c).0 (c.holds.ensures.0 c.if-not-holds.false);
        no_end = sym c.is_end.ensures ∙ c.if-is_end.false;
      },
      λ inside. refl,
    )

pub returns-then-not-holds : goal.returns-then-not-holds
returns-then-not-holds c = (
  λ t. absurd (false≢true t),
  λ inside. absurd (false≢true (sym c.if-not-holds.true ∙ c.holds.ensures.1 ((c.of.ensures c.args.c).1 inside.in_box))),
)
