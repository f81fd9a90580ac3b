-- There is a reason where the bytes hold no request.
use Rattle.std.proofs.Common.{length, refl, ap, ◌∙◌}
use Rattle.std.specs.Prelude.{string_bytes}
use Rattle.mesh_text.specs.Whys.{TellsWhy}
use Rattle.mesh_text.proofs.why.why.Goals as goal

pub returns-in-Ok-None : goal.returns-in-Ok-None
returns-in-Ok-None c = TellsWhy.none (rw c.in-Ok-None.field-0-is at c.in-Ok-None.ensures) refl refl

pub returns-in-Ok-Some : goal.returns-in-Ok-Some
returns-in-Ok-Some c =
    let none = rw c.in-Ok-Some.field-0-is at c.in-Ok-Some.ensures in
    TellsWhy.reasoned {text = string_bytes c.in-Ok-Some.text} none (c.hand_over.ensures.size ∙ ap length c.as_bytes.ensures.value)
    (rw c.as_bytes.ensures.value at c.hand_over.ensures.handed)

pub returns-in-Err : goal.returns-in-Err
returns-in-Err c = TellsWhy.no_memory refl refl
