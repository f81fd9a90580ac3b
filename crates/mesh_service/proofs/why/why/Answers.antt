-- There is a reason where the text holds no request.
use Rattle.std.proofs.Common.{◌≡◌, ℕ, List, Option, None, Result, Err, IfOk, IfSome, refl, sym, subst, ◌∙◌}
use Rattle.std.specs.Prelude.{◌↔◌}
use Rattle.std.specs.declared.alloc.AllocError.{AllocError}
use Rattle.std.proofs.lemmas.Option.{none-some}
use Rattle.mesh_service.specs.Private.Told.{reason_of}
use Rattle.mesh_service.specs.Reasons.{HoldsRequest, IsReadOf, LiesIn}
use Rattle.mesh_service.specs.declared.reason.Reason.{Reason}
use Rattle.mesh_service.specs.declared.text.TextError.{TextError}
use Rattle.mesh_service.specs.declared.text.TextError.TheVariants.{NoRequest, OutOfMemory}
use Rattle.mesh_service.proofs.why.why.Goals as goal

told_exactly : (text : List ℕ) (error : TextError) → IsReadOf text (Err error) → IfOk (reason_of error) (λ reason. reason ≡ None ↔ HoldsRequest text)
told_exactly text (NoRequest reason) read = (λ same. absurd (none-some reason (sym same)), λ held. absurd (none-some held.request (sym (read.0 held.utf8) ∙ held.requested)))
told_exactly text OutOfMemory read = tt

told_place : (text : List ℕ) (error : TextError) → IsReadOf text (Err error) → IfOk (reason_of error) (λ reason. IfSome reason (LiesIn text))
told_place text (NoRequest reason) read = read.1
told_place text OutOfMemory read = tt

pub returns-in-Ok-clause-exact : goal.returns-in-Ok-clause-exact
returns-in-Ok-clause-exact c =
    let read = rw c.in-Ok.is at c.read_text.ensures in
    (λ _. record { utf8 = read.0; request = _; requested = read.1 }, λ _. refl)

pub returns-clause-exact : goal.returns-clause-exact
returns-clause-exact c =
    subst (λ (told : Result (Option Reason) AllocError). IfOk told (λ reason. reason ≡ None ↔ HoldsRequest c.args.text.now)) (sym c.reason_of.ensures)
    (told_exactly c.args.text.now c.in-Err.error (rw c.in-Err.is at c.read_text.ensures))

pub returns-clause-place : goal.returns-clause-place
returns-clause-place c =
    subst (λ (told : Result (Option Reason) AllocError). IfOk told (λ reason. IfSome reason (LiesIn c.args.text.now))) (sym c.reason_of.ensures)
    (told_place c.args.text.now c.in-Err.error (rw c.in-Err.is at c.read_text.ensures))
