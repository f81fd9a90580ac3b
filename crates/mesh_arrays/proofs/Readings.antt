-- Lemmas over results: what is read, and a failure that is handed on.
use Rattle.std.proofs.Common.{◌≡◌, Result, Ok, Err, IsErrAnd, sym, subst}
use Rattle.mesh_arrays.specs.Failures.{IsOfReading, IsRead, IsUnread}
use Rattle.mesh_arrays.specs.declared.failure.Failure.{Failure}
use Rattle.mesh_arrays.specs.declared.failure.Failure.TheVariants.{Malformed}

-- a failure to read what another thing is read from
pub unread_also : {X A : Type 0} (value : X → A) (IsMeant : A → Type 0) (told : Result X Failure) (failure : Failure) → IsErrAnd told (λ e. e ≡ failure) → IsOfReading failure →
    (failure ≡ Malformed → (a : A) → IsMeant a → ⊥) → IsRead value IsMeant told
unread_also value IsMeant (Ok x) failure same reading none = absurd same
unread_also {X} {A} value IsMeant (Err e) failure same reading none = subst (IsUnread ((a : A) → IsMeant a → ⊥)) (sym same) (reading, none)

-- what is read as one thing is read as another
pub read_also : {X A : Type 0} (value : X → A) (One Other : A → Type 0) (told : Result X Failure) → IsRead value One told → ((a : A) → One a → Other a) →
    (((a : A) → One a → ⊥) → (a : A) → Other a → ⊥) → IsRead value Other told
read_also value One Other (Ok x) read some none = some (value x) read
read_also value One Other (Err e) read some none = (read.0, λ m. none (read.1 m))
