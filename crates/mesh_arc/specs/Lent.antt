-- What stands once a reference that a call lent is no longer used.
use Rattle.std.specs.Prelude.{⊤}
use Rattle.std.specs.Borrow.{RattleType, MutBor, Fml, follows_so}
use mathlib.Core.Option.{none}

-- the value behind the `&mut` has the property, once the result's borrow of it ends
abbrev pub EndsWith : (R : RattleType) → MutBor R.Denot → (R.Denot → Type 0) → Fml
EndsWith R lender property = follows_so R R lender.ghost_name none (λ _ _. ⊤) property
