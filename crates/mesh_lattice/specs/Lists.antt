-- Vectors of lists: what stands at a place.
use Rattle.std.specs.Prelude.{ℕ, ◌≡◌, List, slice_index_or, Vec}
use Rattle.std.specs.declared.alloc.Global.{Global}

-- the elements of the list at a place
abbrev pub list_at : {A : Type 0} → List (Vec A Global) → ℕ → Vec A Global → List A
list_at lists i d = (slice_index_or lists i d).items

-- all lists but the one at a place are as they were
abbrev pub OthersStay : {A : Type 0} → List (Vec A Global) → List (Vec A Global) → ℕ → Type 0
OthersStay {A} old new i = (k : ℕ) (d : Vec A Global) → (k ≡ i → ⊥) → slice_index_or new k d ≡ slice_index_or old k d
