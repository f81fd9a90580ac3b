-- Lemmas over options: an answer of nothing says what follows from it.
use Rattle.std.specs.Prelude.{Option, Some, None, MatchOption}

pub match_none : {A P Q : Type 0} (o : Option A) (R : A → Type 0) → (P → Q) → MatchOption o P R → MatchOption o Q R
match_none None R f h = f h
match_none (Some x) R f h = h
