-- Lemmas over places in a text.
use Rattle.std.proofs.Common.{◌≡◌, ◌∙◌, ℕ, ◌<◌, ◌≤◌, ◌+◌, List, [], ◌∷◌, ◌++◌, Bool, true, false, nat_eq, length, take, get_or, refl, sym, ap, subst, arith}
use Rattle.std.specs.Prelude.{if◌then◌else◌}
use Rattle.std.proofs.lemmas.List.{take_more}
use Rattle.mesh_service.specs.Reasons.{after, after_byte, beginning}
use Rattle.mesh_service.specs.declared.reason.TextPlace.{TextPlace}

after_append : (here : TextPlace) (xs : List ℕ) (b : ℕ) → after here (xs ++ b ∷ []) ≡ after_byte (after here xs) b
after_append here [] b = refl
after_append here (x ∷ xs) b = after_append (after_byte here x) xs b

-- one byte more
pub byte_passed : (text : List ℕ) (i : ℕ) (here there : TextPlace) → i < length text → there ≡ after_byte here (get_or text i 0) → here ≡ after beginning (take i text) →
    there ≡ after beginning (take (i + 1) text)
byte_passed text i here there h step so_far =
    step ∙ ap (λ (p : TextPlace). after_byte p (get_or text i 0)) so_far ∙ sym (after_append beginning (take i text) (get_or text i 0))
    ∙ ap (λ (xs : List ℕ). after beginning xs) (sym (take_more text i 0 h))

-- no line and no column grows faster than the bytes
abbrev passed : TextPlace → Bool → TextPlace
passed here true = record { line = here.line + 1; column = 1 }
passed here false = record { line = here.line; column = here.column + 1 }

is_passed : (here : TextPlace) (t : Bool) → (if t then (record { line = here.line + 1; column = 1 }) else (record { line = here.line; column = here.column + 1 })) ≡ passed here t
is_passed here true = refl
is_passed here false = refl

line_held : (here : TextPlace) (t : Bool) (n : ℕ) → here.line ≤ n → (passed here t).line ≤ n + 1
line_held here true n h = omega (arith, h)
line_held here false n h = omega (arith, h)

column_held : (here : TextPlace) (t : Bool) (n : ℕ) → here.column ≤ n → (passed here t).column ≤ n + 1
column_held here true n h = omega arith
column_held here false n h = omega (arith, h)

pub line_passed : (here there : TextPlace) (b n : ℕ) → there ≡ after_byte here b → here.line ≤ n → there.line ≤ n + 1
line_passed here there b n step h = subst (λ (p : TextPlace). p.line ≤ n + 1) (sym (step ∙ is_passed here (nat_eq b 10))) (line_held here (nat_eq b 10) n h)

pub column_passed : (here there : TextPlace) (b n : ℕ) → there ≡ after_byte here b → here.column ≤ n → there.column ≤ n + 1
column_passed here there b n step h = subst (λ (p : TextPlace). p.column ≤ n + 1) (sym (step ∙ is_passed here (nat_eq b 10))) (column_held here (nat_eq b 10) n h)
