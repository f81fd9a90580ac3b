-- Lemmas over lines: what a reader of lines takes.
use Rattle.std.proofs.Common.{◌≡◌, ◌≢◌, ◌∙◌, ℕ, ◌+◌, ◌<◌, List, [], ◌∷◌, ◌++◌, length, All, Option, None, Some, OnSome, OnErr, Result, Ok, Err, refl, sym, ap, cond, append_assoc, append-nil, ne_eqb, subst, take, get_or, arith}
use Rattle.std.proofs.lemmas.List.{take_more}
use Rattle.std.proofs.lemmas.List.Elements.{All-head, All-tail, All-append}
use Rattle.std.specs.Io.KnownBytes.{Consumes, IsAtEnd}
use Rattle.std.proofs.KnownBytes.{Consumes-trans}
use Rattle.mesh_line_service.specs.Held.{Holds}
use Rattle.mesh_line_service.specs.Lines.{lines_of, with_first_byte, TakesLines, BreaksOff}
use Rattle.mesh_line_service.specs.declared.line.Held.{Held}
use Rattle.mesh_line_service.specs.declared.line.Held.TheVariants.{Whole, TooLong, NoMemory}

-- a byte that is no line feed goes to the front of the first line
plain_first : (byte : ℕ) (text : List ℕ) → byte ≢ 10 → lines_of (byte ∷ text) ≡ with_first_byte byte (lines_of text)
plain_first byte text plain = ap (λ b. cond b ([] ∷ lines_of text) (with_first_byte byte (lines_of text))) (ne_eqb byte 10 plain)

-- what has no line feed and then has one is a line
pub lines_of-line_feed : (line rest : List ℕ) → All (λ byte. byte ≢ 10) line → lines_of (line ++ 10 ∷ rest) ≡ line ∷ lines_of rest
lines_of-line_feed [] rest plain = refl
lines_of-line_feed (byte ∷ line) rest plain =
    plain_first byte (line ++ 10 ∷ rest) (All-head (λ b. b ≢ 10) byte line plain)
    ∙ ap (with_first_byte byte) (lines_of-line_feed line rest (All-tail (λ b. b ≢ 10) byte line plain))

-- what has no line feed, and has a byte, is a line
pub lines_of-last : (byte : ℕ) (line : List ℕ) → All (λ b. b ≢ 10) (byte ∷ line) → lines_of (byte ∷ line) ≡ (byte ∷ line) ∷ []
lines_of-last byte [] plain = plain_first byte [] (All-head (λ b. b ≢ 10) byte [] plain)
lines_of-last byte (next ∷ line) plain =
    plain_first byte (next ∷ line) (All-head (λ b. b ≢ 10) byte (next ∷ line) plain)
    ∙ ap (with_first_byte byte) (lines_of-last next line (All-tail (λ b. b ≢ 10) byte (next ∷ line) plain))

-- a line that was taken with its line feed
pub ended_line : (old new : Option (List ℕ)) (line : List ℕ) → All (λ byte. byte ≢ 10) line → Consumes old new (line ++ 10 ∷ []) → TakesLines old new (line ∷ [])
ended_line None new line plain taken = tt
ended_line (Some text) None line plain taken = absurd taken
ended_line (Some text) (Some left) line plain taken = ap lines_of (taken ∙ append_assoc line (10 ∷ []) left) ∙ lines_of-line_feed line left plain

-- the last line, which has no line feed
pub last_line : (old new : Option (List ℕ)) (line : List ℕ) → All (λ byte. byte ≢ 10) line → 0 < length line →
    Consumes old new line → OnSome old (IsAtEnd new) → TakesLines old new (line ∷ [])
last_line None new line plain some taken end = tt
last_line (Some text) None line plain some taken end = absurd taken
last_line (Some text) (Some left) [] plain some taken end = absurd (omega arith)
last_line (Some text) (Some left) (byte ∷ line) plain some taken end =
    ap lines_of (taken ∙ ap (λ l. (byte ∷ line) ++ l) end ∙ append-nil (byte ∷ line)) ∙ lines_of-last byte line plain
    ∙ ap (λ l. (byte ∷ line) ∷ lines_of l) (sym end)

-- no line, at the end
pub no_line : (old new : Option (List ℕ)) → Consumes old new [] → TakesLines old new []
no_line None new taken = tt
no_line (Some text) None taken = absurd taken
no_line (Some text) (Some left) taken = ap lines_of taken

-- what was taken of a line before reading broke off
pub broken_off : (old mid new : Option (List ℕ)) (part : List ℕ) → All (λ byte. byte ≢ 10) part → Consumes old mid part → BreaksOff mid new → BreaksOff old new
broken_off None mid new part plain taken broken = tt
broken_off (Some text) None new part plain taken broken = absurd taken
broken_off (Some text) (Some left) None part plain taken broken = absurd broken
broken_off (Some text) (Some left) (Some rest) part plain taken (more, more_plain, more_taken) =
    (part ++ more, All-append (λ b. b ≢ 10) part more plain more_plain, taken ∙ ap (λ l. part ++ l) more_taken ∙ sym (append_assoc part more rest))

-- a line of which not nothing is held has a byte
pub held_has_bytes : (longest : Option ℕ) (line bytes : List ℕ) (held : Held) → Holds longest line bytes held → (held ≡ Whole → 0 < length bytes) → 0 < length line
held_has_bytes longest line bytes Whole (same, fits) some = subst (λ (l : List ℕ). 0 < length l) same (some refl)
held_has_bytes longest line bytes (TooLong most) many some = omega (arith, many.1)
held_has_bytes longest line bytes NoMemory some_byte some = some_byte

-- what was held is held with nothing more
pub held_still : (longest : Option ℕ) (bytes : List ℕ) (held : Held) (line : List ℕ) → Holds longest line bytes held → Holds longest (line ++ []) bytes held
held_still longest bytes held line holds = subst (λ (l : List ℕ). Holds longest l bytes held) (sym (append-nil line)) holds

-- the bytes as far as a line feed, and it
pub through_line_feed : (shown : List ℕ) (place : ℕ) → place < length shown → get_or shown place 0 ≡ 10 → take (place + 1) shown ≡ take place shown ++ 10 ∷ []
through_line_feed shown place within there = take_more shown place 0 within ∙ ap (λ byte. take place shown ++ byte ∷ []) there

-- nothing was held: the line is empty
pub nothing_held : (longest : Option ℕ) (line bytes : List ℕ) (held : Held) → Holds longest line bytes held → held ≡ Whole → bytes ≡ [] → line ≡ []
nothing_held longest line bytes Whole (same, fits) whole none = sym same ∙ none
nothing_held longest line bytes (TooLong most) many whole none = absurd (cc)
nothing_held longest line bytes NoMemory some whole none = absurd (cc)

-- the end was met after a part that is empty: what was taken before it is all that was left
pub end_met : (old mid new : Option (List ℕ)) (text part : List ℕ) → Consumes old mid text → Consumes mid new (part ++ []) → part ≡ [] → OnSome mid (IsAtEnd new) →
    Consumes old new text × OnSome old (IsAtEnd new)
end_met None mid new text part taken more none end = (tt, tt)
end_met (Some all) None new text part taken more none end = absurd taken
end_met (Some all) (Some left) new text part taken more none end =
    let both : Consumes (Some all) new (text ++ (part ++ [])) = Consumes-trans (Some all) (Some left) new text (part ++ []) taken more in
    (subst (Consumes (Some all) new) (ap (λ l. text ++ (l ++ [])) none ∙ append-nil text) both, end)

-- what holds anyway holds at an error
pub at_error : {T E P : Type 0} (result : Result T E) → P → OnErr result P
at_error (Ok value) holds = tt
at_error (Err error) holds = holds
