-- The lines of a text, and what a reader of lines does to the bytes that are left, where those are known.
use Rattle.std.specs.Prelude.{ℕ, ◌≡◌, ◌≢◌, List, [], ◌∷◌, ◌++◌, All, ⊤, Option, Some, None, ◌==◌, if◌then◌else◌}

-- these lines, the first of which has a byte more at its front; that byte alone where there is no line
abbrev pub with_first_byte : ℕ → List (List ℕ) → List (List ℕ)
with_first_byte byte [] = (byte ∷ []) ∷ []
with_first_byte byte (line ∷ lines) = (byte ∷ line) ∷ lines

-- the lines of a text, each without the line feed, 10, that ends it; what follows the last line feed is a line where it
-- has a byte
abbrev pub lines_of : List ℕ → List (List ℕ)
lines_of [] = []
lines_of (byte ∷ text) = if byte == 10 then [] ∷ lines_of text else with_first_byte byte (lines_of text)

-- known bytes lose these lines
abbrev pub TakesLines : Option (List ℕ) → Option (List ℕ) → List (List ℕ) → Type 0
TakesLines None new lines = ⊤
TakesLines (Some text) None lines = ⊥
TakesLines (Some text) (Some left) lines = lines_of text ≡ lines ++ lines_of left

-- known bytes lose a beginning of their first line, which is all of it but its line feed, a part of it or nothing
abbrev pub BreaksOff : Option (List ℕ) → Option (List ℕ) → Type 0
BreaksOff None new = ⊤
BreaksOff (Some text) None = ⊥
BreaksOff (Some text) (Some left) = (part : List ℕ) × All (λ byte. byte ≢ 10) part × (text ≡ part ++ left)
