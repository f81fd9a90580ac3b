-- Walks along a list: its neighbours.
use Rattle.std.specs.Prelude.{List, [], ◌∷◌}

-- the neighbouring pairs of a list
abbrev pub pairs : {A : Type 0} → List A → List (A × A)
pairs [] = []
pairs (x ∷ []) = []
pairs (x ∷ y ∷ ys) = (x, y) ∷ pairs (y ∷ ys)
