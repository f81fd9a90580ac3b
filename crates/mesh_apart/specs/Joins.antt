-- Lists that join others.
use Rattle.std.specs.Prelude.{◌≡◌, List, [], ◌∷◌}

-- a list joins two others: it has the elements of both and no more, and each list's own stand in their order
pub data IsJoin {A : Type 0} : List A → List A → List A → Type 0 where
  no_more : IsJoin [] [] []
  from_first : {x : A} {xs ys zs : List A} → IsJoin xs ys zs → IsJoin (x ∷ xs) ys (x ∷ zs)
  from_second : {y : A} {xs ys zs : List A} → IsJoin xs ys zs → IsJoin xs (y ∷ ys) (y ∷ zs)

-- a list joins several others
abbrev pub JoinsAll : {A : Type 0} → List (List A) → List A → Type 0
JoinsAll [] zs = zs ≡ []
JoinsAll (xs ∷ xss) zs = (ys : List _) × JoinsAll xss ys × IsJoin xs ys zs
