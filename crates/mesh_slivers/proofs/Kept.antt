-- Lemmas over lists: what the code tells of contours, and what it leaves.
use Rattle.std.proofs.Common.{◌≡◌, ℕ, ◌<◌, ◌≤◌, ◌||◌, true, false, Bool, cond, List, [], ◌∷◌, ◌++◌, ◌+◌, length, get_or, set, take, drop, refl, sym, ◌∙◌, ap, subst, arith, append-nil}
use Rattle.std.specs.Prelude.{not, map}
use Rattle.std.specs.List.{filter, list_all, items_where_true}
use Rattle.std.specs.List.Retain.{IsFiltered, ReturnsInTurn}
use Rattle.std.proofs.lemmas.List.{take_all, drop_all, length-map, map-set}
use Rattle.std.proofs.lemmas.List.Edits.{map_over_more}
use Rattle.std.proofs.Math.ListN.{get_or-map}
use Rattle.mesh_plane.specs.Plane.{Point}
use Rattle.mesh_slivers.specs.Slivers.{farthest, is_in_strip, is_sliver, without_holes}

-- a contour with a first point
pub sliver_is : (width : ℕ) (contour : List Point) (a : Point) (ps : List Point) (b : Point) → contour ≡ a ∷ ps → b ≡ farthest a ps →
    list_all (is_in_strip width a b) contour ≡ is_sliver width contour
sliver_is width contour a ps b e f =
    subst (λ (l : List Point). list_all (is_in_strip width a b) l ≡ is_sliver width l) (sym e)
    (ap (λ (x : Point). list_all (is_in_strip width a x) (a ∷ ps)) f)

-- the first element, and those of the others that pass a test
abbrev pub first_and : {X : Type 0} → (X → Bool) → List X → List X
first_and test [] = []
first_and test (x ∷ xs) = x ∷ filter test xs

module _ {X P : Type 0} (R : P → X → Bool → P → Type 0) (test : X → Bool) (I : Bool → P → Type 0)
    (step : (s : Bool) (p : P) (x : X) (b : Bool) (q : P) → I s p → R p x b q → (b ≡ (s || test x)) × I false q) where
  later : (xs : List X) (p : P) (bs : List Bool) (q : P) → I false p → length bs ≡ length xs → ReturnsInTurn R p bs xs q → items_where_true bs xs ≡ filter test xs
  later [] p [] q i len turns = refl
  later [] p (b ∷ bs) q i len turns = absurd turns
  later (x ∷ xs) p [] q i len turns = absurd (omega arith)
  later (x ∷ xs) p (b ∷ bs) q i len turns = at b (step false p x b turns.0 i turns.1).0 (later xs turns.0 bs q (step false p x b turns.0 i turns.1).1 (omega arith) turns.2)
    where
      at : (t : Bool) → t ≡ test x → items_where_true bs xs ≡ filter test xs → items_where_true (t ∷ bs) (x ∷ xs) ≡ cond (test x) (x ∷ filter test xs) (filter test xs)
      at true e rest = ap (λ (l : List X). x ∷ l) rest ∙ ap (λ (s : Bool). cond s (x ∷ filter test xs) (filter test xs)) e
      at false e rest = rest ∙ ap (λ (s : Bool). cond s (x ∷ filter test xs) (filter test xs)) e

  -- `retain` by a test that passes the element that it is called at first
  pub first_kept : (p : P) → I true p → (xs ys : List X) → IsFiltered R p xs ys → ys ≡ first_and test xs
  first_kept p i xs ys h = h.4 ∙ by xs h.0 h.2 h.3
    where
      by : (xs : List X) (bs : List Bool) → length bs ≡ length xs → ReturnsInTurn R p bs xs h.1 → items_where_true bs xs ≡ first_and test xs
      by [] [] len turns = refl
      by [] (b ∷ bs) len turns = absurd turns
      by (x ∷ xs) [] len turns = absurd (omega arith)
      by (x ∷ xs) (b ∷ bs) len turns = at b (step true p x b turns.0 i turns.1).0 (later xs turns.0 bs h.1 (step true p x b turns.0 i turns.1).1 (omega arith) turns.2)
        where
          at : (t : Bool) → t ≡ true → items_where_true bs xs ≡ filter test xs → items_where_true (t ∷ bs) (x ∷ xs) ≡ x ∷ filter test xs
          at true e rest = ap (λ (l : List X). x ∷ l) rest
          at false e rest = absurd (grind arith)

pub filter_map_is : {X Y : Type 0} (f : X → Y) (test : Y → Bool) (xs : List X) → map f (filter (λ (x : X). test (f x)) xs) ≡ filter test (map f xs)
filter_map_is f test [] = refl
filter_map_is {X} f test (x ∷ xs) = at (λ (n : ℕ). filter_map_is f test xs) (test (f x))
  where
    at : (ℕ → map f (filter (λ (x : X). test (f x)) xs) ≡ filter test (map f xs)) → (t : Bool) →
        map f (cond t (x ∷ filter (λ (x : X). test (f x)) xs) (filter (λ (x : X). test (f x)) xs)) ≡ cond t (f x ∷ filter test (map f xs)) (filter test (map f xs))
    at rest true = ap (λ l. f x ∷ l) (rest 0)
    at rest false = rest 0

pub holes_kept : (width : ℕ) {X : Type 0} (f : X → List Point) (xs : List X) →
    map f (first_and (λ (x : X). not (is_sliver width (f x))) xs) ≡ without_holes width (map f xs)
holes_kept width f [] = refl
holes_kept width f (x ∷ xs) = ap (λ (l : List (List Point)). f x ∷ l) (filter_map_is f (λ (hole : List Point). not (is_sliver width hole)) xs)

-- ---- a loop that writes over each of a vector's elements, seen as a list

pub loop_more : {V X : Type 0} (h : V → X) (f : X → X) (xs : List X) (items : List V) (i : ℕ) (x v : V) → i < length xs →
    map h items ≡ map f (take i xs) ++ drop i xs → x ≡ get_or items i x → h v ≡ f (h (get_or items i x)) → map h (set items i v) ≡ map f (take (i + 1) xs) ++ drop (i + 1) xs
loop_more {V} {X} h f xs items i x v lt e there made =
    map-set h items i v
    ∙ (ap (λ (y : X). set (map h items) i y) (made ∙ ap (λ (w : V). f (h w)) (sym there)) ∙ map_over_more f xs (map h items) i (h x) lt e (ap h there ∙ sym (get_or-map h items i x)))

whole : {V : Type 0} (n : ℕ) (xs ys : List V) → length xs ≡ n → length ys ≤ n → take n (xs ++ drop (length xs) ys) ≡ xs
whole {V} n xs ys e h =
    ap (λ (l : List V). take n (xs ++ l)) (drop_all (length xs) ys (omega arith)) ∙ (ap (λ (l : List V). take n l) (append-nil xs) ∙ take_all n xs (omega arith))

looped : {X : Type 0} (f : X → X) (i : ℕ) (xs : List X) → length xs ≤ i → map f (take i xs) ++ drop i xs ≡ map f xs
looped f i xs h = (λ j. map f (take_all i xs h j) ++ drop_all i xs h j) ∙ append-nil (map f xs)

pub loop_left : {V X : Type 0} (h : V → X) (f : X → X) (test : X → Bool) (n i : ℕ) (items now kept given : List V) → length items ≡ n → length now ≡ n → n ≤ i →
    now ≡ kept → map h items ≡ map f (take i (map h now)) ++ drop i (map h now) → kept ≡ filter (λ (v : V). test (h v)) given →
    map h (take n (items ++ drop (length items) kept)) ≡ map f (filter test (map h given))
loop_left {V} {X} h f test n i items now kept given e k le same looping left =
    ap (map h) (whole n items kept e (omega (arith, ap length same)))
    ∙ (looping
    ∙ (looped f i (map h now) (omega (arith, length-map now h))
    ∙ (ap (λ (l : List V). map f (map h l)) (same ∙ left) ∙ ap (map f) (filter_map_is h test given))))
