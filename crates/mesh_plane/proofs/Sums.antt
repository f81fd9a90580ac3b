-- Lemmas over points and lists: sums over a list, of any function, and their regrouping.
use Rattle.std.proofs.Common.{◌≡◌, List, [], ◌∷◌, ◌++◌, length, refl, ◌∙◌, arith}
use Rattle.std.specs.Prelude.{Bool, true, false, cond, ℤ, pos, ◌+ℤ◌, map, ◌≤ℤ◌}
use Rattle.std.specs.List.{All, filter, flat_map, sum_by}
use Rattle.std.specs.List.Sorted.{IsPermutation}
use Rattle.std.proofs.lemmas.List.Sums.{sum_by-cons}
use Rattle.std.proofs.lemmas.List.Elements.{All-head, All-tail}
use Rattle.std.proofs.lemmas.List.Sorted.{sum_by-IsPermutation}
use Rattle.std.proofs.lemmas.Int.{ints}
use borrow.Author.Differences.{up, down}
use Rattle.mesh_plane.specs.Plane.{Point, Edge}
use Rattle.mesh_plane.specs.Winding.{sum_of, total, pieces_total, boundary}
use Rattle.mesh_plane.proofs.Whole.{linear}

pub sum_of_append : {A : Type 0} (f : A → ℤ) (xs ys : List A) → sum_of f (xs ++ ys) ≡ sum_of f xs +ℤ sum_of f ys
sum_of_append f [] ys = omega (arith, linear)
sum_of_append f (x ∷ xs) ys = omega (arith, linear, sum_of_append f xs ys)

pub sum_of_map : {A B : Type 0} (f : B → ℤ) (g : A → B) (xs : List A) → sum_of f (map g xs) ≡ sum_of (λ x. f (g x)) xs
sum_of_map f g [] = refl
sum_of_map f g (x ∷ xs) = omega (arith, linear, sum_of_map f g xs)

pub sum_of_flat_map : {A B : Type 0} (f : B → ℤ) (g : A → List B) (xs : List A) →
    sum_of f (flat_map g xs) ≡ sum_of (λ x. sum_of f (g x)) xs
sum_of_flat_map f g [] = refl
sum_of_flat_map f g (x ∷ xs) = omega (arith, linear, sum_of_flat_map f g xs, sum_of_append f (g x) (flat_map g xs))

pub sum_of_add : {A : Type 0} (f g : A → ℤ) (xs : List A) → sum_of (λ x. f x +ℤ g x) xs ≡ sum_of f xs +ℤ sum_of g xs
sum_of_add f g [] = omega (arith, linear)
sum_of_add f g (x ∷ xs) = omega (arith, linear, sum_of_add f g xs)

pub sum_of_same : {A : Type 0} (f g : A → ℤ) → ((x : A) → f x ≡ g x) → (xs : List A) → sum_of f xs ≡ sum_of g xs
sum_of_same f g e [] = refl
sum_of_same f g e (x ∷ xs) = omega (arith, linear, e x, sum_of_same f g e xs)

pub sum_of_none : {A : Type 0} (f : A → ℤ) → ((x : A) → f x ≡ pos 0) → (xs : List A) → sum_of f xs ≡ pos 0
sum_of_none f e [] = refl
sum_of_none f e (x ∷ xs) = omega (arith, linear, e x, sum_of_none f e xs)

pub sum_of_ones : {A : Type 0} (xs : List A) → sum_of (λ x. pos 1) xs ≡ pos (length xs)
sum_of_ones [] = refl
sum_of_ones (x ∷ xs) = omega (arith, ints, sum_of_ones xs)

pub sum_of_equal : {A : Type 0} (f g : A → ℤ) (xs : List A) → All (λ x. f x ≡ g x) xs → sum_of f xs ≡ sum_of g xs
sum_of_equal f g [] h = refl
sum_of_equal f g (x ∷ xs) h =
    omega (arith, linear, All-head (λ x. f x ≡ g x) x xs h, sum_of_equal f g xs (All-tail (λ x. f x ≡ g x) x xs h))

pub sum_of_zero : {A : Type 0} (f : A → ℤ) (xs : List A) → All (λ x. f x ≡ pos 0) xs → sum_of f xs ≡ pos 0
sum_of_zero f xs h = sum_of_equal f (λ x. pos 0) xs h ∙ sum_of_none (λ x. pos 0) (λ x. refl) xs

-- what a test leaves out adds nothing
pub sum_of_filter : {A : Type 0} (f : A → ℤ) (test : A → Bool) → ((x : A) → test x ≡ false → f x ≡ pos 0) → (xs : List A) →
    sum_of f (filter test xs) ≡ sum_of f xs
sum_of_filter f test none [] = refl
sum_of_filter f test none (x ∷ xs) = step (sum_of_filter f test none xs) (test x) refl
  where
    step : sum_of f (filter test xs) ≡ sum_of f xs → (b : Bool) → test x ≡ b → sum_of f (cond b (x ∷ filter test xs) (filter test xs)) ≡ f x +ℤ sum_of f xs
    step rest true e = omega (arith, linear)
    step rest false e = omega (arith, linear, none x e)

-- a sum of whole numbers as the difference of two sums of naturals
parts : {A : Type 0} (f : A → ℤ) (xs : List A) →
    sum_of f xs +ℤ pos (sum_by (λ x. down (f x)) xs) ≡ pos (sum_by (λ x. up (f x)) xs)
parts f [] = refl
parts f (x ∷ xs) =
    omega (arith, ints, parts f xs, sum_by-cons (λ x. down (f x)) x xs, sum_by-cons (λ x. up (f x)) x xs)

pub sum_of_permutation : {A : Type 0} (f : A → ℤ) (xs ys : List A) → IsPermutation xs ys → sum_of f ys ≡ sum_of f xs
sum_of_permutation f xs ys h =
    omega (arith, ints, parts f xs, parts f ys, sum_by-IsPermutation (λ x. down (f x)) xs ys h, sum_by-IsPermutation (λ x. up (f x)) xs ys h)

-- the same for sums over edges and over the boundaries of pieces
pub total_append : (f : Point → Point → ℤ) (es gs : List Edge) → total f (es ++ gs) ≡ total f es +ℤ total f gs
total_append f es gs = sum_of_append (λ (e : Edge). f e.0 e.1) es gs

pub total_flat_map : {A : Type 0} (f : Point → Point → ℤ) (g : A → List Edge) (xs : List A) →
    total f (flat_map g xs) ≡ sum_of (λ x. total f (g x)) xs
total_flat_map f g xs = sum_of_flat_map (λ (e : Edge). f e.0 e.1) g xs

pub total_permutation : (f : Point → Point → ℤ) (es gs : List Edge) → IsPermutation es gs → total f gs ≡ total f es
total_permutation f es gs h = sum_of_permutation (λ (e : Edge). f e.0 e.1) es gs h

pub pieces_total_append : (f : Point → Point → ℤ) (ps qs : List (List Point)) →
    pieces_total f (ps ++ qs) ≡ pieces_total f ps +ℤ pieces_total f qs
pieces_total_append f ps qs = sum_of_append (λ (piece : List Point). total f (boundary piece)) ps qs

pub pieces_total_flat_map : {A : Type 0} (f : Point → Point → ℤ) (g : A → List (List Point)) (xs : List A) →
    pieces_total f (flat_map g xs) ≡ sum_of (λ x. pieces_total f (g x)) xs
pieces_total_flat_map f g xs = sum_of_flat_map (λ (piece : List Point). total f (boundary piece)) g xs

pub pieces_total_map : {A : Type 0} (f : Point → Point → ℤ) (g : A → List Point) (xs : List A) →
    pieces_total f (map g xs) ≡ sum_of (λ x. total f (boundary (g x))) xs
pieces_total_map f g xs = sum_of_map (λ (piece : List Point). total f (boundary piece)) g xs

pub sum_least : {A : Type 0} (f : A → ℤ) → ((x : A) → pos 0 ≤ℤ f x) → (xs : List A) → pos 0 ≤ℤ sum_of f xs
sum_least f h [] = omega (arith, ints)
sum_least f h (x ∷ xs) = omega (arith, ints, h x, sum_least f h xs)
