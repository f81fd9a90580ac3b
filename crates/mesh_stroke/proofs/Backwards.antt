-- Lemmas over lists: the neighbours and the edges of a list that is read backwards.
use Rattle.std.proofs.Common.{◌≡◌, List, [], ◌∷◌, ◌++◌, refl, ◌∙◌, ap, append-nil, arith}
use Rattle.std.specs.Prelude.{Bool, true, false, cond, not, reverse, ℤ}
use Rattle.std.proofs.lemmas.List.{reverse-append}
use Rattle.mesh_plane.specs.Plane.{Edge}
use Rattle.mesh_plane.specs.Winding.{route, boundary, same_point, sum_of}
use Rattle.mesh_plane.proofs.ClosedLists.{route_append, boundary_rotated}
use Rattle.mesh_plane.proofs.Comparing.{points_swap}
use Rattle.mesh_plane.proofs.Sums.{sum_of_append}
use Rattle.mesh_plane.proofs.Whole.{linear}
use Rattle.mesh_plane.specs.Turning.{last_of}
use Rattle.mesh_num.specs.Segments.{proper_edges}
use Rattle.mesh_lattice.specs.Split.{back}
use Rattle.mesh_offset.specs.Walks.{pairs}
use Rattle.mesh_offset.proofs.ProperEdges.{proper_append}
use Rattle.mesh_stroke.specs.Paths.{neighbours}

-- a pair read backwards, each of both turned by `k`
abbrev pub turned : {A : Type 0} → (A → A) → A × A → A × A
turned k c = (k c.1, k c.0)

-- a list read backwards, each item turned by `k`
abbrev pub backwards : {A : Type 0} → (A → A) → List A → List A
backwards k [] = []
backwards k (x ∷ xs) = backwards k xs ++ (k x ∷ [])

pub reverse_is : {A : Type 0} (xs : List A) → reverse xs ≡ backwards (λ x. x) xs
reverse_is [] = refl
reverse_is (x ∷ xs) = reverse-append (x ∷ []) xs ∙ ap (λ l. l ++ (x ∷ [])) (reverse_is xs)

pub route_backwards : {A : Type 0} (k : A → A) (a : A) (xs : List A) (z : A) →
    route (k z) (backwards k xs) (k a) ≡ backwards (turned k) (route a xs z)
route_backwards k a [] z = refl
route_backwards k a (x ∷ xs) z =
    route_append (k z) (backwards k xs) (k x) [] (k a) ∙ ap (λ l. l ++ ((k x, k a) ∷ [])) (route_backwards k x xs z)

pairs_two : {A : Type 0} (us : List A) (y x : A) → pairs ((us ++ (y ∷ [])) ++ (x ∷ [])) ≡ pairs (us ++ (y ∷ [])) ++ ((y, x) ∷ [])
pairs_two [] y x = refl
pairs_two (u ∷ []) y x = refl
pairs_two (u ∷ v ∷ us) y x = ap (λ l. (u, v) ∷ l) (pairs_two (v ∷ us) y x)

pub pairs_backwards : {A : Type 0} (k : A → A) (xs : List A) → pairs (backwards k xs) ≡ backwards (turned k) (pairs xs)
pairs_backwards k [] = refl
pairs_backwards k (x ∷ []) = refl
pairs_backwards k (x ∷ y ∷ ys) =
    pairs_two (backwards k ys) (k y) (k x) ∙ ap (λ l. l ++ ((k y, k x) ∷ [])) (pairs_backwards k (y ∷ ys))

-- the edges whose ends differ
pub proper_backwards : (es : List Edge) → proper_edges (backwards back es) ≡ backwards back (proper_edges es)
proper_backwards [] = refl
proper_backwards (e ∷ es) =
    proper_append (backwards back es) (back e ∷ []) ∙ ap (λ l. l ++ proper_edges (back e ∷ [])) (proper_backwards es) ∙ by (same_point e.0 e.1) refl
  where
    by : (b : Bool) → same_point e.0 e.1 ≡ b →
        backwards back (proper_edges es) ++ cond (not (same_point e.1 e.0)) (back e ∷ []) [] ≡ backwards back (cond (not b) (e ∷ proper_edges es) (proper_edges es))
    by true h = rw (points_swap e.0 e.1, h) (append-nil (backwards back (proper_edges es)))
    by false h = rw (points_swap e.0 e.1, h) refl

-- the first and the last of a list read backwards
last_append : {A : Type 0} (x : A) (xs : List A) (z : A) → last_of x (xs ++ (z ∷ [])) ≡ z
last_append x [] z = refl
last_append x (y ∷ ys) z = last_append y ys z

pub ends_backwards : {A : Type 0} (k : A → A) (x : A) (xs : List A) →
    (rest : List A) × (backwards k (x ∷ xs) ≡ k (last_of x xs) ∷ rest) × (last_of (k (last_of x xs)) rest ≡ k x)
ends_backwards k x [] = ([], refl, refl)
ends_backwards {A} k x (y ∷ ys) = by (ends_backwards k y ys)
  where
    by : (rest : List A) × (backwards k (y ∷ ys) ≡ k (last_of y ys) ∷ rest) × (last_of (k (last_of y ys)) rest ≡ k y) →
        (rest : List A) × (backwards k (x ∷ y ∷ ys) ≡ k (last_of y ys) ∷ rest) × (last_of (k (last_of y ys)) rest ≡ k x)
    by (rest, e, l) = (rest ++ (k x ∷ []), ap (λ t. t ++ (k x ∷ [])) e, last_append (k (last_of y ys)) rest (k x))

-- sums over a list read backwards
pub sum_backwards : {A : Type 0} (f : A → ℤ) (k : A → A) (xs : List A) → sum_of f (backwards k xs) ≡ sum_of (λ x. f (k x)) xs
sum_backwards f k [] = refl
sum_backwards f k (x ∷ xs) = omega (arith, linear, sum_of_append f (backwards k xs) (k x ∷ []), sum_backwards f k xs)

-- sums over its neighbours, where it is closed: it is begun elsewhere
pub boundary_sum_backwards : {A : Type 0} (f : A × A → ℤ) (k : A → A) (xs : List A) →
    sum_of f (boundary (backwards k xs)) ≡ sum_of (λ c. f (turned k c)) (boundary xs)
boundary_sum_backwards f k [] = refl
boundary_sum_backwards f k (x ∷ xs) =
    boundary_rotated f (backwards k xs) (k x ∷ [])
    ∙ ap (sum_of f) (route_backwards k x xs x)
    ∙ sum_backwards f (turned k) (route x xs x)

pub neighbours_sum_backwards : {A : Type 0} (f : A × A → ℤ) (k : A → A) (closed : Bool) (xs : List A) →
    sum_of f (neighbours closed (backwards k xs)) ≡ sum_of (λ c. f (turned k c)) (neighbours closed xs)
neighbours_sum_backwards f k true xs = boundary_sum_backwards f k xs
neighbours_sum_backwards f k false xs = ap (sum_of f) (pairs_backwards k xs) ∙ sum_backwards f (turned k) (pairs xs)
