-- Lemmas over lists: neighbouring pairs, routes, and the last.
use Rattle.std.proofs.Common.{◌≡◌, List, [], ◌∷◌, ◌++◌, append_assoc, arith}
use Rattle.std.specs.Prelude.{ℤ, ◌+ℤ◌, ◌-ℤ◌}
use Rattle.std.specs.List.{All, flat_map}
use Rattle.std.specs.List.Sorted.{IsPermutation}
use Rattle.std.proofs.lemmas.List.Elements.{All-nil, All-cons, All-head, All-tail}
use Rattle.std.proofs.lemmas.List.Sorted.{IsPermutation-refl, IsPermutation-trans, IsPermutation-append}
use Rattle.mesh_plane.specs.Winding.{sum_of}
use Rattle.mesh_plane.proofs.ClosedLists.{woven, regrouped}
use Rattle.mesh_plane.proofs.Whole.{linear}
use Rattle.mesh_plane.specs.Turning.{last_of}
use Rattle.mesh_offset.specs.Walks.{pairs}

-- each inner one of an open list is once the end of a pair and once the start of one
pub pairs_ends : {A : Type 0} (g h : A → ℤ) (x : A) (xs : List A) →
    sum_of (λ (c : A × A). g c.0 -ℤ h c.1) (pairs (x ∷ xs)) ≡ (sum_of (λ e. g e -ℤ h e) (x ∷ xs) -ℤ g (last_of x xs)) +ℤ h x
pairs_ends g h x [] = omega (arith, linear)
pairs_ends g h x (y ∷ ys) = omega (arith, linear, pairs_ends g h y ys)

-- what holds of each of a list holds of both of each pair
pub pairs_all : {A : Type 0} (P : A → Type 0) (xs : List A) → All P xs → All (λ (c : A × A). P c.0 × P c.1) (pairs xs)
pairs_all {A} P [] h = All-nil (λ (c : A × A). P c.0 × P c.1)
pairs_all {A} P (x ∷ []) h = All-nil (λ (c : A × A). P c.0 × P c.1)
pairs_all {A} P (x ∷ y ∷ ys) h =
    let rest = All-tail P x (y ∷ ys) h in
    All-cons (λ (c : A × A). P c.0 × P c.1) (x, y) (pairs (y ∷ ys)) (All-head P x (y ∷ ys) h, All-head P y ys rest) (pairs_all P (y ∷ ys) rest)

-- what holds of each of a list holds of its last
pub last_all : {A : Type 0} (P : A → Type 0) (x : A) (xs : List A) → All P (x ∷ xs) → P (last_of x xs)
last_all P x [] h = All-head P x [] h
last_all P x (y ∷ ys) h = last_all P y ys (All-tail P x (y ∷ ys) h)

-- a walk that ends in something of its own
pub woven_through : {A B : Type 0} (top : A → List B) (corner : A × A → List B) (step : A → A → List B) (final : A × A → List B) →
    ((p x : A) → IsPermutation (step p x) (top x ++ corner (p, x))) → (p : A) (xs : List A) (z : A) →
    IsPermutation (woven step final p xs z) (flat_map top xs ++ (flat_map corner (pairs (p ∷ xs)) ++ final (last_of p xs, z)))
woven_through top corner step final mixed p [] z = IsPermutation-refl (final (p, z))
woven_through top corner step final mixed p (x ∷ xs) z =
    let rest = flat_map corner (pairs (x ∷ xs)) ++ final (last_of x xs, z) in
    let whole =
    IsPermutation-trans (step p x ++ woven step final x xs z)
    ((top x ++ corner (p, x)) ++ (flat_map top xs ++ rest))
    ((top x ++ flat_map top xs) ++ (corner (p, x) ++ rest))
    (IsPermutation-append (step p x) (top x ++ corner (p, x)) (woven step final x xs z) (flat_map top xs ++ rest)
    (mixed p x) (woven_through top corner step final mixed x xs z))
    (regrouped (top x) (corner (p, x)) (flat_map top xs) rest) in
    rw (append_assoc (corner (p, x)) (flat_map corner (pairs (x ∷ xs))) (final (last_of x xs, z))) whole
