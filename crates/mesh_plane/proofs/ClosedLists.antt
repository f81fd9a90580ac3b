-- Lemmas over points and lists: the neighbouring pairs of a list, and of a closed one.
use Rattle.std.proofs.Common.{◌≡◌, ◌+◌, List, [], ◌∷◌, ◌++◌, length, refl, sym, ap, arith, append_assoc, append-nil}
use Rattle.std.specs.Prelude.{ℤ, pos, ◌+ℤ◌, ◌-ℤ◌, map}
use Rattle.std.specs.List.{All, flat_map}
use Rattle.std.proofs.lemmas.List.Elements.{All-nil, All-cons, All-head, All-tail, All-append}
use Rattle.std.specs.List.Sorted.{IsPermutation}
use Rattle.std.proofs.lemmas.List.Sorted.{IsPermutation-refl, IsPermutation-trans, IsPermutation-append, IsPermutation-append_left, IsPermutation-append_right, IsPermutation-append_comm}
use Rattle.mesh_plane.specs.Winding.{sum_of, route, boundary}
use Rattle.mesh_plane.proofs.Whole.{linear}
use Rattle.mesh_plane.proofs.Sums.{sum_of_append}

-- a route has a pair for each one between its ends, and one more
pub route_length : {A : Type 0} (a : A) (xs : List A) (z : A) → length (route a xs z) ≡ length xs + 1
route_length a [] z = omega arith
route_length a (x ∷ xs) z = omega (arith, route_length x xs z)

-- and a closed list one for each
pub boundary_length : {A : Type 0} (xs : List A) → length (boundary xs) ≡ length xs
boundary_length [] = refl
boundary_length (x ∷ xs) = omega (arith, route_length x xs x)

-- each inner one of a route is once the end of a pair and once the start of one
pub route_ends : {A : Type 0} (h g : A → ℤ) (a : A) (xs : List A) (z : A) →
    sum_of (λ (e : A × A). h e.0 +ℤ g e.1) (route a xs z) ≡ (h a +ℤ sum_of (λ x. g x +ℤ h x) xs) +ℤ g z
route_ends h g a [] z = omega (arith, linear)
route_ends h g a (x ∷ xs) z = omega (arith, linear, route_ends h g x xs z)

-- round a closed list each one is once the start of a pair and once the end of one
pub boundary_ends : {A : Type 0} (h g : A → ℤ) (xs : List A) →
    sum_of (λ (e : A × A). h e.0 +ℤ g e.1) (boundary xs) ≡ sum_of (λ x. g x +ℤ h x) xs
boundary_ends h g [] = refl
boundary_ends h g (x ∷ xs) = omega (arith, linear, route_ends h g x xs x)

-- the steps along a route add up to the one between its ends
pub route_steps : {A : Type 0} (f : A → ℤ) (a : A) (xs : List A) (z : A) → sum_of (λ (e : A × A). f e.1 -ℤ f e.0) (route a xs z) ≡ f z -ℤ f a
route_steps f a [] z = omega (arith, linear)
route_steps f a (x ∷ xs) z = omega (arith, linear, route_steps f x xs z)

-- round a closed list they cancel
pub boundary_steps : {A : Type 0} (f : A → ℤ) (xs : List A) → sum_of (λ (e : A × A). f e.1 -ℤ f e.0) (boundary xs) ≡ pos 0
boundary_steps f [] = refl
boundary_steps f (x ∷ xs) = omega (arith, linear, route_steps f x xs x)

pub route_append : {A : Type 0} (a : A) (xs : List A) (y : A) (ys : List A) (z : A) →
    route a (xs ++ y ∷ ys) z ≡ route a xs y ++ route y ys z
route_append a [] y ys z = refl
route_append a (x ∷ xs) y ys z = ap (λ (l : List _). (a, x) ∷ l) (route_append x xs y ys z)

pub route_map : {A B : Type 0} (f : A → B) (a : A) (xs : List A) (z : A) →
    route (f a) (map f xs) (f z) ≡ map (λ (e : A × A). (f e.0, f e.1)) (route a xs z)
route_map f a [] z = refl
route_map f a (x ∷ xs) z = ap (λ (l : List _). (f a, f x) ∷ l) (route_map f x xs z)

pub boundary_map : {A B : Type 0} (f : A → B) (xs : List A) →
    boundary (map f xs) ≡ map (λ (e : A × A). (f e.0, f e.1)) (boundary xs)
boundary_map f [] = refl
boundary_map f (x ∷ xs) = route_map f x xs x

-- what holds of each one holds of both ends of each pair
pub route_all : {A : Type 0} (P : A → Type 0) (a : A) (xs : List A) (z : A) → P a → All P xs → P z →
    All (λ (e : A × A). P e.0 × P e.1) (route a xs z)
route_all P a [] z pa pxs pz = All-cons (λ e. P e.0 × P e.1) (a, z) [] (pa, pz) (All-nil (λ e. P e.0 × P e.1))
route_all P a (x ∷ xs) z pa pxs pz =
    let px = All-head P x xs pxs in
    All-cons (λ e. P e.0 × P e.1) (a, x) (route x xs z) (pa, px) (route_all P x xs z px (All-tail P x xs pxs) pz)

pub boundary_all : {A : Type 0} (P : A → Type 0) (xs : List A) → All P xs → All (λ (e : A × A). P e.0 × P e.1) (boundary xs)
boundary_all P [] h = All-nil (λ e. P e.0 × P e.1)
boundary_all P (x ∷ xs) h = let px = All-head P x xs h in route_all P x xs x px (All-tail P x xs h) px

pub all_both : {A : Type 0} (P Q : A → Type 0) (xs : List A) → All P xs → All Q xs → All (λ x. P x × Q x) xs
all_both P Q xs p q = λ k d h. (p k d h, q k d h)

-- what holds of each of a list holds of each of a part of it
pub all_left : {X : Type 0} (P : X → Type 0) (xs ys : List X) → All P (xs ++ ys) → All P xs
all_left P [] ys h = All-nil P
all_left P (x ∷ xs) ys h = All-cons P x xs (All-head P x (xs ++ ys) h) (all_left P xs ys (All-tail P x (xs ++ ys) h))

pub all_right : {X : Type 0} (P : X → Type 0) (xs ys : List X) → All P (xs ++ ys) → All P ys
all_right P [] ys h = h
all_right P (x ∷ xs) ys h = all_right P xs ys (All-tail P x (xs ++ ys) h)

pub all_flat_map : {A B : Type 0} (P : B → Type 0) (g : A → List B) (xs : List A) → All (λ x. All P (g x)) xs → All P (flat_map g xs)
all_flat_map P g [] h = All-nil P
all_flat_map P g (x ∷ xs) h =
    All-append P (g x) (flat_map g xs) (All-head (λ y. All P (g y)) x xs h) (all_flat_map P g xs (All-tail (λ y. All P (g y)) x xs h))

-- what holds of what a function gives
pub all_mapped : {A B : Type 0} (P : B → Type 0) (g : A → B) (xs : List A) → All P (map g xs) → All (λ x. P (g x)) xs
all_mapped P g [] h = All-nil (λ x. P (g x))
all_mapped P g (x ∷ xs) h =
    All-cons (λ x. P (g x)) x xs (All-head P (g x) (map g xs) h) (all_mapped P g xs (All-tail P (g x) (map g xs) h))

-- a closed list begun elsewhere has the same sum
pub boundary_rotated : {A : Type 0} (f : A × A → ℤ) (xs ys : List A) →
    sum_of f (boundary (xs ++ ys)) ≡ sum_of f (boundary (ys ++ xs))
boundary_rotated f [] ys = ap (λ l. sum_of f (boundary l)) (sym (append-nil ys))
boundary_rotated f (x ∷ xs) [] = ap (λ l. sum_of f (boundary l)) (append-nil (x ∷ xs))
boundary_rotated f (x ∷ xs) (y ∷ ys) =
    rw (route_append x xs y ys x, route_append y ys x xs y)
    (omega (arith, linear, sum_of_append f (route x xs y) (route y ys x), sum_of_append f (route y ys x) (route x xs y)))

-- two lists between two others may be exchanged
pub regrouped : {B : Type 0} (a b c d : List B) → IsPermutation ((a ++ b) ++ (c ++ d)) ((a ++ c) ++ (b ++ d))
regrouped {B} a b c d =
    let swapped : IsPermutation ((b ++ c) ++ d) ((c ++ b) ++ d) =
    IsPermutation-append_left d (b ++ c) (c ++ b) (IsPermutation-append_comm b c) in
    let inner : IsPermutation (b ++ (c ++ d)) (c ++ (b ++ d)) = simp append_assoc at swapped in
    simp append_assoc (IsPermutation-append_right a (b ++ (c ++ d)) (c ++ (b ++ d)) inner)

-- what a walk along a route gives: for each pair (p, x) what the pair and its second give together, and at last what the last pair gives
abbrev pub woven : {A B : Type 0} → (A → A → List B) → (A × A → List B) → A → List A → A → List B
woven step corner p [] z = corner (p, z)
woven step corner p (x ∷ xs) z = step p x ++ woven step corner x xs z

-- the walk's order against all of the one kind first, then all of the other
pub woven_permutes : {A B : Type 0} (top : A → List B) (corner : A × A → List B) (step : A → A → List B) →
    ((p x : A) → IsPermutation (step p x) (top x ++ corner (p, x))) → (p : A) (xs : List A) (z : A) →
    IsPermutation (woven step corner p xs z) (flat_map top xs ++ flat_map corner (route p xs z))
woven_permutes top corner step mixed p [] z = rw append-nil (IsPermutation-refl (corner (p, z)))
woven_permutes top corner step mixed p (x ∷ xs) z =
    IsPermutation-trans (step p x ++ woven step corner x xs z)
    ((top x ++ corner (p, x)) ++ (flat_map top xs ++ flat_map corner (route x xs z)))
    ((top x ++ flat_map top xs) ++ (corner (p, x) ++ flat_map corner (route x xs z)))
    (IsPermutation-append (step p x) (top x ++ corner (p, x)) (woven step corner x xs z) (flat_map top xs ++ flat_map corner (route x xs z))
    (mixed p x) (woven_permutes top corner step mixed x xs z))
    (regrouped (top x) (corner (p, x)) (flat_map top xs) (flat_map corner (route x xs z)))

-- round a closed list, the first one's own edges before all
pub woven_round : {A B : Type 0} (top : A → List B) (corner : A × A → List B) (step : A → A → List B) →
    ((p x : A) → IsPermutation (step p x) (top x ++ corner (p, x))) → (x : A) (xs : List A) →
    IsPermutation (top x ++ woven step corner x xs x) (flat_map top (x ∷ xs) ++ flat_map corner (boundary (x ∷ xs)))
woven_round top corner step mixed x xs =
    rw append_assoc
    (IsPermutation-append_right (top x) (woven step corner x xs x) (flat_map top xs ++ flat_map corner (route x xs x))
    (woven_permutes top corner step mixed x xs x))
