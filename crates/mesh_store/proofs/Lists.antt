-- Lemmas over lists and calls.
use Rattle.std.proofs.Common.{◌≡◌, ◌⊎◌, inl, inr, ⊎_elim, ℕ, zero, suc, ◌<◌, sym, subst, refl, arith, List, [], ◌∷◌, ◌++◌, length, get_or, Result, Ok, Err, OnOk, IfOk}
use Rattle.std.specs.Prelude.{ℤ, pos, ◌<ℤ◌}
use Rattle.std.proofs.lemmas.Int.{ints}
use Rattle.mesh_plane.specs.Plane.{Edge}
use Rattle.mesh_store.specs.Cells.{StandsIn}

-- ---- calls that succeed, and numbers

pub if_ok : {T E : Type 0} (r : Result T E) (P Q : T → Type 0) → ((x : T) → P x → Q x) → IfOk r P → IfOk r Q
if_ok (Ok x) P Q f h = f x h
if_ok (Err e) P Q f h = h

pub on_ok : {T E P Q : Type 0} (r : Result T E) → (P → Q) → OnOk r P → OnOk r Q
on_ok (Ok x) f h = f h
on_ok (Err e) f h = h

pub not_positive : (z : ℤ) → z ≡ pos 0 → pos 0 <ℤ z → ⊥
not_positive z h l = omega (arith, ints, h, l)

-- ---- what stands in lists

pub stands_first : {A : Type 0} (x : A) (xs : List A) → StandsIn x (x ∷ xs)
stands_first x xs = record { at = 0; within = omega arith; same = λ d. refl }

pub stands_later : {A : Type 0} (x y : A) (xs : List A) → StandsIn x xs → StandsIn x (y ∷ xs)
stands_later x y xs l = record { at = suc l.at; within = omega (arith, l.within); same = λ d. l.same d }

pub stands_after : {A : Type 0} (x : A) (xs ys : List A) → StandsIn x ys → StandsIn x (xs ++ ys)
stands_after x [] ys l = l
stands_after x (z ∷ zs) ys l = stands_later x z (zs ++ ys) (stands_after x zs ys l)

pub stands_nowhere : {A : Type 0} (x : A) → StandsIn x [] → ⊥
stands_nowhere x l = omega (arith, l.within)

-- it is the first, or stands among the others
pub first_or_other : {A : Type 0} (x y : A) (ys : List A) → StandsIn x (y ∷ ys) → (x ≡ y) ⊎ StandsIn x ys
first_or_other x y ys l = by x y ys l.at l.within l.same
  where
    by : {A : Type 0} (x y : A) (ys : List A) (k : ℕ) → k < length (y ∷ ys) → ((d : A) → get_or (y ∷ ys) k d ≡ x) → (x ≡ y) ⊎ StandsIn x ys
    by x y ys zero h same = inl (sym (same y))
    by x y ys (suc k) h same = inr (record { at = k; within = omega (arith, h); same = λ d. same d })

-- it stands in one part or in the other
pub either_part : {A : Type 0} (x : A) (xs ys : List A) → StandsIn x (xs ++ ys) → StandsIn x xs ⊎ StandsIn x ys
either_part x [] ys l = inr l
either_part x (z ∷ zs) ys l =
    ⊎_elim
    (λ (e : x ≡ z). inl (subst (λ (y : _). StandsIn x (y ∷ zs)) e (stands_first x zs)))
    (λ (m : StandsIn x (zs ++ ys)). ⊎_elim (λ (a : StandsIn x zs). inl (stands_later x z zs a)) (λ (b : StandsIn x ys). inr b) (either_part x zs ys m))
    (first_or_other x z (zs ++ ys) l)

-- what holds of each of both parts holds of each of the whole
pub both_parts : (P : Edge → Type 0) (xs ys : List Edge) → ((x : Edge) → StandsIn x xs → P x) → ((x : Edge) → StandsIn x ys → P x) → (x : Edge) → StandsIn x (xs ++ ys) → P x
both_parts P xs ys f g x l = ⊎_elim (λ (a : StandsIn x xs). f x a) (λ (b : StandsIn x ys). g x b) (either_part x xs ys l)

pub only_one : (P : Edge → Type 0) (y : Edge) → P y → (x : Edge) → StandsIn x (y ∷ []) → P x
only_one P y p x l = ⊎_elim (λ (e : x ≡ y). subst P (sym e) p) (λ (m : StandsIn x []). absurd (stands_nowhere x m)) (first_or_other x y [] l)
