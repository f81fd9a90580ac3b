-- Lemmas over numbers and lists: the greatest number of which something holds for each of a list.
use Rattle.std.proofs.Common.{◌≡◌, ℕ, ◌+◌, ◌<◌, List, [], ◌∷◌, ◌++◌, sym, ◌∙◌, ap, subst, take, get_or, arith, length}
use Rattle.std.specs.Prelude.{ℤ, pos, ◌≤ℤ◌, ◌↔◌, map}
use Rattle.std.specs.Int.{int_min}
use Rattle.std.specs.List.{All}
use Rattle.std.proofs.lemmas.Int.{ints, clamps}
use Rattle.std.proofs.lemmas.List.{take_more}
use Rattle.std.proofs.lemmas.List.Elements.{All-nil, All-cons, All-head, All-tail, All-append}
use Rattle.mesh_plane.proofs.ClosedLists.{all_left, all_right, all_mapped}
use Rattle.mesh_inner.specs.Private.Walks.{IsLimit}

pub min_limit : (a b : ℤ) (t : ℕ) → (pos t ≤ℤ int_min a b) ↔ ((pos t ≤ℤ a) × (pos t ≤ℤ b))
min_limit a b t = (λ h. (omega (arith, ints, clamps, h), omega (arith, ints, clamps, h)), λ h. omega (arith, ints, clamps, h.0, h.1))

-- the lesser of two limits
pub limit_both : (a b r : ℤ) (P Q : ℕ → Type 0) → r ≡ int_min a b → IsLimit a P → IsLimit b Q → IsLimit r (λ t. P t × Q t)
limit_both a b r P Q e p q t =
    let m = min_limit a b t in (
      λ h. let k = m.0 (subst (λ (z : ℤ). pos t ≤ℤ z) e h) in ((p t).0 k.0, (q t).0 k.1),
      λ h. subst (λ (z : ℤ). pos t ≤ℤ z) (sym e) (m.1 ((p t).1 h.0, (q t).1 h.1)),
    )

-- a limit is its own
pub limit_own : (a : ℤ) → IsLimit a (λ t. pos t ≤ℤ a)
limit_own a t = (λ h. h, λ h. h)

pub limit_of : (a : ℤ) (P Q : ℕ → Type 0) → IsLimit a P → ((t : ℕ) → P t → Q t) → ((t : ℕ) → Q t → P t) → IsLimit a Q
limit_of a P Q p there back t = (λ h. there t ((p t).0 h), λ h. (p t).1 (back t h))

-- one more of a list
pub limit_push : {A : Type 0} (P : ℕ → A → Type 0) (First : ℕ → Type 0) (least result : ℤ) (xs ys : List A) (x : A) → ys ≡ xs ++ x ∷ []
    → IsLimit least (λ t. First t × All (P t) xs) → IsLimit result (λ t. (pos t ≤ℤ least) × P t x)
    → IsLimit result (λ t. First t × All (P t) ys)
limit_push {A} P First least result xs ys x e h k t = (
  λ at.
      let both = (k t).0 at in
      let before = (h t).0 both.0 in
      (before.0, subst (λ (l : List A). All (P t) l) (sym e) (All-append (P t) xs (x ∷ []) before.1 (All-cons (P t) x [] both.1 (All-nil (P t))))),
  λ at.
      let all = subst (λ (l : List A). All (P t) l) e at.1 in
      (k t).1 ((h t).1 (at.0, all_left (P t) xs (x ∷ []) all), All-head (P t) x [] (all_right (P t) xs (x ∷ []) all)),
)

-- the first of a list and the others
pub limit_cons : {A : Type 0} (P : ℕ → A → Type 0) (least : ℤ) (x : A) (xs : List A)
    → IsLimit least (λ t. P t x × All (P t) xs) → IsLimit least (λ t. All (P t) (x ∷ xs))
limit_cons P least x xs h t =
    (λ at. let both = (h t).0 at in All-cons (P t) x xs both.0 both.1, λ all. (h t).1 (All-head (P t) x xs all, All-tail (P t) x xs all))

-- none of a list
pub limit_none : {A : Type 0} (P : ℕ → A → Type 0) (limit : ℤ) → IsLimit limit (λ t. (pos t ≤ℤ limit) × All (P t) [])
limit_none P limit t = (λ h. (h, All-nil (P t)), λ h. h.0)

pub grown : {A : Type 0} (xs : List A) (i : ℕ) (x : A) → i < length xs → x ≡ get_or xs i x → take (i + 1) xs ≡ take i xs ++ x ∷ []
grown {A} xs i x low is = take_more xs i x low ∙ ap (λ (y : A). take i xs ++ y ∷ []) (sym is)

-- what holds of what a list stands for
pub all_mapped_back : {A B : Type 0} (P : B → Type 0) (g : A → B) (xs : List A) → All (λ x. P (g x)) xs → All P (map g xs)
all_mapped_back P g [] h = All-nil P
all_mapped_back P g (x ∷ xs) h =
    All-cons P (g x) (map g xs) (All-head (λ y. P (g y)) x xs h) (all_mapped_back P g xs (All-tail (λ y. P (g y)) x xs h))

pub limit_mapped : {A B : Type 0} (P : ℕ → B → Type 0) (g : A → B) (limit least : ℤ) (xs : List A)
    → IsLimit least (λ t. (pos t ≤ℤ limit) × All (λ x. P t (g x)) xs) → IsLimit least (λ t. (pos t ≤ℤ limit) × All (P t) (map g xs))
limit_mapped P g limit least xs h t =
    (λ at. let k = (h t).0 at in (k.0, all_mapped_back (P t) g xs k.1), λ at. (h t).1 (at.0, all_mapped (P t) g xs at.1))
