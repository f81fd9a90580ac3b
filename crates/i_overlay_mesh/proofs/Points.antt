-- Lemmas over pairs of numbers: they are ordered by the first, then by the second.
use Rattle.std.proofs.Common.{◌≡◌, ◌∙◌, Bool, true, Less, Equal, Greater, Ordering, refl, sym, ap}
use Rattle.std.specs.Prelude.{ℤ, ◌<ℤ◌, ◌&&◌}
use Rattle.std.specs.Cmp.{int_cmp_is, int_ranks}
use Rattle.std.specs.Ordering.{MatchOrdering, int_cmp, is_eq, ordering_then}
use Rattle.std.proofs.lemmas.Bool.{false≢true}

-- how two numbers of a type are compared that have these values
pub by_value : {X : Type 0} (value : X → ℤ) (of_value : ℤ → X) (cmp : X → X → Ordering) → ((x : X) → of_value (value x) ≡ x) →
    ((x y : X) → cmp x y ≡ int_cmp (value x) (value y)) → (x y : X) → cmp (of_value (value x)) (of_value (value y)) ≡ int_cmp (value x) (value y)
by_value value of_value cmp back law x y = rw (back x, back y) (law x y)

-- and so two pairs of them
pub by_values : {X : Type 0} (value : X → ℤ) (of_value : ℤ → X) (cmp : X → X → Ordering) → ((x : X) → of_value (value x) ≡ x) →
    ((x y : X) → cmp x y ≡ int_cmp (value x) (value y)) → (a b c d : X) →
    ordering_then (cmp (of_value (value a)) (of_value (value c))) (cmp (of_value (value b)) (of_value (value d)))
    ≡ ordering_then (int_cmp (value a) (value c)) (int_cmp (value b) (value d))
by_values value of_value cmp back law a b c d =
    ap (λ (o : Ordering). ordering_then o (cmp (of_value (value b)) (of_value (value d)))) (by_value value of_value cmp back law a c)
    ∙ ap (ordering_then (int_cmp (value a) (value c))) (by_value value of_value cmp back law b d)

parts : (p q : ℤ × ℤ) (r s : Ordering) → MatchOrdering r (p.0 <ℤ q.0) (p.0 ≡ q.0) (q.0 <ℤ p.0) →
    MatchOrdering s (p.1 <ℤ q.1) (p.1 ≡ q.1) (q.1 <ℤ p.1) → ordering_then r s ≡ Equal → p ≡ q
parts p q Equal Equal e f h = λ i. (e i, f i)
parts p q Equal Less e f h = absurd (false≢true (ap is_eq h))
parts p q Equal Greater e f h = absurd (false≢true (ap is_eq h))
parts p q Less s e f h = absurd (false≢true (ap is_eq h))
parts p q Greater s e f h = absurd (false≢true (ap is_eq h))

same_number : (x : ℤ) → int_cmp x x ≡ Equal
same_number x = sym (int_cmp_is x x Equal refl)

-- pairs that compare as equal are one, and one pair compares as equal to itself
pub one_pair : (p q : ℤ × ℤ) → ordering_then (int_cmp p.0 q.0) (int_cmp p.1 q.1) ≡ Equal → p ≡ q
one_pair p q = parts p q (int_cmp p.0 q.0) (int_cmp p.1 q.1) (int_ranks p.0 q.0) (int_ranks p.1 q.1)

pub same_pair : (p q : ℤ × ℤ) → p ≡ q → ordering_then (int_cmp p.0 q.0) (int_cmp p.1 q.1) ≡ Equal
same_pair p q e =
    ap (λ (r : ℤ × ℤ). ordering_then (int_cmp p.0 r.0) (int_cmp p.1 r.1)) (sym e)
    ∙ (ap (λ (o : Ordering). ordering_then o (int_cmp p.1 p.1)) (same_number p.0) ∙ same_number p.1)

-- two answers are both that of equal numbers where the first, or else the second, is
pub both_equal : (r s : Ordering) → (is_eq r && is_eq s) ≡ is_eq (ordering_then r s)
both_equal Less s = refl
both_equal Equal s = refl
both_equal Greater s = refl

-- and how two pairs are told to be equal
pub by_equals : {X : Type 0} (value : X → ℤ) (of_value : ℤ → X) (cmp : X → X → Ordering) (eq : X → X → Bool) → ((x : X) → of_value (value x) ≡ x) →
    ((x y : X) → cmp x y ≡ int_cmp (value x) (value y)) → ((x y : X) → eq x y ≡ is_eq (cmp x y)) → (a b c d : X) →
    (eq (of_value (value a)) (of_value (value c)) && eq (of_value (value b)) (of_value (value d)))
    ≡ is_eq (ordering_then (int_cmp (value a) (value c)) (int_cmp (value b) (value d)))
by_equals value of_value cmp eq back law matches a b c d =
    ap (λ (t : Bool). t && eq (of_value (value b)) (of_value (value d))) (matches (of_value (value a)) (of_value (value c)) ∙ ap is_eq (by_value value of_value cmp back law a c))
    ∙ (ap (λ (t : Bool). is_eq (int_cmp (value a) (value c)) && t) (matches (of_value (value b)) (of_value (value d)) ∙ ap is_eq (by_value value of_value cmp back law b d))
    ∙ both_equal (int_cmp (value a) (value c)) (int_cmp (value b) (value d)))

pub is_equal : (r : Ordering) → is_eq r ≡ true → r ≡ Equal
is_equal Equal h = refl
is_equal Less h = absurd (false≢true h)
is_equal Greater h = absurd (false≢true h)
