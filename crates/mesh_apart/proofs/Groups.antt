-- Lemmas over placed rings: where none of either list stands with one of the other, the shapes of both lists are those of each.
use Rattle.std.proofs.Common.{◌≡◌, ℕ, ◌+◌, ◌≤◌, ◌⊎◌, inl, inr, ⊎_elim, Bool, true, false, not, ◌&&◌, ◌||◌, List, [], ◌∷◌, map, refl, sym, ◌∙◌, ap, subst, arith}
use Rattle.std.specs.Prelude.{ℤ, pos, ◌<ℤ◌, ◌≤ℤ◌, int_lt}
use Rattle.std.specs.Ordering.{int_eq}
use Rattle.std.specs.List.{filter, list_any, enumerate_from}
use Rattle.std.proofs.lemmas.Bool.{false≢true, or_cases, or_right, and_parts, and_from}
use Rattle.std.proofs.lemmas.Bool.Decides.{Decides-int_eq}
use Rattle.std.proofs.lemmas.Int.{ints}
use Rattle.mesh_plane.proofs.Comparing.{less_test, not_less_test, test_less}
use Rattle.mesh_lattice.proofs.Each.{Each, each_more}
use Rattle.mesh_shapes.specs.Contours.{double_area}
use Rattle.mesh_shapes.specs.Resolution.{Ring, Placed, is_positive, encloses, is_before, is_head, stands_with, shape_of, rings_by_shape}
use Rattle.mesh_apart.specs.Joins.{IsJoin, no_more, from_first, from_second}
use Rattle.mesh_apart.specs.Joined.{surrounds, has_smaller}
use Rattle.mesh_apart.proofs.Joins.{each_any, each_filter, map_agree, filter_agree_each, filter_none, filter_mapped, any_mapped, any_agree, each_map, each_unmap, join_map, join_filter, join_any, first_alone, second_alone}

-- ---- places may change where their order stays

-- a ring with two places
abbrev pub TwicePlaced : Type 0
TwicePlaced = ℕ × ℕ × Ring

abbrev pub at_first : TwicePlaced → Placed
at_first t = (t.0, t.2)

abbrev pub at_second : TwicePlaced → Placed
at_second t = (t.1, t.2)

-- both places go up, from these two on
abbrev pub GoUp : ℕ → ℕ → List TwicePlaced → Type 0
GoUp n m [] = Unit {0}
GoUp n m (t ∷ ts) = (n ≤ t.0) × (m ≤ t.1) × GoUp (t.0 + 1) (t.1 + 1) ts

-- two rings have one order by both
abbrev pub HaveOneOrder : TwicePlaced → TwicePlaced → Type 0
HaveOneOrder t u = int_lt (pos t.0) (pos u.0) ≡ int_lt (pos t.1) (pos u.1)

low_up : (n m k l : ℕ) → k ≤ n → l ≤ m → (ts : List TwicePlaced) → GoUp n m ts → GoUp k l ts
low_up n m k l a b [] h = tt
low_up n m k l a b (t ∷ ts) h = (omega (arith, h.0), omega (arith, h.1), h.2)

each_above : (n m : ℕ) (ts : List TwicePlaced) → GoUp n m ts → Each (λ (t : TwicePlaced). (n ≤ t.0) × (m ≤ t.1)) ts
each_above n m [] h = tt
each_above n m (t ∷ ts) h = (
  (h.0, h.1),
  each_above n m ts (low_up (t.0 + 1) (t.1 + 1) n m (let a = h.0 in omega (arith, a)) (let b = h.1 in omega (arith, b)) ts h.2),
)

less_both : (a b c d : ℕ) → a + 1 ≤ b → c + 1 ≤ d → int_lt (pos a) (pos b) ≡ int_lt (pos c) (pos d)
less_both a b c d h k = less_test (pos a) (pos b) (omega (arith, ints)) ∙ sym (less_test (pos c) (pos d) (omega (arith, ints)))

less_neither : (a b c d : ℕ) → b ≤ a → d ≤ c → int_lt (pos a) (pos b) ≡ int_lt (pos c) (pos d)
less_neither a b c d h k = not_less_test (pos a) (pos b) (omega (arith, ints)) ∙ sym (not_less_test (pos c) (pos d) (omega (arith, ints)))

pub one_order : (n m : ℕ) (ts : List TwicePlaced) → GoUp n m ts → Each (λ (t : TwicePlaced). Each (HaveOneOrder t) ts) ts
one_order n m [] h = tt
one_order n m (t ∷ ts) h = (
  (
    less_neither t.0 t.0 t.1 t.1 (omega arith) (omega arith),
    each_more (λ (u : TwicePlaced). (t.0 + 1 ≤ u.0) × (t.1 + 1 ≤ u.1)) (HaveOneOrder t) (λ (u : TwicePlaced) k. less_both t.0 u.0 t.1 u.1 k.0 k.1) ts above,
  ),
  each_pair (λ (u : TwicePlaced). (t.0 + 1 ≤ u.0) × (t.1 + 1 ≤ u.1)) (λ (u : TwicePlaced). Each (HaveOneOrder u) ts) (λ (u : TwicePlaced). Each (HaveOneOrder u) (t ∷ ts))
      (λ (u : TwicePlaced) k l. (less_neither u.0 t.0 u.1 t.1 (let a = k.0 in omega (arith, a)) (let b = k.1 in omega (arith, b)), l)) ts above (one_order (t.0 + 1) (t.1 + 1) ts h.2),
)
  where
    above : Each (λ (u : TwicePlaced). (t.0 + 1 ≤ u.0) × (t.1 + 1 ≤ u.1)) ts
    above = each_above (t.0 + 1) (t.1 + 1) ts h.2

    each_pair : (P Q R : TwicePlaced → Type 0) → ((u : TwicePlaced) → P u → Q u → R u) → (ts : List TwicePlaced) → Each P ts → Each Q ts → Each R ts
    each_pair P Q R f [] p q = tt
    each_pair P Q R f (u ∷ us) p q = (f u p.0 q.0, each_pair P Q R f us p.1 q.1)

head_same : (ts : List TwicePlaced) (t : TwicePlaced) → is_head (map at_first ts) (at_first t) ≡ is_head (map at_second ts) (at_second t)
head_same ts t =
    ap (λ (b : Bool). is_positive (at_first t) || not b)
    (any_mapped at_first (λ (h : Placed). encloses h (at_first t)) ts ∙ sym (any_mapped at_second (λ (h : Placed). encloses h (at_second t)) ts))

before_same : (t u : TwicePlaced) → HaveOneOrder t u → is_before (at_first t) (at_first u) ≡ is_before (at_second t) (at_second u)
before_same t u h =
    ap (λ (b : Bool). int_lt (double_area t.2.0) (double_area u.2.0) || (int_eq (double_area t.2.0) (double_area u.2.0) && b)) h

stands_same : (ts : List TwicePlaced) (t u : TwicePlaced) → Each (λ (k : TwicePlaced). HaveOneOrder k t) ts
    → stands_with (map at_first ts) (at_first t) (at_first u) ≡ stands_with (map at_second ts) (at_second t) (at_second u)
stands_same ts t u h =
    ap (λ (b : Bool). encloses (at_first t) (at_first u) && not b)
    (any_mapped at_first (λ (k : Placed). encloses k (at_first u) && is_before k (at_first t)) ts
    ∙ (any_agree (λ (k : TwicePlaced). encloses (at_first k) (at_first u) && is_before (at_first k) (at_first t))
    (λ (k : TwicePlaced). encloses (at_second k) (at_second u) && is_before (at_second k) (at_second t)) ts
    (each_more (λ (k : TwicePlaced). HaveOneOrder k t) (λ (k : TwicePlaced).
    (encloses (at_first k) (at_first u) && is_before (at_first k) (at_first t)) ≡ (encloses (at_second k) (at_second u) && is_before (at_second k) (at_second t)))
    (λ (k : TwicePlaced) o. ap (λ (b : Bool). encloses (at_first k) (at_first u) && b) (before_same k t o)) ts h)
    ∙ sym (any_mapped at_second (λ (k : Placed). encloses k (at_second u) && is_before k (at_second t)) ts)))

map_mapped : {A B C : Type 0} (f : A → B) (g : B → C) (xs : List A) → map g (map f xs) ≡ map (λ x. g (f x)) xs
map_mapped f g [] = refl
map_mapped f g (x ∷ xs) = ap (λ l. g (f x) ∷ l) (map_mapped f g xs)

shape_mapped : (place : TwicePlaced → Placed) (rings : List Placed) (h : Placed) (ts : List TwicePlaced)
    → map (λ (r : Placed). r.1) (filter (λ (r : Placed). not (is_head rings r) && stands_with rings h r) (map place ts))
    ≡ map (λ (t : TwicePlaced). (place t).1) (filter (λ (t : TwicePlaced). not (is_head rings (place t)) && stands_with rings h (place t)) ts)
shape_mapped place rings h ts =
    ap (map (λ (r : Placed). r.1)) (filter_mapped place (λ (r : Placed). not (is_head rings r) && stands_with rings h r) ts)
    ∙ map_mapped place (λ (r : Placed). r.1) (filter (λ (t : TwicePlaced). not (is_head rings (place t)) && stands_with rings h (place t)) ts)

shape_same : (ts : List TwicePlaced) (t : TwicePlaced) → Each (λ (k : TwicePlaced). HaveOneOrder k t) ts
    → shape_of (map at_first ts) (at_first t) ≡ shape_of (map at_second ts) (at_second t)
shape_same ts t h =
    ap (λ (l : List Ring). t.2 ∷ l)
    (shape_mapped at_first (map at_first ts) (at_first t) ts
    ∙ (ap (map (λ (u : TwicePlaced). u.2))
    (filter_agree_each (λ (u : TwicePlaced). not (is_head (map at_first ts) (at_first u)) && stands_with (map at_first ts) (at_first t) (at_first u))
    (λ (u : TwicePlaced). not (is_head (map at_second ts) (at_second u)) && stands_with (map at_second ts) (at_second t) (at_second u)) ts
    (each_any (λ (u : TwicePlaced).
    (not (is_head (map at_first ts) (at_first u)) && stands_with (map at_first ts) (at_first t) (at_first u))
    ≡ (not (is_head (map at_second ts) (at_second u)) && stands_with (map at_second ts) (at_second t) (at_second u)))
    (λ (u : TwicePlaced). λ i. not (head_same ts u i) && stands_same ts t u h i) ts))
    ∙ sym (shape_mapped at_second (map at_second ts) (at_second t) ts)))

each_turned : (ts us : List TwicePlaced) → Each (λ (t : TwicePlaced). Each (HaveOneOrder t) us) ts → Each (λ (u : TwicePlaced). Each (λ (t : TwicePlaced). HaveOneOrder t u) ts) us
each_turned ts [] h = tt
each_turned ts (u ∷ us) h = (
  each_more (λ (t : TwicePlaced). Each (HaveOneOrder t) (u ∷ us)) (λ (t : TwicePlaced). HaveOneOrder t u) (λ (t : TwicePlaced) k. k.0) ts h,
  each_turned ts us (each_more (λ (t : TwicePlaced). Each (HaveOneOrder t) (u ∷ us)) (λ (t : TwicePlaced). Each (HaveOneOrder t) us) (λ (t : TwicePlaced) k. k.1) ts h),
)

shapes_mapped : (place : TwicePlaced → Placed) (rings : List Placed) (ts : List TwicePlaced)
    → map (shape_of rings) (filter (is_head rings) (map place ts)) ≡ map (λ (t : TwicePlaced). shape_of rings (place t)) (filter (λ (t : TwicePlaced). is_head rings (place t)) ts)
shapes_mapped place rings ts =
    ap (map (shape_of rings)) (filter_mapped place (is_head rings) ts)
    ∙ map_mapped place (shape_of rings) (filter (λ (t : TwicePlaced). is_head rings (place t)) ts)

-- the shapes of rings depend on the order of their places alone
pub shapes_same : (n m : ℕ) (ts : List TwicePlaced) → GoUp n m ts → rings_by_shape (map at_first ts) ≡ rings_by_shape (map at_second ts)
shapes_same n m ts up =
    shapes_mapped at_first (map at_first ts) ts
    ∙ (ap (map (λ (t : TwicePlaced). shape_of (map at_first ts) (at_first t)))
    (filter_agree_each (λ (t : TwicePlaced). is_head (map at_first ts) (at_first t)) (λ (t : TwicePlaced). is_head (map at_second ts) (at_second t)) ts
    (each_any (λ (t : TwicePlaced). is_head (map at_first ts) (at_first t) ≡ is_head (map at_second ts) (at_second t)) (head_same ts) ts))
    ∙ (map_agree (λ (t : TwicePlaced). shape_of (map at_first ts) (at_first t)) (λ (t : TwicePlaced). shape_of (map at_second ts) (at_second t))
    (filter (λ (t : TwicePlaced). is_head (map at_second ts) (at_second t)) ts)
    (each_filter (λ (t : TwicePlaced). is_head (map at_second ts) (at_second t)) (λ (t : TwicePlaced). shape_of (map at_first ts) (at_first t) ≡ shape_of (map at_second ts) (at_second t)) ts
    (each_more (λ (t : TwicePlaced). Each (λ (k : TwicePlaced). HaveOneOrder k t) ts) (λ (t : TwicePlaced). shape_of (map at_first ts) (at_first t) ≡ shape_of (map at_second ts) (at_second t))
    (λ (t : TwicePlaced) h. shape_same ts t h) ts (each_turned ts ts (one_order n m ts up))))
    ∙ sym (shapes_mapped at_second (map at_second ts) ts)))

-- ---- the places of two lists in their join

-- the rings of two lists, with their places in the join and in their own list
pub record PlacesOf (n k l : ℕ) (rs ss ts : List Ring) : Type 0 where
  pub firsts : List TwicePlaced
  pub seconds : List TwicePlaced
  pub join : IsJoin (map at_first firsts) (map at_first seconds) (enumerate_from n ts)
  pub own_first : map at_second firsts ≡ enumerate_from k rs
  pub own_second : map at_second seconds ≡ enumerate_from l ss
  pub rings_first : map (λ (t : TwicePlaced). t.2) firsts ≡ rs
  pub rings_second : map (λ (t : TwicePlaced). t.2) seconds ≡ ss
  pub up_first : GoUp n k firsts
  pub up_second : GoUp n l seconds

pub places_of : (n k l : ℕ) (rs ss ts : List Ring) → IsJoin rs ss ts → PlacesOf n k l rs ss ts
places_of n k l rs ss ts j = by n k l j
  where
    by : {rs ss ts : List Ring} → (n k l : ℕ) → IsJoin rs ss ts → PlacesOf n k l rs ss ts
    by n k l no_more = record { firsts = []; seconds = []; join = no_more; own_first = refl; own_second = refl; rings_first = refl; rings_second = refl; up_first = tt; up_second = tt }
    by n k l (from_first {x} j) =
        let r = by (n + 1) (k + 1) l j in
        record {
          firsts = (n, k, x) ∷ r.firsts;
          seconds = r.seconds;
          join = from_first r.join;
          own_first = ap (λ (p : List Placed). (k, x) ∷ p) r.own_first;
          own_second = r.own_second;
          rings_first = ap (λ (p : List Ring). x ∷ p) r.rings_first;
          rings_second = r.rings_second;
          up_first = (omega arith, omega arith, r.up_first);
          up_second = low_up (n + 1) l n l (omega arith) (omega arith) r.seconds r.up_second;
        }
    by n k l (from_second {y} j) =
        let r = by (n + 1) k (l + 1) j in
        record {
          firsts = r.firsts;
          seconds = (n, l, y) ∷ r.seconds;
          join = from_second r.join;
          own_first = r.own_first;
          own_second = ap (λ (p : List Placed). (l, y) ∷ p) r.own_second;
          rings_first = r.rings_first;
          rings_second = ap (λ (p : List Ring). y ∷ p) r.rings_second;
          up_first = low_up (n + 1) k n k (omega arith) (omega arith) r.firsts r.up_first;
          up_second = (omega arith, omega arith, r.up_second);
        }

-- ---- placed rings of two lists

or_turned : (a b : Bool) → (a || b) ≡ (b || a)
or_turned true true = refl
or_turned true false = refl
or_turned false true = refl
or_turned false false = refl

absorbed : (a b : Bool) → (b ≡ true → a ≡ true) → (a || b) ≡ a
absorbed true b h = refl
absorbed false true h = sym (h refl)
absorbed false false h = refl

and_none : (a b : Bool) → a ≡ false → (a && b) ≡ false
and_none a b h = ap (λ (c : Bool). c && b) h

-- a list that is part of another, which has it and the rest
record IsPart (own rest all : List Placed) : Type 0 where
  found : (p : Placed → Bool) → list_any p all ≡ (list_any p own || list_any p rest)
  kept : (p : Placed → Bool) → Each (λ x. p x ≡ false) rest → filter p all ≡ filter p own

first_part : (xs ys zs : List Placed) → IsJoin xs ys zs → IsPart xs ys zs
first_part xs ys zs j = record {
  found = λ p. join_any p xs ys zs j;
  kept = λ p h. first_alone (filter p xs) (filter p ys) (filter p zs) (join_filter p xs ys zs j) (filter_none p ys h);
}

second_part : (xs ys zs : List Placed) → IsJoin xs ys zs → IsPart ys xs zs
second_part xs ys zs j = record {
  found = λ p. join_any p xs ys zs j ∙ or_turned (list_any p xs) (list_any p ys);
  kept = λ p h. second_alone (filter p xs) (filter p ys) (filter p zs) (join_filter p xs ys zs j) (filter_none p xs h);
}

-- of the list, a ring encloses `r` and has less area than `k`
abbrev smaller_round : List Placed → Placed → Placed → Bool
smaller_round own r k = list_any (λ (h : Placed). encloses h r && int_lt (double_area h.1.0) (double_area k.1.0)) own

-- a ring heads a shape, or one of its own list encloses it that is smaller than any of the rest that does
abbrev IsHeld : List Placed → List Placed → Placed → Type 0
IsHeld own rest r = (is_positive r ≡ true) ⊎ Each (λ (k : Placed). encloses k r ≡ true → smaller_round own r k ≡ true) rest

-- so none of the rest holds it
abbrev IsFreeOf : List Placed → Placed → Placed → Type 0
IsFreeOf own k r = (is_positive r ≡ true) ⊎ (encloses k r ≡ true → smaller_round own r k ≡ true)

free_of_each : (own rest rs : List Placed) → Each (IsHeld own rest) rs → Each (λ (k : Placed). Each (IsFreeOf own k) rs) rest
free_of_each own [] rs h = tt
free_of_each own (k ∷ ks) rs h =
    (each_more (IsHeld own (k ∷ ks)) (IsFreeOf own k) first rs h, free_of_each own ks rs (each_more (IsHeld own (k ∷ ks)) (IsHeld own ks) others rs h))
  where
    first : (r : Placed) → IsHeld own (k ∷ ks) r → IsFreeOf own k r
    first r (inl h) = inl h
    first r (inr h) = inr h.0

    others : (r : Placed) → IsHeld own (k ∷ ks) r → IsHeld own ks r
    others r (inl h) = inl h
    others r (inr h) = inr h.1

any_some : (p : Placed → Bool) (C : Type 0) (xs : List Placed) → Each (λ x. p x ≡ true → C) xs → list_any p xs ≡ true → C
any_some p C [] each h = absurd (false≢true h)
any_some p C (x ∷ xs) each h = ⊎_elim (λ (t : p x ≡ true). each.0 t) (λ (t : list_any p xs ≡ true). any_some p C xs each.1 t) (or_cases (p x) (list_any p xs) h)

any_more : (p q : Placed → Bool) → ((x : Placed) → p x ≡ true → q x ≡ true) → (xs : List Placed) → list_any p xs ≡ true → list_any q xs ≡ true
any_more p q f [] h = h
any_more p q f (x ∷ xs) h =
    ⊎_elim (λ (t : p x ≡ true). ap (λ (b : Bool). b || list_any q xs) (f x t)) (λ (t : list_any p xs ≡ true). or_right (q x) (list_any q xs) (any_more p q f xs t))
    (or_cases (p x) (list_any p xs) h)

head_positive : (all : List Placed) (r : Placed) → is_positive r ≡ true → is_head all r ≡ true
head_positive all r h = ap (λ (b : Bool). b || not (list_any (λ (k : Placed). encloses k r) all)) h

-- a smaller ring than one that comes before another comes before it
smaller_before : (h k t : Placed) → int_lt (double_area h.1.0) (double_area k.1.0) ≡ true → is_before k t ≡ true → is_before h t ≡ true
smaller_before h k t less before =
    let small : double_area h.1.0 <ℤ double_area k.1.0 = test_less (double_area h.1.0) (double_area k.1.0) less in
    let low : double_area k.1.0 ≤ℤ double_area t.1.0 =
    ⊎_elim (λ (l : int_lt (double_area k.1.0) (double_area t.1.0) ≡ true). below (double_area k.1.0) (double_area t.1.0) (test_less (double_area k.1.0) (double_area t.1.0) l))
    (λ (l : (int_eq (double_area k.1.0) (double_area t.1.0) && int_lt (pos k.0) (pos t.0)) ≡ true).
    equal (double_area k.1.0) (double_area t.1.0) ((Decides-int_eq (double_area k.1.0) (double_area t.1.0)).0 (and_parts (int_eq (double_area k.1.0) (double_area t.1.0)) (int_lt (pos k.0) (pos t.0)) l).0))
    (or_cases (int_lt (double_area k.1.0) (double_area t.1.0)) (int_eq (double_area k.1.0) (double_area t.1.0) && int_lt (pos k.0) (pos t.0)) before) in
    ap (λ (b : Bool). b || (int_eq (double_area h.1.0) (double_area t.1.0) && int_lt (pos h.0) (pos t.0)))
    (less_test (double_area h.1.0) (double_area t.1.0) (through (double_area h.1.0) (double_area k.1.0) (double_area t.1.0) small low))
  where
    below : (a b : ℤ) → a <ℤ b → a ≤ℤ b
    below a b h = omega (arith, ints, h)

    equal : (a b : ℤ) → a ≡ b → a ≤ℤ b
    equal a b h = omega (arith, ints, h)

    through : (a b c : ℤ) → a <ℤ b → b ≤ℤ c → a <ℤ c
    through a b c h k = omega (arith, ints, h, k)

smaller_is_before : (own : List Placed) (r k t : Placed) → smaller_round own r k ≡ true → is_before k t ≡ true → list_any (λ (h : Placed). encloses h r && is_before h t) own ≡ true
smaller_is_before own r k t small before =
    any_more (λ (h : Placed). encloses h r && int_lt (double_area h.1.0) (double_area k.1.0)) (λ (h : Placed). encloses h r && is_before h t)
    (λ (h : Placed) b.
    let parts = and_parts (encloses h r) (int_lt (double_area h.1.0) (double_area k.1.0)) b in
    and_from (encloses h r) (is_before h t) parts.0 (smaller_before h k t parts.1 before)) own small

head_part : (own rest all : List Placed) → IsPart own rest all → (r : Placed) → IsHeld own rest r → is_head all r ≡ is_head own r
head_part own rest all part r (inl h) = head_positive all r h ∙ sym (head_positive own r h)
head_part own rest all part r (inr h) =
    ap (λ (c : Bool). is_positive r || not c)
    (part.found (λ (k : Placed). encloses k r)
    ∙ absorbed (list_any (λ (k : Placed). encloses k r) own) (list_any (λ (k : Placed). encloses k r) rest)
    (any_some (λ (k : Placed). encloses k r) (list_any (λ (k : Placed). encloses k r) own ≡ true) rest
    (each_more (λ (k : Placed). encloses k r ≡ true → smaller_round own r k ≡ true) (λ (k : Placed). encloses k r ≡ true → list_any (λ (h : Placed). encloses h r) own ≡ true)
    (λ (k : Placed) f b.
    any_more (λ (h : Placed). encloses h r && int_lt (double_area h.1.0) (double_area k.1.0)) (λ (h : Placed). encloses h r)
    (λ (h : Placed) c. (and_parts (encloses h r) (int_lt (double_area h.1.0) (double_area k.1.0)) c).0) own (f b)) rest h)))

stands_part : (own rest all : List Placed) → IsPart own rest all → (t r : Placed) → Each (λ (k : Placed). encloses k r ≡ true → smaller_round own r k ≡ true) rest
    → stands_with all t r ≡ stands_with own t r
stands_part own rest all part t r h =
    ap (λ (c : Bool). encloses t r && not c)
    (part.found (λ (k : Placed). encloses k r && is_before k t)
    ∙ absorbed (list_any (λ (k : Placed). encloses k r && is_before k t) own) (list_any (λ (k : Placed). encloses k r && is_before k t) rest)
    (any_some (λ (k : Placed). encloses k r && is_before k t) (list_any (λ (k : Placed). encloses k r && is_before k t) own ≡ true) rest
    (each_more (λ (k : Placed). encloses k r ≡ true → smaller_round own r k ≡ true)
    (λ (k : Placed). (encloses k r && is_before k t) ≡ true → list_any (λ (h : Placed). encloses h r && is_before h t) own ≡ true)
    (λ (k : Placed) f b. let parts = and_parts (encloses k r) (is_before k t) b in smaller_is_before own r k t (f parts.0) parts.1) rest h)))

-- whether a ring is one of those that stand with `t`
abbrev stands_among : List Placed → Placed → Placed → Bool
stands_among rings t r = not (is_head rings r) && stands_with rings t r

member_own : (own rest all : List Placed) → IsPart own rest all → (t r : Placed) → IsHeld own rest r → stands_among all t r ≡ stands_among own t r
member_own own rest all part t r (inl h) =
    and_none (not (is_head all r)) (stands_with all t r) (ap not (head_positive all r h))
    ∙ sym (and_none (not (is_head own r)) (stands_with own t r) (ap not (head_positive own r h)))
member_own own rest all part t r (inr h) = λ i. not (head_part own rest all part r (inr h) i) && stands_part own rest all part t r h i

member_other : (own rest all : List Placed) → IsPart own rest all → (t r : Placed) → IsFreeOf rest t r → stands_among all t r ≡ false
member_other own rest all part t r (inl h) = and_none (not (is_head all r)) (stands_with all t r) (ap not (head_positive all r h))
member_other own rest all part t r (inr h) =
    ap (λ (b : Bool). not (is_head all r) && b) (by (encloses t r) refl) ∙ none (not (is_head all r))
  where
    none : (a : Bool) → (a && false) ≡ false
    none true = refl
    none false = refl

    found : encloses t r ≡ true → list_any (λ (k : Placed). encloses k r && is_before k t) all ≡ true
    found b =
        part.found (λ (k : Placed). encloses k r && is_before k t)
        ∙ or_right (list_any (λ (k : Placed). encloses k r && is_before k t) own) (list_any (λ (k : Placed). encloses k r && is_before k t) rest)
        (any_more (λ (k : Placed). encloses k r && int_lt (double_area k.1.0) (double_area t.1.0)) (λ (k : Placed). encloses k r && is_before k t)
        (λ (k : Placed) c.
        let parts = and_parts (encloses k r) (int_lt (double_area k.1.0) (double_area t.1.0)) c in
        and_from (encloses k r) (is_before k t) parts.0
        (ap (λ (d : Bool). d || (int_eq (double_area k.1.0) (double_area t.1.0) && int_lt (pos k.0) (pos t.0))) parts.1)) rest (h b))

    by : (b : Bool) → encloses t r ≡ b → stands_with all t r ≡ false
    by true e = (λ i. e i && not (found e i))
    by false e = and_none (encloses t r) (not (list_any (λ (k : Placed). encloses k r && is_before k t) all)) e

shape_part : (own rest all : List Placed) → IsPart own rest all → Each (IsHeld own rest) own → (t : Placed) → Each (IsFreeOf rest t) rest → shape_of all t ≡ shape_of own t
shape_part own rest all part held t free =
    ap (λ (l : List Placed). t.1 ∷ map (λ (r : Placed). r.1) l)
    (part.kept (stands_among all t) (each_more (IsFreeOf rest t) (λ (r : Placed). stands_among all t r ≡ false) (λ (r : Placed) f. member_other own rest all part t r f) rest free)
    ∙ filter_agree_each (stands_among all t) (stands_among own t) own
    (each_more (IsHeld own rest) (λ (r : Placed). stands_among all t r ≡ stands_among own t r) (λ (r : Placed) h. member_own own rest all part t r h) own held))

shapes_part : (own rest all : List Placed) → IsPart own rest all → Each (IsHeld own rest) own → Each (IsHeld rest own) rest → map (shape_of all) (filter (is_head all) own) ≡ rings_by_shape own
shapes_part own rest all part held others =
    ap (map (shape_of all))
    (filter_agree_each (is_head all) (is_head own) own
    (each_more (IsHeld own rest) (λ (r : Placed). is_head all r ≡ is_head own r) (λ (r : Placed) h. head_part own rest all part r h) own held))
    ∙ map_agree (shape_of all) (shape_of own) (filter (is_head own) own)
    (each_filter (is_head own) (λ (t : Placed). shape_of all t ≡ shape_of own t) own
    (each_more (λ (t : Placed). Each (IsFreeOf rest t) rest) (λ (t : Placed). shape_of all t ≡ shape_of own t) (λ (t : Placed) f. shape_part own rest all part held t f) own
    (free_of_each rest own rest others)))

placed_join : (xs ys zs : List Placed) → IsJoin xs ys zs → Each (IsHeld xs ys) xs → Each (IsHeld ys xs) ys → IsJoin (rings_by_shape xs) (rings_by_shape ys) (rings_by_shape zs)
placed_join xs ys zs j first second =
    subst (λ (l : List (List Ring)). IsJoin l (rings_by_shape ys) (rings_by_shape zs)) (shapes_part xs ys zs (first_part xs ys zs j) first second)
    (subst (λ (l : List (List Ring)). IsJoin (map (shape_of zs) (filter (is_head zs) xs)) l (rings_by_shape zs)) (shapes_part ys xs zs (second_part xs ys zs j) second first)
    (join_map (shape_of zs) (filter (is_head zs) xs) (filter (is_head zs) ys) (filter (is_head zs) zs) (join_filter (is_head zs) xs ys zs j)))

-- ---- the same of rings without places

-- as `IsHeldByOwn`, of each element
abbrev pub HoldsItself : List Ring → List Ring → Ring → Type 0
HoldsItself own others r = (int_lt (pos 0) (double_area r.0) ≡ true) ⊎ Each (λ (k : Ring). surrounds k r ≡ true → has_smaller own r k ≡ true) others

placed_all : (ts : List TwicePlaced) (rs : List Ring) (P : Ring → Type 0) → map (λ (t : TwicePlaced). t.2) ts ≡ rs → Each P rs → Each (λ (t : TwicePlaced). P t.2) ts
placed_all ts rs P e h = each_unmap (λ (t : TwicePlaced). t.2) P ts (subst (Each P) (sym e) h)

placed_any : (ts : List TwicePlaced) (rs : List Ring) (p : Ring → Bool) → map (λ (t : TwicePlaced). t.2) ts ≡ rs → list_any p rs ≡ list_any (λ (h : Placed). p h.1) (map at_first ts)
placed_any ts rs p e =
    ap (list_any p) (sym e) ∙ (any_mapped (λ (t : TwicePlaced). t.2) p ts ∙ sym (any_mapped at_first (λ (h : Placed). p h.1) ts))

placed_held : (ts us : List TwicePlaced) (rs ss : List Ring) → map (λ (t : TwicePlaced). t.2) ts ≡ rs → map (λ (t : TwicePlaced). t.2) us ≡ ss
    → Each (HoldsItself rs ss) rs → Each (IsHeld (map at_first ts) (map at_first us)) (map at_first ts)
placed_held ts us rs ss e f h = each_map at_first (IsHeld (map at_first ts) (map at_first us)) ts (placed_all ts rs (λ (r : Ring). IsHeld (map at_first ts) (map at_first us) (0, r)) e (each_more (HoldsItself rs ss) (λ (r : Ring). IsHeld (map at_first ts) (map at_first us) (0, r)) by rs h))
  where
    by : (r : Ring) → HoldsItself rs ss r → IsHeld (map at_first ts) (map at_first us) (0, r)
    by r (inl h) = inl h
    by r (inr h) =
        inr (each_map at_first (λ (k : Placed). encloses k (0, r) ≡ true → smaller_round (map at_first ts) (0, r) k ≡ true) us
        (placed_all us ss (λ (k : Ring). surrounds k r ≡ true → smaller_round (map at_first ts) (0, r) (0, k) ≡ true) f
        (each_more (λ (k : Ring). surrounds k r ≡ true → has_smaller rs r k ≡ true) (λ (k : Ring). surrounds k r ≡ true → smaller_round (map at_first ts) (0, r) (0, k) ≡ true)
        (λ (k : Ring) g b. sym (placed_any ts rs (λ (h : Ring). surrounds h r && int_lt (double_area h.0) (double_area k.0)) e) ∙ g b) ss h)))

-- the shapes of a join of two lists of rings that hold their own join the shapes of both
pub shapes_join : (rs ss ts : List Ring) → IsJoin rs ss ts → Each (HoldsItself rs ss) rs → Each (HoldsItself ss rs) ss
    → IsJoin (rings_by_shape (enumerate_from 0 rs)) (rings_by_shape (enumerate_from 0 ss)) (rings_by_shape (enumerate_from 0 ts))
shapes_join rs ss ts j held others =
    let p = places_of 0 0 0 rs ss ts j in
    let first : rings_by_shape (map at_first p.firsts) ≡ rings_by_shape (enumerate_from 0 rs) = shapes_same 0 0 p.firsts p.up_first ∙ ap rings_by_shape p.own_first in
    let second : rings_by_shape (map at_first p.seconds) ≡ rings_by_shape (enumerate_from 0 ss) = shapes_same 0 0 p.seconds p.up_second ∙ ap rings_by_shape p.own_second in
    subst (λ (l : List (List Ring)). IsJoin l (rings_by_shape (enumerate_from 0 ss)) (rings_by_shape (enumerate_from 0 ts))) first
    (subst (λ (l : List (List Ring)). IsJoin (rings_by_shape (map at_first p.firsts)) l (rings_by_shape (enumerate_from 0 ts))) second
    (placed_join (map at_first p.firsts) (map at_first p.seconds) (enumerate_from 0 ts) p.join
    (placed_held p.firsts p.seconds rs ss p.rings_first p.rings_second held) (placed_held p.seconds p.firsts ss rs p.rings_second p.rings_first others)))
