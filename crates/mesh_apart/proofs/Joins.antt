-- Lemmas over lists: joins of lists, and ordered ones.
use Rattle.std.proofs.Common.{◌≡◌, ℕ, ◌+◌, ◌<◌, zero, suc, Bool, true, false, cond, ◌||◌, List, [], ◌∷◌, ◌++◌, map, length, get_or, refl, sym, ◌∙◌, ap, subst, arith}
use Rattle.std.specs.Cmp.{IsStrictWeakOrder}
use Rattle.std.specs.List.{All, filter, list_any}
use Rattle.std.specs.List.Sorted.{IsPermutation, IsSortedBy}
use Rattle.std.proofs.lemmas.List.Elements.{All-nil, All-cons}
use Rattle.std.proofs.lemmas.List.Sorted.{IsPermutation-refl, IsPermutation-cons, IsPermutation-trans, IsPermutation-middle, sorted_far}
use Rattle.mesh_lattice.proofs.Each.{Each, each_more}
use Rattle.mesh_apart.specs.Joins.{IsJoin, no_more, from_first, from_second}

-- ---- what holds of each element

pub all_from_each : {A : Type 0} (P : A → Type 0) (xs : List A) → Each P xs → All P xs
all_from_each P [] h = All-nil P
all_from_each P (x ∷ xs) h = All-cons P x xs h.0 (all_from_each P xs h.1)

pub each_any : {A : Type 0} (P : A → Type 0) → ((x : A) → P x) → (xs : List A) → Each P xs
each_any P f [] = tt
each_any P f (x ∷ xs) = (f x, each_any P f xs)

pub each_filter : {A : Type 0} (p : A → Bool) (P : A → Type 0) (xs : List A) → Each P xs → Each P (filter p xs)
each_filter p P [] h = tt
each_filter p P (x ∷ xs) h = by (p x) (each_filter p P xs h.1)
  where
    by : (b : Bool) → Each P (filter p xs) → Each P (cond b (x ∷ filter p xs) (filter p xs))
    by true rest = (h.0, rest)
    by false rest = rest

pub each_map : {A B : Type 0} (f : A → B) (P : B → Type 0) (xs : List A) → Each (λ x. P (f x)) xs → Each P (map f xs)
each_map f P [] h = tt
each_map f P (x ∷ xs) h = (h.0, each_map f P xs h.1)

pub each_unmap : {A B : Type 0} (f : A → B) (P : B → Type 0) (xs : List A) → Each P (map f xs) → Each (λ x. P (f x)) xs
each_unmap f P [] h = tt
each_unmap f P (x ∷ xs) h = (h.0, each_unmap f P xs h.1)

pub map_agree : {A B : Type 0} (f g : A → B) (xs : List A) → Each (λ x. f x ≡ g x) xs → map f xs ≡ map g xs
map_agree f g [] h = refl
map_agree f g (x ∷ xs) h = λ i. h.0 i ∷ map_agree f g xs h.1 i

pub filter_agree_each : {A : Type 0} (p q : A → Bool) (xs : List A) → Each (λ x. p x ≡ q x) xs → filter p xs ≡ filter q xs
filter_agree_each p q [] h = refl
filter_agree_each p q (x ∷ xs) h = λ i. cond (h.0 i) (x ∷ filter_agree_each p q xs h.1 i) (filter_agree_each p q xs h.1 i)

pub filter_none : {A : Type 0} (p : A → Bool) (xs : List A) → Each (λ x. p x ≡ false) xs → filter p xs ≡ []
filter_none p [] h = refl
filter_none p (x ∷ xs) h = (λ i. cond (h.0 i) (x ∷ filter p xs) (filter p xs)) ∙ filter_none p xs h.1

pub filter_mapped : {A B : Type 0} (f : A → B) (p : B → Bool) (xs : List A) → filter p (map f xs) ≡ map f (filter (λ x. p (f x)) xs)
filter_mapped f p [] = refl
filter_mapped f p (x ∷ xs) = by (p (f x)) (filter_mapped f p xs)
  where
    by : (b : Bool) → filter p (map f xs) ≡ map f (filter (λ x. p (f x)) xs)
        → cond b (f x ∷ filter p (map f xs)) (filter p (map f xs)) ≡ map f (cond b (x ∷ filter (λ x. p (f x)) xs) (filter (λ x. p (f x)) xs))
    by true rest = ap (λ l. f x ∷ l) rest
    by false rest = rest

pub any_mapped : {A B : Type 0} (f : A → B) (p : B → Bool) (xs : List A) → list_any p (map f xs) ≡ list_any (λ x. p (f x)) xs
any_mapped f p [] = refl
any_mapped f p (x ∷ xs) = ap (λ (b : Bool). p (f x) || b) (any_mapped f p xs)

pub any_agree : {A : Type 0} (p q : A → Bool) (xs : List A) → Each (λ x. p x ≡ q x) xs → list_any p xs ≡ list_any q xs
any_agree p q [] h = refl
any_agree p q (x ∷ xs) h = λ i. h.0 i || any_agree p q xs h.1 i

pub any_none : {A : Type 0} (p : A → Bool) (xs : List A) → Each (λ x. p x ≡ false) xs → list_any p xs ≡ false
any_none p [] h = refl
any_none p (x ∷ xs) h = (λ i. h.0 i || list_any p xs) ∙ any_none p xs h.1

-- ---- joins

pub join_map : {A B : Type 0} (f : A → B) (xs ys zs : List A) → IsJoin xs ys zs → IsJoin (map f xs) (map f ys) (map f zs)
join_map f xs ys zs j = by j
  where
    by : {xs ys zs : List _} → IsJoin xs ys zs → IsJoin (map f xs) (map f ys) (map f zs)
    by no_more = no_more
    by (from_first j) = from_first (by j)
    by (from_second j) = from_second (by j)

pub join_filter : {A : Type 0} (p : A → Bool) (xs ys zs : List A) → IsJoin xs ys zs → IsJoin (filter p xs) (filter p ys) (filter p zs)
join_filter {A} p xs ys zs j = by j
  where
    first : (x : A) (xs ys zs : List A) → IsJoin (filter p xs) (filter p ys) (filter p zs) → (b : Bool)
        → IsJoin (cond b (x ∷ filter p xs) (filter p xs)) (filter p ys) (cond b (x ∷ filter p zs) (filter p zs))
    first x xs ys zs j true = from_first j
    first x xs ys zs j false = j

    second : (y : A) (xs ys zs : List A) → IsJoin (filter p xs) (filter p ys) (filter p zs) → (b : Bool)
        → IsJoin (filter p xs) (cond b (y ∷ filter p ys) (filter p ys)) (cond b (y ∷ filter p zs) (filter p zs))
    second y xs ys zs j true = from_second j
    second y xs ys zs j false = j

    by : {xs ys zs : List A} → IsJoin xs ys zs → IsJoin (filter p xs) (filter p ys) (filter p zs)
    by no_more = no_more
    by (from_first {x} {xs} {ys} {zs} j) = first x xs ys zs (by j) (p x)
    by (from_second {y} {xs} {ys} {zs} j) = second y xs ys zs (by j) (p y)

or_join : (a b c d : Bool) → d ≡ (b || c) → (a || d) ≡ ((a || b) || c)
or_join true b c d h = refl
or_join false b c d h = h

or_cross : (a b c d : Bool) → d ≡ (b || c) → (a || d) ≡ (b || (a || c))
or_cross true true c d h = refl
or_cross true false c d h = refl
or_cross false b c d h = h

pub join_any : {A : Type 0} (p : A → Bool) (xs ys zs : List A) → IsJoin xs ys zs → list_any p zs ≡ (list_any p xs || list_any p ys)
join_any {A} p xs ys zs j = by j
  where
    by : {xs ys zs : List A} → IsJoin xs ys zs → list_any p zs ≡ (list_any p xs || list_any p ys)
    by no_more = refl
    by (from_first {x} {xs} {ys} {zs} j) = or_join (p x) (list_any p xs) (list_any p ys) (list_any p zs) (by j)
    by (from_second {y} {xs} {ys} {zs} j) = or_cross (p y) (list_any p xs) (list_any p ys) (list_any p zs) (by j)

pub join_each : {A : Type 0} (P : A → Type 0) (xs ys zs : List A) → IsJoin xs ys zs → Each P xs → Each P ys → Each P zs
join_each {A} P xs ys zs j hx hy = by j hx hy
  where
    by : {xs ys zs : List A} → IsJoin xs ys zs → Each P xs → Each P ys → Each P zs
    by no_more hx hy = tt
    by (from_first j) hx hy = (hx.0, by j hx.1 hy)
    by (from_second j) hx hy = (hy.0, by j hx hy.1)

-- what holds of each of a join holds of each of both
pub join_parts : {A : Type 0} (P : A → Type 0) (xs ys zs : List A) → IsJoin xs ys zs → Each P zs → Each P xs × Each P ys
join_parts {A} P xs ys zs j h = by j h
  where
    by : {xs ys zs : List A} → IsJoin xs ys zs → Each P zs → Each P xs × Each P ys
    by no_more h = (tt, tt)
    by (from_first j) h = let r = by j h.1 in ((h.0, r.0), r.1)
    by (from_second j) h = let r = by j h.1 in (r.0, (h.0, r.1))

pub join_permutes : {A : Type 0} (xs ys zs : List A) → IsJoin xs ys zs → IsPermutation (xs ++ ys) zs
join_permutes {A} xs ys zs j = by j
  where
    by : {xs ys zs : List A} → IsJoin xs ys zs → IsPermutation (xs ++ ys) zs
    by no_more = IsPermutation-refl []
    by (from_first {x} {xs} {ys} {zs} j) = IsPermutation-cons x (xs ++ ys) zs (by j)
    by (from_second {y} {xs} {ys} {zs} j) =
        IsPermutation-trans (xs ++ y ∷ ys) (y ∷ (xs ++ ys)) (y ∷ zs) (IsPermutation-middle xs y ys) (IsPermutation-cons y (xs ++ ys) zs (by j))

pub join_first : {A : Type 0} (xs : List A) → IsJoin xs [] xs
join_first [] = no_more
join_first (x ∷ xs) = from_first (join_first xs)

pub join_second : {A : Type 0} (ys : List A) → IsJoin [] ys ys
join_second [] = no_more
join_second (y ∷ ys) = from_second (join_second ys)

pub first_alone : {A : Type 0} (xs ys zs : List A) → IsJoin xs ys zs → ys ≡ [] → zs ≡ xs
first_alone {A} xs ys zs j e = by j e
  where
    by : {xs ys zs : List A} → IsJoin xs ys zs → ys ≡ [] → zs ≡ xs
    by no_more e = refl
    by (from_first {x} j) e = ap (λ l. x ∷ l) (by j e)
    by (from_second j) e = cc

pub second_alone : {A : Type 0} (xs ys zs : List A) → IsJoin xs ys zs → xs ≡ [] → zs ≡ ys
second_alone {A} xs ys zs j e = by j e
  where
    by : {xs ys zs : List A} → IsJoin xs ys zs → xs ≡ [] → zs ≡ ys
    by no_more e = refl
    by (from_first j) e = cc
    by (from_second {y} j) e = ap (λ l. y ∷ l) (by j e)

-- ---- order

next : (k : ℕ) → suc k + 1 ≡ suc (k + 1)
next k = omega arith

-- no element is less than one before it
abbrev pub Rises : {A : Type 0} → (A → A → Bool) → List A → Type 0
Rises lt [] = Unit {0}
Rises lt (x ∷ xs) = Each (λ y. lt y x ≡ false) xs × Rises lt xs

pub rises_filter : {A : Type 0} (lt : A → A → Bool) (p : A → Bool) (xs : List A) → Rises lt xs → Rises lt (filter p xs)
rises_filter lt p [] h = tt
rises_filter lt p (x ∷ xs) h = by (p x) (rises_filter lt p xs h.1)
  where
    by : (b : Bool) → Rises lt (filter p xs) → Rises lt (cond b (x ∷ filter p xs) (filter p xs))
    by true rest = (each_filter p (λ y. lt y x ≡ false) xs h.0, rest)
    by false rest = rest

pub rises_map : {A B : Type 0} (lt : B → B → Bool) (f : A → B) (xs : List A) → Rises (λ a b. lt (f a) (f b)) xs → Rises lt (map f xs)
rises_map lt f [] h = tt
rises_map lt f (x ∷ xs) h = (each_map f (λ y. lt y (f x) ≡ false) xs h.0, rises_map lt f xs h.1)

pub rises_by : {A : Type 0} (lt less : A → A → Bool) → ((a b : A) → less a b ≡ lt a b) → (xs : List A) → Rises lt xs → Rises less xs
rises_by lt less same [] h = tt
rises_by lt less same (x ∷ xs) h =
    (each_more (λ y. lt y x ≡ false) (λ y. less y x ≡ false) (λ y k. same y x ∙ k) xs h.0, rises_by lt less same xs h.1)

pub rises_from_sorted : {A : Type 0} (lt : A → A → Bool) → IsStrictWeakOrder lt → (xs : List A) → IsSortedBy lt xs → Rises lt xs
rises_from_sorted lt o [] h = tt
rises_from_sorted lt o (x ∷ xs) h = (
  each xs (λ k d low. sorted_far lt o (x ∷ xs) h 0 (suc k) d (omega arith) (omega arith)),
  rises_from_sorted lt o xs (λ k d le low. subst (λ n. lt (get_or (x ∷ xs) n d) (get_or xs k d) ≡ false) (next k) (h (suc k) d (omega arith) (omega arith))),
)
  where
    each : (ys : List _) → ((k : ℕ) (d : _) → k < length ys → lt (get_or ys k d) x ≡ false) → Each (λ y. lt y x ≡ false) ys
    each [] h = tt
    each (y ∷ ys) h = (h 0 y (omega arith), each ys (λ k d low. h (suc k) d (omega arith)))

pub sorted_from_rises : {A : Type 0} (lt : A → A → Bool) (xs : List A) → Rises lt xs → IsSortedBy lt xs
sorted_from_rises lt [] h k d le low = absurd (omega arith)
sorted_from_rises lt (x ∷ []) h k d le low = absurd (omega arith)
sorted_from_rises lt (x ∷ y ∷ xs) h zero d le low = h.0.0
sorted_from_rises lt (x ∷ y ∷ xs) h (suc k) d le low =
    subst (λ n. lt (get_or (x ∷ y ∷ xs) n d) (get_or (y ∷ xs) k d) ≡ false) (sym (next k)) (sorted_from_rises lt (y ∷ xs) h.1 k d (omega arith) (omega arith))

-- both parts of a rising join rise
pub rising_parts : {A : Type 0} (lt : A → A → Bool) (xs ys zs : List A) → IsJoin xs ys zs → Rises lt zs → Rises lt xs × Rises lt ys
rising_parts {A} lt xs ys zs j h = by j h
  where
    by : {xs ys zs : List A} → IsJoin xs ys zs → Rises lt zs → Rises lt xs × Rises lt ys
    by no_more h = (tt, tt)
    by (from_first {x} {xs} {ys} {zs} j) h = let r = by j h.1 in (((join_parts (λ y. lt y x ≡ false) xs ys zs j h.0).0, r.0), r.1)
    by (from_second {y} {xs} {ys} {zs} j) h = let r = by j h.1 in (r.0, ((join_parts (λ z. lt z y ≡ false) xs ys zs j h.0).1, r.1))

-- a join that rises
pub record RisingJoin {A : Type 0} (lt : A → A → Bool) (xs ys : List A) : Type 0 where
  pub joined : List A
  pub join : IsJoin xs ys joined
  pub rises : Rises lt joined

pub rising_join : {A : Type 0} (lt : A → A → Bool) → IsStrictWeakOrder lt → (xs ys : List A) → Rises lt xs → Rises lt ys → RisingJoin lt xs ys
rising_join lt o [] ys hx hy = record { joined = ys; join = join_second ys; rises = hy }
rising_join {A} lt o (x ∷ xs) ys hx hy = inner (λ ys hy. rising_join lt o xs ys hx.1 hy) ys hy
  where
    inner : ((ys : List A) → Rises lt ys → RisingJoin lt xs ys) → (ys : List A) → Rises lt ys → RisingJoin lt (x ∷ xs) ys
    inner rest [] hy = record { joined = x ∷ xs; join = join_first (x ∷ xs); rises = hx }
    inner rest (y ∷ ys) hy = by (lt y x) refl (rest (y ∷ ys) hy) (inner rest ys hy.1)
      where
        by : (b : Bool) → lt y x ≡ b → RisingJoin lt xs (y ∷ ys) → RisingJoin lt (x ∷ xs) ys → RisingJoin lt (x ∷ xs) (y ∷ ys)
        by true t first second = record {
          joined = y ∷ second.joined;
          join = from_second second.join;
          rises =
              let later : lt x y ≡ false = o.one_way y x t in (
                join_each (λ z. lt z y ≡ false) (x ∷ xs) ys second.joined second.join
                    (later, each_more (λ z. lt z x ≡ false) (λ z. lt z y ≡ false) (λ z k. o.chain z x y k later) xs hx.0) hy.0,
                second.rises,
              );
        }
        by false f first second = record {
          joined = x ∷ first.joined;
          join = from_first first.join;
          rises = (
            join_each (λ z. lt z x ≡ false) xs (y ∷ ys) first.joined first.join hx.0
                (f, each_more (λ z. lt z y ≡ false) (λ z. lt z x ≡ false) (λ z k. o.chain z y x k f) ys hy.0),
            first.rises,
          );
        }

-- two rising joins are one, where of an element of the one list and one of the other one is less
pub one_rising_join : {A : Type 0} (lt : A → A → Bool) (xs ys zs ws : List A) → Each (λ x. Each (λ y. lt y x ≡ false → lt x y ≡ false → ⊥) ys) xs
    → IsJoin xs ys zs → Rises lt zs → IsJoin xs ys ws → Rises lt ws → ws ≡ zs
one_rising_join {A} lt xs ys zs ws differ j h k l = by j differ h k l
  where
    second_of : (x : A) (xs ys zs : List A) → IsJoin xs ys zs → Each (λ y. lt y x ≡ false) zs → Each (λ y. lt y x ≡ false) ys
    second_of x xs ys zs j h = (join_parts (λ y. lt y x ≡ false) xs ys zs j h).1

    first_of_join : (x : A) (xs ys zs : List A) → IsJoin xs ys zs → Each (λ y. lt y x ≡ false) zs → Each (λ y. lt y x ≡ false) xs
    first_of_join x xs ys zs j h = (join_parts (λ y. lt y x ≡ false) xs ys zs j h).0

    by : {xs ys zs ws : List A} → IsJoin xs ys zs → Each (λ x. Each (λ y. lt y x ≡ false → lt x y ≡ false → ⊥) ys) xs → Rises lt zs → IsJoin xs ys ws → Rises lt ws → ws ≡ zs
    by no_more d h no_more l = refl
    by (from_first {x} j) d h (from_first k) l = ap (λ ms. x ∷ ms) (by j d.1 h.1 k l.1)
    by (from_second {y} {xs} {ys} {zs} j) d h (from_second k) l =
        ap (λ ms. y ∷ ms) (by j (each_more (λ x. Each (λ z. lt z x ≡ false → lt x z ≡ false → ⊥) (y ∷ ys)) (λ x. Each (λ z. lt z x ≡ false → lt x z ≡ false → ⊥) ys) (λ x r. r.1) xs d) h.1 k l.1)
    by (from_first {x} {xs} {ys} {zs} j) d h (from_second {y = y} {xs = us} {ys = vs} {zs = ws} k) l =
        absurd (d.0.0 (second_of x xs (y ∷ vs) zs j h.0).0 (first_of_join y (x ∷ xs) vs ws k l.0).0)
    by (from_second {y} {xs} {ys} {zs} j) d h (from_first {x = x} {xs = us} {ys = vs} {zs = ws} k) l =
        absurd (d.0.0 (second_of x us (y ∷ ys) ws k l.0).0 (first_of_join y (x ∷ us) ys zs j h.0).0)
