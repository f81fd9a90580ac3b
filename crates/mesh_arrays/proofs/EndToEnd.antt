-- Lemmas over lists: lists that stand end to end in one.
use Rattle.std.proofs.Common.{◌≡◌, ℕ, ◌+◌, ◌-◌, ◌<◌, ◌≤◌, suc, zero, List, [], ◌∷◌, ◌++◌, map, length, take, drop, get_or, refl, sym, ap, ◌∙◌, arith}
use Rattle.std.specs.List.{slice_range}
use Rattle.std.specs.declared.vec.Vec.{Vec}
use Rattle.std.specs.declared.alloc.Global.{Global}
use Rattle.std.proofs.lemmas.List.{map-append, append-nil, take-map, drop-map, take-append-drop, take-take, length-append, length-map, length-take-le, take_more, take_all}
use Rattle.std.proofs.lemmas.Slice.{between_is}
use Rattle.std.proofs.lemmas.List.Concat.{flat_map-append}
use Rattle.mesh_num.specs.Paths.{paths_of}
use Rattle.mesh_arrays.specs.EndToEnd.{end_to_end, ends_from, AreEndToEnd}

-- one list more
pub joined_more : {A : Type 0} (lists : List (List A)) (xs : List A) → end_to_end (lists ++ xs ∷ []) ≡ end_to_end lists ++ xs
joined_more {A} lists xs =
    let same : List A → List A = λ l. l in
    flat_map-append same lists (xs ∷ []) ∙ ap (λ l. end_to_end lists ++ l) (append-nil xs)

-- where lists end that stand behind others
pub ends_append : {A : Type 0} (before : ℕ) (xs ys : List (List A)) →
    ends_from before (xs ++ ys) ≡ ends_from before xs ++ ends_from (before + length (end_to_end xs)) ys
ends_append before [] ys = ap (λ n. ends_from n ys) (omega arith)
ends_append {A} before (x ∷ xs) ys =
    let total : length (x ++ end_to_end xs) ≡ length x + length (end_to_end xs) = length-append x (end_to_end xs) in
    let place : before + length x + length (end_to_end xs) ≡ before + length (x ++ end_to_end xs) = omega arith in
    ap (λ l. (before + length x) ∷ l)
    (ends_append (before + length x) xs ys ∙ ap (λ n. ends_from (before + length x) xs ++ ends_from n ys) place)

-- one list more
pub ends_more : {A : Type 0} (lists : List (List A)) (xs : List A) (end : ℕ) → end ≡ length (end_to_end lists) + length xs →
    ends_from 0 (lists ++ xs ∷ []) ≡ ends_from 0 lists ++ end ∷ []
ends_more lists xs end e =
    let place : 0 + length (end_to_end lists) + length xs ≡ end = omega arith in
    ends_append 0 lists (xs ∷ []) ∙ ap (λ n. ends_from 0 lists ++ n ∷ []) place

-- the last of these ends, `before` where there is none
abbrev pub last_from : ℕ → List ℕ → ℕ
last_from before [] = before
last_from before (e ∷ es) = last_from e es

-- it is the last of all items
pub last_of_ends : {A : Type 0} (before : ℕ) (lists : List (List A)) → last_from before (ends_from before lists) ≡ before + length (end_to_end lists)
last_of_ends before [] = omega arith
last_of_ends before (x ∷ xs) =
    let total : length (x ++ end_to_end xs) ≡ length x + length (end_to_end xs) = length-append x (end_to_end xs) in
    let place : before + length x + length (end_to_end xs) ≡ before + length (x ++ end_to_end xs) = omega arith in
    last_of_ends (before + length x) xs ∙ place

-- and grows with one end more
pub last_more : (before : ℕ) (es : List ℕ) (e : ℕ) → last_from before (es ++ e ∷ []) ≡ e
last_more before [] e = refl
last_more before (x ∷ es) e = last_more x es e

-- no end is below the one before it, or past all items
pub end_within : {A : Type 0} (before i d : ℕ) (lists : List (List A)) → i < length (ends_from before lists) →
    let end = get_or (ends_from before lists) i d in (last_from before (take i (ends_from before lists)) ≤ end) × (end ≤ before + length (end_to_end lists))
end_within before i d [] h = absurd (omega arith)
end_within before zero d (x ∷ xs) h =
    let total : length (x ++ end_to_end xs) ≡ length x + length (end_to_end xs) = length-append x (end_to_end xs) in
    (omega arith, omega arith)
end_within before (suc i) d (x ∷ xs) h =
    let total : length (x ++ end_to_end xs) ≡ length x + length (end_to_end xs) = length-append x (end_to_end xs) in
    let rest = end_within (before + length x) i d xs (omega arith) in
    (rest.0, omega (arith, rest.1))

-- ends that are none of any lists
pub none_below : {A : Type 0} (lists : List (List A)) (all : List A) (ends : List ℕ) (i d : ℕ) → i < length ends → get_or ends i d < last_from 0 (take i ends) →
    AreEndToEnd lists all ends → ⊥
none_below lists all ends i d h below given =
    let within : i < length (ends_from 0 lists) = rw given.ended h in
    let here = rw given.ended at (end_within 0 i d lists within) in
    omega (arith, here.0)

pub none_past : {A : Type 0} (lists : List (List A)) (all : List A) (ends : List ℕ) (i d : ℕ) → i < length ends → length all < get_or ends i d →
    AreEndToEnd lists all ends → ⊥
none_past lists all ends i d h past given =
    let within : i < length (ends_from 0 lists) = rw given.ended h in
    let here = rw given.ended at (end_within 0 i d lists within) in
    let size = ap length given.joined in
    omega (arith, here.1, size)

pub none_left : {A : Type 0} (lists : List (List A)) (all : List A) (ends : List ℕ) → last_from 0 ends < length all → AreEndToEnd lists all ends → ⊥
none_left lists all ends left given =
    let last = rw given.ended at (last_of_ends 0 lists) in
    let size = ap length given.joined in
    omega (arith, last, size)

-- a part behind the items before it
pub part_more : {A : Type 0} (all : List A) (from to : ℕ) → from ≤ to → take from all ++ slice_range all from to ≡ take to all
part_more all from to h =
    ap (λ l. l ++ slice_range all from to) (sym (take-take from to all h))
    ∙ ap (λ l. take from (take to all) ++ l) (between_is all from to)
    ∙ take-append-drop from (take to all)

-- the part of what items stand for
pub part_map : {A B : Type 0} (f : A → B) (all : List A) (from to : ℕ) → map f (slice_range all from to) ≡ slice_range (map f all) from to
part_map f all from to = sym (take-map f (to - from) (drop from all)) ∙ ap (λ l. take (to - from) l) (sym (drop-map f from all))

-- one end a list
pub length-ends : {A : Type 0} (before : ℕ) (lists : List (List A)) → length (ends_from before lists) ≡ length lists
length-ends before [] = refl
length-ends before (x ∷ xs) = ap suc (length-ends (before + length x) xs)

-- ---- lists that are read

-- one list more
lists_more : {A : Type 0} (lists new : List (Vec A Global)) (list : Vec A Global) → new ≡ lists ++ list ∷ [] → paths_of new ≡ paths_of lists ++ list.items ∷ []
lists_more {A} lists new list e =
    let items : Vec A Global → List A = λ p. p.items in
    ap (λ (ls : List (Vec A Global)). paths_of ls) e ∙ map-append items lists (list ∷ [])

-- what was read stands end to end up to where the last list ends
pub joined_read : {F A : Type 0} (item_of : F → A) (all : List F) (start end : ℕ) (lists new : List (Vec A Global)) (list : Vec A Global) → start ≤ end → new ≡ lists ++ list ∷ [] →
    end_to_end (paths_of lists) ≡ take start (map item_of all) → list.items ≡ map item_of (slice_range all start end) → end_to_end (paths_of new) ≡ take end (map item_of all)
joined_read item_of all start end lists new list h pushed so_far here =
    ap end_to_end (lists_more lists new list pushed)
    ∙ joined_more (paths_of lists) list.items
    ∙ ap (λ l. l ++ list.items) so_far
    ∙ ap (λ l. take start (map item_of all) ++ l) (here ∙ part_map item_of all start end)
    ∙ part_more (map item_of all) start end h

-- and it ends at the places so far
pub ended_read : {F A : Type 0} (item_of : F → A) (all : List F) (ends : List ℕ) (start end i : ℕ) (lists new : List (Vec A Global)) (list : Vec A Global) → start ≤ end → end ≤ length all →
    i < length ends → end ≡ get_or ends i 0 → new ≡ lists ++ list ∷ [] → end_to_end (paths_of lists) ≡ take start (map item_of all) →
    list.items ≡ map item_of (slice_range all start end) → ends_from 0 (paths_of lists) ≡ take i ends → ends_from 0 (paths_of new) ≡ take (i + 1) ends
ended_read item_of all ends start end i lists new list h within here is pushed so_far items places =
    let joined = joined_read item_of all start end lists new list h pushed so_far items in
    let room : end ≤ length (map item_of all) = rw (length-map all item_of) within in
    let size : length (end_to_end (paths_of new)) ≡ end = ap length joined ∙ length-take-le end (map item_of all) room in
    let parts : length (end_to_end (paths_of new)) ≡ length (end_to_end (paths_of lists)) + length list.items =
    ap length (ap end_to_end (lists_more lists new list pushed) ∙ joined_more (paths_of lists) list.items) ∙ length-append (end_to_end (paths_of lists)) list.items in
    ap (ends_from 0) (lists_more lists new list pushed)
    ∙ ends_more (paths_of lists) list.items end (sym size ∙ parts)
    ∙ ap (λ l. l ++ end ∷ []) places
    ∙ ap (λ n. take i ends ++ n ∷ []) is
    ∙ sym (take_more ends i 0 here)

-- the last of the places so far
pub last_read : (ends : List ℕ) (end i : ℕ) → i < length ends → end ≡ get_or ends i 0 → end ≡ last_from 0 (take (i + 1) ends)
last_read ends end i here is =
    is ∙ sym (last_more 0 (take i ends) (get_or ends i 0)) ∙ ap (last_from 0) (sym (take_more ends i 0 here))

-- all places are read, and all items
pub all_read : {A : Type 0} (lists : List (List A)) (all : List A) (ends : List ℕ) (start i : ℕ) → length ends ≤ i → length all ≤ start → end_to_end lists ≡ take start all →
    ends_from 0 lists ≡ take i ends → AreEndToEnd lists all ends
all_read lists all ends start i past whole joined ended = record {
  joined = joined ∙ take_all start all whole;
  ended = ended ∙ take_all i ends past;
}
