-- Lemmas over lists: items and lists that are added to others.
use Rattle.std.proofs.Common.{◌≡◌, ℕ, ◌+◌, ◌<◌, ◌≤◌, List, [], ◌∷◌, ◌++◌, map, length, take, get_or, sym, ap, ◌∙◌, zero-add, append_assoc}
use Rattle.std.specs.declared.vec.Vec.{Vec}
use Rattle.std.specs.declared.alloc.Global.{Global}
use Rattle.std.proofs.lemmas.List.{map-append, map_more, append-nil, length-append, length-map, take_all}
use Rattle.std.proofs.lemmas.List.Concat.{flat_map-append}
use Rattle.mesh_num.specs.Paths.{paths_of, shapes_of}
use Rattle.mesh_arrays.specs.EndToEnd.{end_to_end, ends_from, HoldsLists}
use Rattle.mesh_arrays.specs.Private.Adding.{AddsLists}
use Rattle.mesh_arrays.specs.declared.lists.FlatLists.{FlatLists}
use Rattle.mesh_arrays.proofs.EndToEnd.{joined_more, ends_append, ends_more, length-ends}

-- one item more of what numbers stand for
pub item_added : {F A : Type 0} (item_of : F → A) (old before new : List F) (added more : List A) (x : F) (y : A) →
    map item_of before ≡ map item_of old ++ added → new ≡ before ++ x ∷ [] → item_of x ≡ y → more ≡ added ++ y ∷ [] → map item_of new ≡ map item_of old ++ more
item_added item_of old before new added more x y so_far pushed is grown =
    ap (map item_of) pushed
    ∙ map-append item_of before (x ∷ [])
    ∙ ap (λ l. l ++ item_of x ∷ []) so_far
    ∙ append_assoc (map item_of old) added (item_of x ∷ [])
    ∙ ap (λ z. map item_of old ++ (added ++ z ∷ [])) is
    ∙ ap (λ l. map item_of old ++ l) (sym grown)

-- how many items there are, once some are added
size_added : {F A : Type 0} (item_of : F → A) (old new : List F) (added : List A) → map item_of new ≡ map item_of old ++ added → length new ≡ length old + length added
size_added item_of old new added e =
    sym (length-map new item_of) ∙ ap length e ∙ length-append (map item_of old) added ∙ ap (λ n. n + length added) (length-map old item_of)

-- no list
pub no_lists : {F A : Type 0} (item_of : F → A) (flat : FlatLists F) → AddsLists item_of flat flat []
no_lists item_of flat = record { all = sym (append-nil (map item_of flat.all.items)); ends = sym (append-nil flat.ends.items) }

-- one list
pub list_added : {F A : Type 0} (item_of : F → A) (old new : FlatLists F) (xs : List A) → map item_of new.all.items ≡ map item_of old.all.items ++ xs →
    new.ends.items ≡ old.ends.items ++ length new.all.items ∷ [] → AddsLists item_of old new (xs ∷ [])
list_added item_of old new xs all ends = record {
  all = all ∙ ap (λ l. map item_of old.all.items ++ l) (sym (append-nil xs));
  ends = ends ∙ ap (λ n. old.ends.items ++ n ∷ []) (size_added item_of old.all.items new.all.items xs all);
}

-- lists behind lists
lists_added : {F A : Type 0} (item_of : F → A) (first second third : FlatLists F) (xs ys : List (List A)) → AddsLists item_of first second xs → AddsLists item_of second third ys →
    AddsLists item_of first third (xs ++ ys)
lists_added {F} {A} item_of first second third xs ys h k =
    let same : List A → List A = λ c. c in
    let joined : end_to_end (xs ++ ys) ≡ end_to_end xs ++ end_to_end ys = flat_map-append same xs ys in
    let size = size_added item_of first.all.items second.all.items (end_to_end xs) h.all in
    record {
      all =
          k.all
          ∙ ap (λ l. l ++ end_to_end ys) h.all
          ∙ append_assoc (map item_of first.all.items) (end_to_end xs) (end_to_end ys)
          ∙ ap (λ l. map item_of first.all.items ++ l) (sym joined);
      ends =
          k.ends
          ∙ ap (λ l. l ++ ends_from (length second.all.items) ys) h.ends
          ∙ append_assoc first.ends.items (ends_from (length first.all.items) xs) (ends_from (length second.all.items) ys)
          ∙ ap (λ n. first.ends.items ++ (ends_from (length first.all.items) xs ++ ends_from n ys)) size
          ∙ ap (λ l. first.ends.items ++ l) (sym (ends_append (length first.all.items) xs ys));
    }

-- the lists so far, and one more
pub list_more : {F A : Type 0} (item_of : F → A) (old before new : FlatLists F) (lists : List (Vec A Global)) (list : Vec A Global) (i : ℕ) → i < length lists →
    list ≡ get_or lists i list → AddsLists item_of old before (paths_of (take i lists)) → AddsLists item_of before new (list.items ∷ []) →
    AddsLists item_of old new (paths_of (take (i + 1) lists))
list_more {F} {A} item_of old before new lists list i h is so_far here =
    let items : Vec A Global → List A = λ p. p.items in
    let more : paths_of (take (i + 1) lists) ≡ paths_of (take i lists) ++ list.items ∷ [] =
    map_more items lists i list h ∙ ap (λ p. paths_of (take i lists) ++ p.items ∷ []) (sym is) in
    rw more (lists_added item_of old before new (paths_of (take i lists)) (list.items ∷ []) so_far here)

-- all lists
pub lists_all : {F A : Type 0} (item_of : F → A) (old new : FlatLists F) (lists : List (Vec A Global)) (i : ℕ) → length lists ≤ i →
    AddsLists item_of old new (paths_of (take i lists)) → AddsLists item_of old new (paths_of lists)
lists_all item_of old new lists i past added = rw (take_all i lists past) at added

-- lists that are added to those that are held
pub holds_more : {F A : Type 0} (item_of : F → A) (old new : FlatLists F) (xs ys : List (List A)) → HoldsLists item_of old xs → AddsLists item_of old new ys →
    HoldsLists item_of new (xs ++ ys)
holds_more {F} {A} item_of old new xs ys held added =
    let same : List A → List A = λ c. c in
    let before : length (end_to_end xs) ≡ length old.all.items = ap length held.joined ∙ length-map old.all.items item_of in
    record {
      joined = flat_map-append same xs ys ∙ ap (λ l. l ++ end_to_end ys) held.joined ∙ sym added.all;
      ended =
          ends_append 0 xs ys
          ∙ ap (λ l. l ++ ends_from (0 + length (end_to_end xs)) ys) held.ended
          ∙ ap (λ n. old.ends.items ++ ends_from n ys) (zero-add (length (end_to_end xs)) ∙ before)
          ∙ sym added.ends;
    }

-- how many lists there are, once some are added
pub count_added : {F A : Type 0} (item_of : F → A) (old new : FlatLists F) (xs ys : List (List A)) → HoldsLists item_of old xs → AddsLists item_of old new ys →
    length new.ends.items ≡ length xs + length ys
count_added item_of old new xs ys held added =
    ap length added.ends
    ∙ length-append old.ends.items (ends_from (length old.all.items) ys)
    ∙ ap (λ n. n + length (ends_from (length old.all.items) ys)) (ap length (sym held.ended) ∙ length-ends 0 xs)
    ∙ ap (λ n. length xs + n) (length-ends (length old.all.items) ys)

-- ---- shapes

-- the shapes so far, and one more
pub shapes_more : {X : Type 0} (shapes : List (Vec (Vec X Global) Global)) (shape : Vec (Vec X Global) Global) (i : ℕ) → i < length shapes → shape ≡ get_or shapes i shape →
    shapes_of (take (i + 1) shapes) ≡ shapes_of (take i shapes) ++ paths_of shape.items ∷ []
shapes_more {X} shapes shape i h is =
    let paths : Vec (Vec X Global) Global → List (List X) = λ s. paths_of s.items in
    map_more paths shapes i shape h ∙ ap (λ s. shapes_of (take i shapes) ++ paths_of s.items ∷ []) (sym is)

-- their contours
pub shape_added : {F A : Type 0} (item_of : F → A) (old new : FlatLists F) (before : List (List (List A))) (shape : List (List A)) → HoldsLists item_of old (end_to_end before) →
    AddsLists item_of old new shape → HoldsLists item_of new (end_to_end (before ++ shape ∷ []))
shape_added item_of old new before shape held added = rw (joined_more before shape) (holds_more item_of old new (end_to_end before) shape held added)

-- where the last one ends
pub shape_ended : {F A : Type 0} (item_of : F → A) (old new : FlatLists F) (before : List (List (List A))) (shape : List (List A)) (ends : List ℕ) → HoldsLists item_of old (end_to_end before) →
    AddsLists item_of old new shape → ends_from 0 before ≡ ends → ends_from 0 (before ++ shape ∷ []) ≡ ends ++ length new.ends.items ∷ []
shape_ended item_of old new before shape ends held added ended =
    ends_more before shape (length new.ends.items) (count_added item_of old new (end_to_end before) shape held added) ∙ ap (λ l. l ++ length new.ends.items ∷ []) ended
