-- Lemmas over lists: groups of lists, and shapes that lists hold.
use Rattle.std.proofs.Common.{◌≡◌, ℕ, ◌+◌, ◌-◌, ◌<◌, ◌≤◌, List, [], ◌∷◌, ◌++◌, map, length, take, drop, get_or, refl, sym, ap, subst, ◌∙◌, arith}
use Rattle.std.specs.List.{slice_range}
use Rattle.std.specs.declared.vec.Vec.{Vec}
use Rattle.std.specs.declared.alloc.Global.{Global}
use Rattle.std.proofs.lemmas.List.{map-append, map-id, append_cancel_left, length-map, take_at, drop-drop}
use Rattle.mesh_num.specs.Paths.{paths_of, shapes_of}
use Rattle.mesh_arrays.specs.EndToEnd.{end_to_end, ends_from, AreEndToEnd}
use Rattle.mesh_arrays.specs.Slivers.{AreShapesIn}
use Rattle.mesh_arrays.specs.ShapeRooms.{ShapeLists}
use Rattle.mesh_arrays.proofs.EndToEnd.{joined_read, ended_read}

-- ---- groups

-- there are as many lists
pub how_many : {A : Type 0} (lists : List (Vec A Global)) → length (paths_of lists) ≡ length lists
how_many {A} lists =
    let items : Vec A Global → List A = λ p. p.items in
    length-map lists items

-- what is left behind a group
pub left_behind : {A : Type 0} (all rest left : List A) (start end : ℕ) → start ≤ end → rest ≡ drop start all → left ≡ drop (end - start) rest → left ≡ drop end all
left_behind all rest left start end h before here =
    here
    ∙ ap (λ l. drop (end - start) l) before
    ∙ drop-drop (end - start) start all
    ∙ ap (λ n. drop n all) (omega (arith, h))

-- a group more, up to where it ends
pub joined_group : {A : Type 0} (all : List A) (start end : ℕ) (groups new : List (Vec A Global)) (group : Vec A Global) → start ≤ end → new ≡ groups ++ group ∷ [] →
    end_to_end (paths_of groups) ≡ take start all → group.items ≡ slice_range all start end → end_to_end (paths_of new) ≡ take end all
joined_group {A} all start end groups new group h pushed so_far here =
    let same : A → A = λ x. x in
    joined_read same all start end groups new group h pushed (so_far ∙ ap (λ l. take start l) (sym (map-id all))) (here ∙ sym (map-id (slice_range all start end)))
    ∙ ap (λ l. take end l) (map-id all)

-- and at its place
pub ended_group : {A : Type 0} (all : List A) (ends : List ℕ) (start end i : ℕ) (groups new : List (Vec A Global)) (group : Vec A Global) → start ≤ end → end ≤ length all →
    i < length ends → end ≡ get_or ends i 0 → new ≡ groups ++ group ∷ [] → end_to_end (paths_of groups) ≡ take start all →
    group.items ≡ slice_range all start end → ends_from 0 (paths_of groups) ≡ take i ends → ends_from 0 (paths_of new) ≡ take (i + 1) ends
ended_group {A} all ends start end i groups new group h within here is pushed so_far items places =
    let same : A → A = λ x. x in
    ended_read same all ends start end i groups new group h within here is pushed (so_far ∙ ap (λ l. take start l) (sym (map-id all)))
    (items ∙ sym (map-id (slice_range all start end))) places

-- groups of lists are groups of what these have
groups_joined : {A : Type 0} (groups : List (Vec (Vec A Global) Global)) → end_to_end (shapes_of groups) ≡ paths_of (end_to_end (paths_of groups))
groups_joined [] = refl
groups_joined {A} (g ∷ gs) =
    let items : Vec A Global → List A = λ p. p.items in
    ap (λ l. paths_of g.items ++ l) (groups_joined gs) ∙ sym (map-append items g.items (end_to_end (paths_of gs)))

groups_ended : {A : Type 0} (before : ℕ) (groups : List (Vec (Vec A Global) Global)) → ends_from before (shapes_of groups) ≡ ends_from before (paths_of groups)
groups_ended before [] = refl
groups_ended {A} before (g ∷ gs) =
    let items : Vec A Global → List A = λ p. p.items in
    let size : length (paths_of g.items) ≡ length g.items = length-map g.items items in
    ap (λ n. (before + n) ∷ ends_from (before + n) (shapes_of gs)) size ∙ ap (λ l. (before + length g.items) ∷ l) (groups_ended (before + length g.items) gs)

pub groups_of_lists : {A : Type 0} (groups : List (Vec (Vec A Global) Global)) (lists : List (Vec A Global)) (ends : List ℕ) →
    AreEndToEnd (paths_of groups) lists ends → AreEndToEnd (shapes_of groups) (paths_of lists) ends
groups_of_lists groups lists ends given = record {
  joined = groups_joined groups ∙ ap (λ l. paths_of l) given.joined;
  ended = groups_ended 0 groups ∙ given.ended;
}

-- ---- shapes

-- lists that stand end to end in the same items and end at the same places are the same
same_lists : {A : Type 0} (before : ℕ) (xs ys : List (List A)) → end_to_end xs ≡ end_to_end ys → ends_from before xs ≡ ends_from before ys → xs ≡ ys
same_lists before [] [] joined ended = refl
same_lists before [] (y ∷ ys) joined ended = cc
same_lists before (x ∷ xs) [] joined ended = cc
same_lists {A} before (x ∷ xs) (y ∷ ys) joined ended =
    let here : before + length x ≡ before + length y = cc in
    let behind : ends_from (before + length x) xs ≡ ends_from (before + length y) ys = cc in
    let size : length x ≡ length y = omega (arith, here) in
    let first : x ≡ y = sym (take_at x (end_to_end xs) (length x) refl) ∙ ap (λ l. take (length x) l) joined ∙ take_at y (end_to_end ys) (length x) (sym size) in
    let others : end_to_end xs ≡ end_to_end ys = append_cancel_left x (end_to_end xs) (end_to_end ys) (joined ∙ ap (λ l. l ++ end_to_end ys) (sym first)) in
    let rest : xs ≡ ys = same_lists (before + length x) xs ys others (behind ∙ ap (λ n. ends_from n ys) (sym here)) in
    ap (λ a. a ∷ xs) first ∙ ap (λ l. y ∷ l) rest

-- contours and groups of them are shapes
pub shapes_read : {F A : Type 0} (point_of : F → A) (lists : ShapeLists F) (contours : List (List A)) → AreEndToEnd contours (map point_of lists.points) lists.contour_ends →
    (shapes : List (List (List A))) → AreEndToEnd shapes contours lists.shape_ends → AreShapesIn point_of lists shapes
shapes_read {F} {A} point_of lists contours read shapes grouped = record {
  contours = subst (λ (l : List (List A)). AreEndToEnd l (map point_of lists.points) lists.contour_ends) (sym grouped.joined) read;
  ended = grouped.ended;
}

-- and no shapes stand in lists that have no groups of contours
pub no_groups : {F A : Type 0} (point_of : F → A) (lists : ShapeLists F) (contours : List (List A)) → AreEndToEnd contours (map point_of lists.points) lists.contour_ends →
    ((groups : List (List (List A))) → AreEndToEnd groups contours lists.shape_ends → ⊥) → (shapes : List (List (List A))) → AreShapesIn point_of lists shapes → ⊥
no_groups point_of lists contours read none shapes held =
    let same = same_lists 0 (end_to_end shapes) contours (held.contours.joined ∙ sym read.joined) (held.contours.ended ∙ sym read.ended) in
    none shapes (record { joined = same; ended = held.ended })
