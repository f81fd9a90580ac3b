-- Lemmas over lists: values of JSON in lists and in objects.
use Rattle.std.proofs.Common.{◌≡◌, ℕ, ◌<◌, ◌+◌, List, [], ◌∷◌, ◌++◌, String, Global, length, get_or, drop, Bool, Option, Some, None, option_map, option_and_then, ◌||◌, refl, sym, ap, ◌∙◌, append_assoc, arith}
use Rattle.std.specs.Map.{values_of}
use Rattle.std.specs.declared.vec.Vec.{Vec}
use Rattle.std.proofs.lemmas.List.{at_drop_more, map-append}
use Rattle.serde_json.specs.Data.{Data, Items, item}
use Rattle.serde_json.specs.View.{view, items_view, members_view}
use Rattle.serde_json.specs.Written.{has_float, items_have_float, members_have_float}
use Rattle.serde_json.specs.declared.value.Value.{Value}
use Rattle.mesh_num.specs.Paths.{paths_of}
use Rattle.mesh_request.specs.Reading.{pair_of, triple_of, options_in}

pub members_float : (ms : List (String Global × Value)) → members_have_float (members_view ms) ≡ items_have_float (items_view (values_of ms))
members_float [] = refl
members_float (m ∷ ms) = ap (λ (b : Bool). has_float (view m.1) || b) (members_float ms)

-- a list of another length than two is no pair
pub no_pair : (unit : ℕ) (vs : List Value) → (length vs ≡ 2 → ⊥) → pair_of unit (items_view vs) ≡ None
no_pair unit [] h = refl
no_pair unit (x ∷ []) h = refl
no_pair unit (x ∷ y ∷ []) h = absurd (h (omega arith))
no_pair unit (x ∷ y ∷ z ∷ vs) h = refl

-- one of another length than three is no triple
pub no_triple : (unit : ℕ) (vs : List Value) → (length vs ≡ 3 → ⊥) → triple_of unit (items_view vs) ≡ None
no_triple unit [] h = refl
no_triple unit (x ∷ []) h = refl
no_triple unit (x ∷ y ∷ []) h = refl
no_triple unit (x ∷ y ∷ w ∷ []) h = absurd (h (omega arith))
no_triple unit (x ∷ y ∷ w ∷ z ∷ vs) h = refl

-- a list of another length than two gives no options of an arc
pub no_options : (vs : List Value) → (length vs ≡ 2 → ⊥) → options_in (items_view vs) ≡ None
no_options [] h = refl
no_options (x ∷ []) h = refl
no_options (x ∷ y ∷ []) h = absurd (h (omega arith))
no_options (x ∷ y ∷ z ∷ vs) h = refl

-- ---- lists, read one item after another

-- what is read next stands after what was read before
read_after : {X : Type 0} (xs : List X) (x : X) (rest : Option (List X)) →
    option_map (λ (ys : List X). xs ++ ys) (option_map (λ (ys : List X). x ∷ ys) rest) ≡ option_map (λ (ys : List X). (xs ++ x ∷ []) ++ ys) rest
read_after xs x None = refl
read_after xs x (Some ys) = ap Some (sym (append_assoc xs (x ∷ []) ys))

-- whether a list is read by reading each of its items
abbrev pub IsReadBy : {X : Type 0} → (Data → Option X) → (Items → Option (List X)) → Type 0
IsReadBy {X} one all = (d : Data) (ds : Items) → all (item d ds) ≡ option_and_then (λ (x : X). option_map (λ (xs : List X). x ∷ xs) (all ds)) (one d)

pub one_more : {X : Type 0} (one : Data → Option X) (each : Items → Option (List X)) → IsReadBy one each → (items : List Value) (i : ℕ) (value : Value) (all : Option (List X)) (before after : List X) (x : X) →
    i < length items → value ≡ get_or items i value → one (view value) ≡ Some x → after ≡ before ++ x ∷ [] →
    all ≡ option_map (λ (xs : List X). before ++ xs) (each (items_view (drop i items))) →
    all ≡ option_map (λ (xs : List X). after ++ xs) (each (items_view (drop (i + 1) items)))
one_more {X} one each by items i value all before after x h e read pushed so_far =
    let rest = each (items_view (drop (i + 1) items)) in
    let here : each (items_view (drop i items)) ≡ option_map (λ (xs : List X). x ∷ xs) rest =
    at_drop_more (λ (ds : List Value). each (items_view ds)) items i value h
    ∙ by (view (get_or items i value)) (items_view (drop (i + 1) items))
    ∙ ap (option_and_then (λ (y : X). option_map (λ (xs : List X). y ∷ xs) rest)) (ap (λ (v : Value). one (view v)) (sym e) ∙ read) in
    so_far ∙ ap (option_map (λ (xs : List X). before ++ xs)) here ∙ read_after before x rest ∙ ap (λ (ys : List X). option_map (λ (xs : List X). ys ++ xs) rest) (sym pushed)

-- one path more
pub path_pushed : {X : Type 0} (paths new : List (Vec X Global)) (path : Vec X Global) → new ≡ paths ++ path ∷ [] → paths_of new ≡ paths_of paths ++ path.items ∷ []
path_pushed paths new path pushed = ap paths_of pushed ∙ map-append (λ v. v.items) paths (path ∷ [])
