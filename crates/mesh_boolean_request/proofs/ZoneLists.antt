-- Lemmas over lists of values, read one item after another: where nothing is left, where an item is not read, and where one more is.
use Rattle.std.proofs.Common.{◌≡◌, ℕ, ◌<◌, ◌≤◌, ◌+◌, List, [], ◌∷◌, ◌++◌, length, get_or, drop, map, Option, Some, None, option_map, option_and_then, Result, Ok, Err, sym, ap, subst, ◌∙◌, append-nil}
use Rattle.std.specs.Result.{IsErrAnd}
use Rattle.std.proofs.lemmas.List.{at_drop_more, at_drop_all, map-append}
use Rattle.serde_json.specs.Data.{Data, Items, no_items}
use Rattle.serde_json.specs.View.{view, items_view}
use Rattle.serde_json.specs.declared.value.Value.{Value}
use Rattle.mesh_request.specs.Errors.{FailsToRead, Reads}
use Rattle.mesh_request.specs.declared.error.ReadError.{ReadError}
use Rattle.mesh_request.proofs.JsonLists.{IsReadBy}

-- where nothing is left, all is read
pub all_read : {X : Type 0} (each : Items → Option (List X)) → each no_items ≡ Some [] → (items : List Value) (i : ℕ) (all : Option (List X)) (before : List X) → length items ≤ i →
    all ≡ option_map (λ (xs : List X). before ++ xs) (each (items_view (drop i items))) → all ≡ Some before
all_read {X} each none items i all before past so_far =
    so_far ∙ ap (option_map (λ (xs : List X). before ++ xs)) (at_drop_all (λ (ds : List Value). each (items_view ds)) items i past ∙ none) ∙ ap Some (append-nil before)

-- where the next item is not read, the list is not
pub not_read : {X : Type 0} (one : Data → Option X) (each : Items → Option (List X)) → IsReadBy one each → (items : List Value) (i : ℕ) (value : Value) (all : Option (List X)) (before : List X) →
    i < length items → value ≡ get_or items i value → one (view value) ≡ None → all ≡ option_map (λ (xs : List X). before ++ xs) (each (items_view (drop i items))) → all ≡ None
not_read {X} one each by items i value all before h e unread so_far =
    let rest = each (items_view (drop (i + 1) items)) in
    let here : each (items_view (drop i items)) ≡ None =
    at_drop_more (λ (ds : List Value). each (items_view ds)) items i value h
    ∙ by (view (get_or items i value)) (items_view (drop (i + 1) items))
    ∙ ap (option_and_then (λ (y : X). option_map (λ (xs : List X). y ∷ xs) rest)) (ap (λ (v : Value). one (view v)) (sym e) ∙ unread) in
    so_far ∙ ap (option_map (λ (xs : List X). before ++ xs)) here

-- one item more, as what the items stand for
pub item_pushed : {X Y : Type 0} (stands_for : X → Y) (items new : List X) (x : X) → new ≡ items ++ x ∷ [] → map stands_for new ≡ map stands_for items ++ stands_for x ∷ []
item_pushed stands_for items new x pushed = ap (map stands_for) pushed ∙ map-append stands_for items (x ∷ [])

-- an error that is handed on
pub handed_on : {X A : Type 0} (d : Data) (sought : Option A) (value : X → A) (r : Result X ReadError) (error : ReadError) → IsErrAnd r (λ e. e ≡ error) → FailsToRead d sought error → Reads d sought value r
handed_on d sought value (Ok x) error same failed = absurd same
handed_on d sought value (Err e) error same failed = subst (FailsToRead d sought) (sym same) failed
