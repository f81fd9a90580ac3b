-- Lists that stand end to end in one.
use Rattle.std.specs.Prelude.{ℕ, ◌+◌, ◌≡◌, List, [], ◌∷◌, length, map}
use Rattle.std.specs.List.{flat_map}
use Rattle.mesh_plane.specs.Plane.{Point}
use Rattle.mesh_arrays.specs.declared.lists.FlatLists.{FlatLists}
use Rattle.mesh_arrays.specs.declared.shapes.FlatShapes.{FlatShapes}

-- the items of all lists, list by list
abbrev pub end_to_end : {A : Type 0} → List (List A) → List A
end_to_end lists = flat_map (λ xs. xs) lists

-- where lists end that stand end to end behind so many items
abbrev pub ends_from : {A : Type 0} → ℕ → List (List A) → List ℕ
ends_from before [] = []
ends_from before (xs ∷ lists) = (before + length xs) ∷ ends_from (before + length xs) lists

-- lists stand end to end in one list of items, and end there
pub record AreEndToEnd {A : Type 0} (lists : List (List A)) (all : List A) (ends : List ℕ) : Type 0 where
  pub joined : end_to_end lists ≡ all
  pub ended : ends_from 0 lists ≡ ends

-- the code's own type holds lists end to end, where `item_of` is what the numbers for an item stand for
abbrev pub HoldsLists : {F A : Type 0} → (F → A) → FlatLists F → List (List A) → Type 0
HoldsLists item_of flat lists = AreEndToEnd lists (map item_of flat.all.items) flat.ends.items

-- the points of shapes stand end to end, contour by contour, and the contours shape by shape
pub record HoldsShapes {F : Type 0} (point_of : F → Point) (flat : FlatShapes F) (shapes : List (List (List Point)))
    : Type 0 where
  pub contours : HoldsLists point_of flat.contours (end_to_end shapes)
  pub ended : ends_from 0 shapes ≡ flat.shape_ends.items

-- items of lists that stand end to end, as numbers, and where each list ends
pub record PathLists (F : Type 0) : Type 0 where
  pub items : List F
  pub ends : List ℕ

abbrev pub path_lists : {F : Type 0} → List F → List ℕ → PathLists F
path_lists items ends = record { items = items; ends = ends }

-- paths stand end to end, where `item_of` is what the numbers for an item stand for
abbrev pub StandEndToEnd : {F A : Type 0} → (F → A) → List (List A) → PathLists F → Type 0
StandEndToEnd item_of paths lists = AreEndToEnd paths (map item_of lists.items) lists.ends
