-- Where a drawing leaves the range in which it may be drawn. Coordinates are of a type with `unit`.
use Rattle.std.specs.Prelude.{ℕ, ◌≡◌, ◌*◌, ◌<◌, List, [], get_or, length, take, Option, Some, None, pos, ◌-ℤ◌}
use Rattle.std.specs.List.{All}
use Rattle.mesh_plane.specs.Bounds.{IsWithin}
use Rattle.mesh_num.specs.Rectangle.{IsSafeWidened}
use Rattle.mesh_shapes.specs.Contours.{double_area}
use Rattle.mesh_join.specs.VariableStyles.{Vertex}
use Rattle.mesh_drawing.specs.Drawn.{Drawn, as_outline, as_stroke, as_variable_stroke}
use Rattle.mesh_drawing.specs.Paddings.{DoesStayInRange, padding_in}
use Rattle.mesh_drawing.specs.declared.refusal.PointPlace.{PointPlace}
use Rattle.mesh_drawing.specs.declared.refusal.PointRefusal.{PointRefusal}
use Rattle.mesh_drawing.specs.declared.refusal.Refusal.{Refusal}

-- all items of a list before this place are so, and the one there is not
pub record IsFirstNot {A : Type 0} (IsSo : A → Type 0) (xs : List A) (k : ℕ) : Type 0 where
  pub within : k < length xs
  pub before : All IsSo (take k xs)
  pub here : ((d : A) → IsSo (get_or xs k d)) → ⊥

-- the first place of a list whose item is not so, none where all are
abbrev pub IsFirst : {A : Type 0} → (A → Type 0) → List A → Option ℕ → Type 0
IsFirst IsSo xs None = All IsSo xs
IsFirst IsSo xs (Some k) = IsFirstNot IsSo xs k

-- not all items of this list are so, and it is the first such list; and this item is the first in it that is not
pub record IsFirstNotIn {A : Type 0} (IsSo : A → Type 0) (paths : List (List A)) (place : PointPlace) : Type 0 where
  pub path : IsFirstNot (All IsSo) paths place.path
  pub point : IsFirstNot IsSo (get_or paths place.path []) place.point

-- the first place of lists whose item is not so, list by list
abbrev pub IsFirstPlace : {A : Type 0} → (A → Type 0) → List (List A) → Option PointPlace → Type 0
IsFirstPlace IsSo paths None = All (All IsSo) paths
IsFirstPlace IsSo paths (Some place) = IsFirstNotIn IsSo paths place

-- the first point that leaves the safe range where it moves by the padding
abbrev pub IsFirstPoint : ℕ → Drawn → Option PointPlace → Type 0
IsFirstPoint unit (as_outline style paths) =
    IsFirstPlace (IsSafeWidened unit (padding_in (as_outline style paths))) paths
IsFirstPoint unit (as_stroke style closed paths) =
    IsFirstPlace (IsSafeWidened unit (padding_in (as_stroke style closed paths))) paths
IsFirstPoint unit (as_variable_stroke options paths) =
    IsFirstPlace (λ (v : Vertex). IsSafeWidened unit (padding_in (as_variable_stroke options paths)) v.point) paths

-- the first contour of an outline whose double area does not fit
abbrev pub IsFirstArea : ℕ → Drawn → Option ℕ → Type 0
IsFirstArea unit (as_outline style paths) = IsFirst (λ path. IsWithin (8 * unit * unit) (double_area path)) paths
IsFirstArea unit (as_stroke style closed paths) = λ place. place ≡ None
IsFirstArea unit (as_variable_stroke options paths) = λ place. place ≡ None

-- the first point, with the padding and the end of the safe range
pub record IsPointRefusal (unit : ℕ) (drawn : Drawn) (refusal : PointRefusal) : Type 0 where
  pub point : IsFirstPoint unit drawn (Some refusal.place)
  pub padding : refusal.padding ≡ padding_in drawn
  pub limit : refusal.limit ≡ pos unit -ℤ pos 1

-- each point stays in range, and this contour is the first whose area does not fit
pub record IsAreaRefusal (unit : ℕ) (drawn : Drawn) (contour : ℕ) : Type 0 where
  pub safe : DoesStayInRange unit drawn
  pub area : IsFirstArea unit drawn (Some contour)

-- where a drawing that may not be drawn leaves the range first
abbrev pub IsFirstRefusal : ℕ → Drawn → Refusal → Type 0
IsFirstRefusal unit drawn (Refusal.Point refusal) = IsPointRefusal unit drawn refusal
IsFirstRefusal unit drawn (Refusal.Area contour) = IsAreaRefusal unit drawn contour
