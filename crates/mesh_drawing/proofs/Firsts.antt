-- Lemmas over lists: the first item that is not so.
use Rattle.std.proofs.Common.{◌≡◌, ℕ, ◌<◌, ◌+◌, List, get_or, take, length, Some, None, sym, subst}
use Rattle.std.specs.List.{All}
use Rattle.std.proofs.lemmas.List.Elements.{All-more}
use Rattle.mesh_drawing.specs.Drawn.{Drawn, as_outline, as_stroke, as_variable_stroke}
use Rattle.mesh_drawing.specs.Paddings.{DoesStayInRange}
use Rattle.mesh_drawing.specs.Refusals.{IsFirstNot, IsFirstPoint}
use Rattle.mesh_drawing.specs.declared.refusal.PointPlace.{PointPlace}

-- one item more is so
pub one_more : {A : Type 0} (IsSo : A → Type 0) (xs : List A) (i : ℕ) (d item : A) → i < length xs → get_or xs i d ≡ item → All IsSo (take i xs) → IsSo item → All IsSo (take (i + 1) xs)
one_more IsSo xs i d item h e before so = All-more IsSo xs i d h before (subst IsSo (sym e) so)

-- or it is the first that is not
pub first_found : {A : Type 0} (IsSo : A → Type 0) (xs : List A) (i : ℕ) (d item : A) → i < length xs → get_or xs i d ≡ item → All IsSo (take i xs) → (IsSo item → ⊥) → IsFirstNot IsSo xs i
first_found IsSo xs i d item h e before not_so = record { within = h; before = before; here = λ so. not_so (subst IsSo e (so d)) }

-- then not all are so
pub not_all : {A : Type 0} (IsSo : A → Type 0) (xs : List A) (k : ℕ) → IsFirstNot IsSo xs k → All IsSo xs → ⊥
not_all IsSo xs k first all = first.here (λ d. all k d first.within)

-- a point that is refused leaves the range
pub point_past : (unit : ℕ) (drawn : Drawn) (place : PointPlace) → IsFirstPoint unit drawn (Some place) → DoesStayInRange unit drawn → ⊥
point_past unit (as_outline style paths) place first = not_all _ paths place.path first.path
point_past unit (as_stroke style closed paths) place first = not_all _ paths place.path first.path
point_past unit (as_variable_stroke options paths) place first = not_all _ paths place.path first.path
