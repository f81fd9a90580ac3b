-- Which steps of a path are breaks and covers, by their places: step `i` leads from circle `i` to circle `i + 1`.
use Rattle.std.specs.Prelude.{ℕ, zero, suc, ◌≡◌, ◌<◌, Bool, false, List, ◌∷◌, length, get_or, None}
use Rattle.mesh_circle.specs.Sections.{Circle, section_of, is_nested}
use Rattle.mesh_variable_stroke.specs.Chains.{Step, steps_from, is_break, is_cover, is_covered_by}

-- step `i` is a break where one of its circles holds the other; `d` stands for circles past the last
abbrev pub is_break_at : Circle → List Circle → ℕ → Bool
is_break_at d circles i = is_nested (get_or circles i d) (get_or circles (suc i) d)

-- a step but the first is a cover where the section of the step before it holds the circle that it leads to
abbrev pub is_cover_at : ℕ → Circle → List Circle → ℕ → Bool
is_cover_at unit d circles zero = false
is_cover_at unit d circles (suc i) =
    is_covered_by (section_of unit (get_or circles i d) (get_or circles (suc i) d)) (get_or circles (suc (suc i)) d)

-- the step at a place leads from the circle there to the next one, and is a break or a cover where that place is
pub record IsStepAt (unit : ℕ) (d : Circle) (circles : List Circle) (i : ℕ) (s : Step) : Type 0 where
  pub from : s.a ≡ get_or circles i d
  pub to : s.b ≡ get_or circles (suc i) d
  pub section : s.section ≡ section_of unit (get_or circles i d) (get_or circles (suc i) d)
  pub break : is_break s ≡ is_break_at d circles i
  pub cover : is_cover s ≡ is_cover_at unit d circles i

-- so is each step of a path, of which there is one less than circles
pub record HasStepsByIndex (unit : ℕ) (first : Circle) (others : List Circle) : Type 0 where
  pub count : length (steps_from unit None first others) ≡ length others
  pub each : (i : ℕ) → i < length others → (d : Circle) (s : Step)
      → IsStepAt unit d (first ∷ others) i (get_or (steps_from unit None first others) i s)

abbrev pub StepsAreByIndex : Type 0
StepsAreByIndex = (unit : ℕ) (first : Circle) (others : List Circle) → HasStepsByIndex unit first others
