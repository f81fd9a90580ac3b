-- Lemmas over lists: the steps of a path by their places.
use Rattle.std.proofs.Common.{◌≡◌, ℕ, ◌<◌, List, [], ◌∷◌, length, get_or, refl, ap, ◌∙◌, arith}
use Rattle.std.specs.Prelude.{zero, suc, Option, None}
use Rattle.mesh_circle.specs.Sections.{Circle, Section, section_of}
use Rattle.mesh_variable_stroke.specs.Chains.{Step, steps_from, is_break, is_cover}
use Rattle.mesh_variable_stroke.specs.ByIndex.{is_cover_at, HasStepsByIndex}

-- the section of the step before the one at a place, where `before` is that of the step before the first
abbrev before_at : ℕ → Option Section → Circle → List Circle → ℕ → Option Section
before_at unit before d circles zero = before
before_at unit before d circles (suc i) = section_of unit (get_or circles i d) (get_or circles (suc i) d)

-- the step at a place
abbrev step_at : ℕ → Option Section → Circle → List Circle → ℕ → Step
step_at unit before d circles i = record {
  before = before_at unit before d circles i;
  section = section_of unit (get_or circles i d) (get_or circles (suc i) d);
  a = get_or circles i d;
  b = get_or circles (suc i) d;
}

-- it is the step that the path has there
steps_at :
    (unit : ℕ) (before : Option Section) (a : Circle) (bs : List Circle) (i : ℕ) (d : Circle) (s : Step) → i < length bs →
    get_or (steps_from unit before a bs) i s ≡ step_at unit before d (a ∷ bs) i
steps_at unit before a [] i d s h = absurd (omega (arith, h))
steps_at unit before a (b ∷ bs) zero d s h = refl
steps_at unit before a (b ∷ bs) (suc zero) d s h = steps_at unit (section_of unit a b) b bs zero d s (omega (arith, h))
steps_at unit before a (b ∷ bs) (suc (suc i)) d s h =
    steps_at unit (section_of unit a b) b bs (suc i) d s (omega (arith, h))

-- a cover is told by the section before
cover_at :
    (unit : ℕ) (d : Circle) (circles : List Circle) (i : ℕ) →
    is_cover (step_at unit None d circles i) ≡ is_cover_at unit d circles i
cover_at unit d circles zero = refl
cover_at unit d circles (suc i) = refl

step_count :
    (unit : ℕ) (before : Option Section) (a : Circle) (bs : List Circle) → length (steps_from unit before a bs) ≡ length bs
step_count unit before a [] = refl
step_count unit before a (b ∷ bs) = ap suc (step_count unit (section_of unit a b) b bs)

pub has_steps_by_index : (unit : ℕ) (first : Circle) (others : List Circle) → HasStepsByIndex unit first others
has_steps_by_index unit first others = record {
  count = step_count unit None first others;
  each = λ i h d s.
      let is : get_or (steps_from unit None first others) i s ≡ step_at unit None d (first ∷ others) i =
      steps_at unit None first others i d s h in
      record {
        from = ap (λ (t : Step). t.a) is;
        to = ap (λ (t : Step). t.b) is;
        section = ap (λ (t : Step). t.section) is;
        break = ap is_break is;
        cover = ap is_cover is ∙ cover_at unit d (first ∷ others) i;
      };
}
