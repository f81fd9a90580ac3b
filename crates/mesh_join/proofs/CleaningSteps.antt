-- Lemmas over points and lists: one step of the walk that the program makes round a contour.
use Rattle.std.proofs.Common.{◌≡◌, ℕ, ◌⊎◌, inl, inr, refl, sym, ◌∙◌, ap, subst, arith, true, false, List, [], ◌∷◌, ◌++◌, length}
use Rattle.std.specs.Prelude.{pos}
use Rattle.std.specs.List.{All}
use Rattle.std.proofs.lemmas.Bool.{true≢false, cases_Bool, cond-true, cond-false}
use Rattle.std.proofs.lemmas.List.Elements.{All-head, All-tail, All-cons, All-nil, All-rest, All-append}
use Rattle.mesh_plane.specs.Plane.{Point, Edge}
use Rattle.mesh_plane.specs.Winding.{same_point, boundary, winding, crossing_on}
use Rattle.mesh_plane.proofs.Triangles.{crossing_on_straight}
use Rattle.mesh_plane.specs.Turning.{turns_at}
use Rattle.mesh_join.specs.Cleaned.{cleaned_sections, open_sections, AllEqual, IsCleanContour}
use Rattle.mesh_plane.proofs.Comparing.{decides_point, point_self}
use Rattle.mesh_join.proofs.CleaningPass.{passed-kept, passed-on, passed-open}
use Rattle.mesh_join.proofs.CleaningStart.{started, started-kept, started-on, cleaned_sections-same}
use Rattle.mesh_join.proofs.CleaningSums.{cleaned-total}
use Rattle.mesh_join.proofs.CleaningTurns.{cleaned_sections-clean}

-- ---- the first point that differs

abbrev pub AllAt : Point → List Point → Type 0
AllAt q ps = All (λ (p : Point). p ≡ q) ps

pub equal_on : (q x : Point) (zs rest : List Point) → rest ≡ x ∷ zs → same_point q x ≡ true → AllAt q zs → AllAt q rest
equal_on q x zs rest e s h =
    subst (AllAt q) (sym e) (All-cons (λ (p : Point). p ≡ q) x zs (sym ((decides_point q x).0 s)) h)

pub unequal_on : (q x : Point) (zs rest : List Point) → rest ≡ x ∷ zs → AllAt q rest → AllAt q zs
unequal_on q x zs rest e h = All-rest (λ (p : Point). p ≡ q) x zs rest e h

pub sections_on : (q x : Point) (zs ps rest : List Point) → rest ≡ x ∷ zs → same_point q x ≡ true → cleaned_sections (q ∷ ps) ≡ cleaned_sections (q ∷ rest) → cleaned_sections (q ∷ ps) ≡ cleaned_sections (q ∷ zs)
sections_on q x zs ps rest e s h = h ∙ ap (λ ws. cleaned_sections (q ∷ ws)) e ∙ cleaned_sections-same q x zs s

pub differs : (q x : Point) (zs ps rest : List Point) → rest ≡ x ∷ zs → same_point q x ≡ false → (AllAt q ps → AllAt q rest) → AllAt q ps → ⊥
differs q x zs ps rest e s f h =
    let all : AllAt q (x ∷ zs) = subst (AllAt q) e (f h) in
    let same : x ≡ q = All-head (λ (p : Point). p ≡ q) x zs all in
    true≢false (sym (point_self q) ∙ ap (same_point q) (sym same) ∙ s)

-- ---- a walk straight on

pub open_kept : (all : List Edge) (a b x : Point) (zs ps : List Point) → ps ≡ x ∷ zs → turns_at a b x ≡ true → all ≡ open_sections (a ∷ b ∷ ps) → all ≡ (a, b) ∷ open_sections (b ∷ x ∷ zs)
open_kept all a b x zs ps e k h =
    h
    ∙ ap (λ ws. open_sections (a ∷ b ∷ ws)) e
    ∙ sym (passed-open a b (x ∷ zs))
    ∙ passed-kept a b x zs k
    ∙ ap (λ (es : List Edge). (a, b) ∷ es) (passed-open b x zs)

pub open_on : (all : List Edge) (a b x : Point) (zs ps : List Point) → ps ≡ x ∷ zs → turns_at a b x ≡ false → all ≡ open_sections (a ∷ b ∷ ps) → all ≡ open_sections (a ∷ x ∷ zs)
open_on all a b x zs ps e k h =
    h ∙ ap (λ ws. open_sections (a ∷ b ∷ ws)) e ∙ sym (passed-open a b (x ∷ zs)) ∙ passed-on a b x zs k ∙ passed-open a x zs

-- ---- the end of the walk

pub none_left : (a : Point) (ps : List Point) → ps ≡ [] → open_sections (a ∷ a ∷ ps) ≡ []
none_left a ps e =
    ap (λ ws. open_sections (a ∷ a ∷ ws)) e ∙ sym (passed-open a a []) ∙ cond-true (same_point a a) [] ((a, a) ∷ []) (point_self a)

pub ended : (all : List Edge) (a b : Point) → all ≡ open_sections (a ∷ b ∷ []) → same_point a b ≡ true → all ≡ []
ended all a b h e = h ∙ sym (passed-open a b []) ∙ cond-true (same_point a b) [] ((a, b) ∷ []) e

pub ends : (all : List Edge) (a b : Point) (ps : List Point) → all ≡ open_sections (a ∷ b ∷ []) → same_point a b ≡ false → ps ≡ [] → all ≡ (a, b) ∷ open_sections (a ∷ a ∷ ps)
ends all a b ps h e k =
    h
    ∙ sym (passed-open a b [])
    ∙ cond-false (same_point a b) [] ((a, b) ∷ []) e
    ∙ ap (λ (es : List Edge). (a, b) ∷ es) (sym (none_left a ps k))

pub all_ended : (P : Point → Type 0) (a b : Point) (ps qs : List Point) → All P (a ∷ b ∷ ps) → qs ≡ [] → All P (a ∷ a ∷ qs)
all_ended P a b ps qs h e =
    let first : P a = All-head P a (b ∷ ps) h in
    subst (λ ws. All P (a ∷ a ∷ ws)) (sym e) (All-cons P a (a ∷ []) first (All-cons P a [] first (All-nil P)))

module _ (P : Point → Type 0) (a b : Point) (ps : List Point) (h : All P (a ∷ b ∷ ps)) where
  pub first_of_all : P a
  first_of_all = All-head P a (b ∷ ps) h

  pub second_of_all : P b
  second_of_all = All-head P b ps (All-tail P a (b ∷ ps) h)

  pub others_of_all : All P ps
  others_of_all = All-tail P b ps (All-tail P a (b ∷ ps) h)

  module _ (x : Point) (zs : List Point) (e : ps ≡ x ∷ zs) where
    pub next_of_all : P x
    next_of_all = All-head P x zs (subst (All P) e others_of_all)

    pub all_without_first : All P (b ∷ x ∷ zs)
    all_without_first = All-cons P b (x ∷ zs) second_of_all (subst (All P) e others_of_all)

    pub all_without_second : All P (a ∷ x ∷ zs)
    all_without_second = All-cons P a (x ∷ zs) first_of_all (subst (All P) e others_of_all)

    pub all_closed_here : All P (b ∷ x ∷ (zs ++ a ∷ b ∷ []))
    all_closed_here = All-append P (b ∷ x ∷ zs) (a ∷ b ∷ []) all_without_first (All-cons P a (b ∷ []) first_of_all (All-cons P b [] second_of_all (All-nil P)))

  pub all_closed : All P (a ∷ b ∷ (ps ++ a ∷ a ∷ []))
  all_closed = All-append P (a ∷ b ∷ ps) (a ∷ a ∷ []) h (All-cons P a (a ∷ []) first_of_all (All-cons P a [] first_of_all (All-nil P)))

-- ---- the walk begun

pub started_on : (goal : List Edge) (q a x : Point) (zs ps : List Point) → ps ≡ x ∷ zs → turns_at q a x ≡ false → started q a ps ≡ goal → started q x zs ≡ goal
started_on goal q a x zs ps e k h = sym (started-on q a x zs k) ∙ ap (started q a) (sym e) ∙ h

pub started_here : (goal : List Edge) (q a x : Point) (zs ps : List Point) → ps ≡ x ∷ zs → turns_at q a x ≡ true → started q a ps ≡ goal → open_sections (a ∷ x ∷ (zs ++ q ∷ a ∷ [])) ≡ goal
started_here goal q a x zs ps e k h =
    sym (passed-open a x (zs ++ q ∷ a ∷ [])) ∙ sym (started-kept q a x zs k) ∙ ap (started q a) (sym e) ∙ h

pub started_never : (goal : List Edge) (q a : Point) (ps : List Point) → length ps ≡ 0 → started q a ps ≡ goal → open_sections (q ∷ a ∷ (ps ++ q ∷ q ∷ [])) ≡ goal
started_never goal q a [] e h = sym (passed-open q a (q ∷ q ∷ [])) ∙ h
started_never goal q a (p ∷ ps) e h = absurd (omega arith)

pub all_begun : (P : Point → Type 0) (q : Point) (points others rest : List Point) → All P points → points ≡ q ∷ others → All P rest → All P (q ∷ rest)
all_begun P q points others rest h e k = All-cons P q rest (All-head P q others (subst (All P) e h)) k

pub not_equal : (q : Point) (points others : List Point) → points ≡ q ∷ others → (AllAt q others → ⊥) → AllEqual points → ⊥
not_equal q points others e n h = n (subst AllEqual e h)

-- ---- the whole contour

pub cleaned-none : (points : List Point) → AllEqual points → cleaned_sections points ≡ []
unfolding cleaned_sections
cleaned-none [] h = refl
cleaned-none (q ∷ []) h = refl
cleaned-none (q ∷ p ∷ ps) h =
    let same : p ≡ q = All-head (λ (p : Point). p ≡ q) p ps h in
    let test : same_point q p ≡ true = ap (same_point q) same ∙ point_self q in
    cleaned_sections-same q p ps test ∙ cleaned-none (q ∷ ps) (All-tail (λ (p : Point). p ≡ q) p ps h)

pub cleaned-clean : (points : List Point) → (AllEqual points → ⊥) → IsCleanContour (cleaned_sections points)
cleaned-clean [] n = absurd (n tt)
cleaned-clean (q ∷ []) n = absurd (n (All-nil (λ (p : Point). p ≡ q)))
cleaned-clean (q ∷ p ∷ ps) n = by (cases_Bool (same_point q p)) (cleaned-clean (q ∷ ps))
  where
    by : (same_point q p ≡ true) ⊎ (same_point q p ≡ false) → ((AllEqual (q ∷ ps) → ⊥) → IsCleanContour (cleaned_sections (q ∷ ps))) → IsCleanContour (cleaned_sections (q ∷ p ∷ ps))
    by (inl e) ih =
        subst IsCleanContour (sym (cleaned_sections-same q p ps e))
        (ih (λ h. n (All-cons (λ (p : Point). p ≡ q) p ps (sym ((decides_point q p).0 e)) h)))
    by (inr e) ih = cleaned_sections-clean q p ps e

pub cleaned-winding : (m : ℕ) (q : Point) (points : List Point) → winding m q (cleaned_sections points) ≡ winding m q (boundary points)
cleaned-winding m q points = cleaned-total (crossing_on m q) (crossing_on_straight m q) points

pub equal-winding : (m : ℕ) (q : Point) (points : List Point) → AllEqual points → winding m q (boundary points) ≡ pos 0
equal-winding m q points h = sym (cleaned-winding m q points) ∙ ap (winding m q) (cleaned-none points h)
