-- Lemmas over refusals: of areas that do not fit, and of splits that pass a limit.
use Rattle.std.proofs.Common.{◌≡◌, ℕ, ◌<◌, ◌*◌, Bool, List, get_or, true, false, Result, Ok, Err, IsErrAnd, refl, sym, ap, subst, ◌∙◌, arith}
use Rattle.std.proofs.lemmas.Bool.{true≢false}
use Rattle.std.proofs.lemmas.Int.{ints}
use Rattle.std.specs.Prelude.{◌↔◌, OnErr, OnOk, is_ok, ℤ, pos, ◌≤ℤ◌, ◌<ℤ◌, neg_ℤ, int_lt}
use Rattle.mesh_plane.specs.Plane.{Point}
use Rattle.mesh_shapes.specs.Contours.{double_area}
use Rattle.mesh_split.specs.declared.count.SplitCount.{SplitCount}
use Rattle.mesh_offset.specs.Errors.{of_offset}
use Rattle.mesh_offset.specs.declared.error.IntNearnessError.{IntNearnessError}
use Rattle.mesh_offset.specs.declared.error.IntNearnessError.TheVariants as near
use Rattle.mesh_offset.specs.declared.error.IntOutlineError.{IntOutlineError}
use Rattle.mesh_offset.specs.declared.error.IntOutlineError.TheVariants as offset
use Rattle.mesh_outline.specs.Resolved.{DoAreasFit as DoContoursFit}
use Rattle.mesh_drawing.specs.Drawn.{Drawn, as_outline, as_stroke, as_variable_stroke}
use Rattle.mesh_drawing.specs.Drawings.{DoAreasFit, MayBeDrawn}
use Rattle.mesh_drawing.specs.Nearness.{TakesMoreSplits}
use Rattle.mesh_drawing.specs.Paddings.{DoesStayInRange}

-- ---- areas

-- what cannot fail to hold holds, since numbers can be compared
not_not_le : (a b : ℤ) (t : Bool) → int_lt b a ≡ t → ((a ≤ℤ b → ⊥) → ⊥) → a ≤ℤ b
not_not_le a b false e not_not = omega (arith, ints, e)
not_not_le a b true e not_not = absurd (not_not (λ h. omega (arith, ints, e, h)))

not_not_lt : (a b : ℤ) (t : Bool) → int_lt a b ≡ t → ((a <ℤ b → ⊥) → ⊥) → a <ℤ b
not_not_lt a b true e not_not = omega (arith, ints, e)
not_not_lt a b false e not_not = absurd (not_not (λ h. omega (arith, ints, e, h)))

-- areas of which it cannot be that one does not fit all fit
contours_fit : (half : ℕ) (paths : List (List Point)) → ((DoContoursFit half paths → ⊥) → ⊥) → DoContoursFit half paths
contours_fit half paths not_not k d h =
    let a : ℤ = double_area (get_or paths k d) in
    record {
      low = not_not_le (neg_ℤ (pos half)) a (int_lt a (neg_ℤ (pos half))) refl (λ no. not_not (λ fit. no (fit k d h).low));
      high = not_not_lt a (pos half) (int_lt a (pos half)) refl (λ no. not_not (λ fit. no (fit k d h).high));
    }

areas_fit : (unit : ℕ) (drawn : Drawn) → ((DoAreasFit unit drawn → ⊥) → ⊥) → DoAreasFit unit drawn
areas_fit unit (as_outline style paths) not_not = contours_fit (8 * unit * unit) paths not_not
areas_fit unit (as_stroke style closed paths) not_not = tt
areas_fit unit (as_variable_stroke options paths) not_not = tt

-- the wide type holds the numbers below this
pub half_unfit : (half unit : ℕ) (paths : List (List Point)) (R : Type 0) → half ≡ 8 * unit * unit → (R ↔ (DoContoursFit half paths → ⊥)) →
    R ↔ (DoContoursFit (8 * unit * unit) paths → ⊥)
half_unfit half unit paths R e both = subst (λ (h : ℕ). R ↔ (DoContoursFit h paths → ⊥)) e both

-- what is in range and not refused may be drawn
pub drawable : {A : Type 0} (r : Result A IntNearnessError) (unit : ℕ) (drawn : Drawn) → DoesStayInRange unit drawn →
    (r ≡ Err near.CoordinateOutOfRange ↔ (DoAreasFit unit drawn → ⊥)) → (r ≡ Err near.CoordinateOutOfRange → ⊥) → MayBeDrawn unit drawn
drawable r unit drawn safe unfit other = record { safe = safe; fit = areas_fit unit drawn (λ no. other (unfit.1 no)) }

pub answer_drawable : {A : Type 0} (r : Result A IntNearnessError) (unit : ℕ) (drawn : Drawn) → DoesStayInRange unit drawn →
    (r ≡ Err near.CoordinateOutOfRange ↔ (DoAreasFit unit drawn → ⊥)) → OnOk r (MayBeDrawn unit drawn)
answer_drawable (Ok x) unit drawn safe unfit = drawable (Ok x) unit drawn safe unfit (λ e. true≢false (ap is_ok e))
answer_drawable (Err e) unit drawn safe unfit = tt

-- ---- errors that are handed on

-- an error that is handed on is the refusal that it was
pub refusal_handed : {A B E : Type 0} (error : E) (r : Result A E) (test : Result B E) (told : E) (P : Type 0) → IsErrAnd r (λ e. e ≡ told) → test ≡ Err told →
    (test ≡ Err error ↔ P) → r ≡ Err error ↔ P
refusal_handed error (Ok x) test told P same here both = absurd same
refusal_handed {A} {B} {E} error (Err t) test told P same here both = (
  λ e. both.0 (let k : t ≡ error = cc in here ∙ ap Err (sym same ∙ k)),
  λ p. let k : test ≡ Err error = both.1 p in let m : told ≡ error = cc in ap Err (same ∙ m),
)

-- an error of a call that sets no limit
pub refusal_unlimited : {A B : Type 0} (r : Result A IntNearnessError) (s : Result B IntOutlineError) (told : IntOutlineError) (P : Type 0) → r ≡ Err (of_offset told) → s ≡ Err told →
    (r ≡ Err near.CoordinateOutOfRange ↔ P) → s ≡ Err offset.CoordinateOutOfRange ↔ P
refusal_unlimited r s offset.CoordinateOutOfRange P same here both = (λ _. both.0 same, λ _. here)
refusal_unlimited r s offset.OutOfMemory P same here both = (
  λ e. let m : offset.OutOfMemory ≡ offset.CoordinateOutOfRange = cc in cc,
  λ p. let k : r ≡ Err near.CoordinateOutOfRange = both.1 p in let m : near.OutOfMemory ≡ near.CoordinateOutOfRange = cc in cc,
)

-- what holds, and is not refused, meets both ways of the refusal
pub not_refused : {A E : Type 0} (error : E) (r : Result A E) (P : Type 0) → P → (r ≡ Err error → ⊥) → r ≡ Err error ↔ (P → ⊥)
not_refused error r P p other = (λ e _. other e, λ no. absurd (no p))

-- a want of memory is no refusal of the range
pub memory_other : {A : Type 0} (r : Result A IntOutlineError) → IsErrAnd r (λ e. e ≡ offset.OutOfMemory) → r ≡ Err offset.CoordinateOutOfRange → ⊥
memory_other (Ok x) same e = absurd same
memory_other (Err t) same e = let m : offset.CoordinateOutOfRange ≡ offset.OutOfMemory = cc in cc

-- nor where it is the only error
pub memory_only : {A : Type 0} (r : Result A IntOutlineError) → OnErr r (r ≡ Err offset.OutOfMemory) → r ≡ Err offset.CoordinateOutOfRange → ⊥
memory_only (Ok x) same e = true≢false (ap is_ok e)
memory_only (Err t) same e = cc

-- nor is an answer
pub answer_other : {A E : Type 0} (error : E) (x : A) → (Ok x) ≡ Err error → ⊥
answer_other error x e = true≢false (ap is_ok e)

-- nor is a limit that was passed
pub other_refusal : {A : Type 0} (r : Result A IntNearnessError) → r ≡ Err near.TooManySplits → r ≡ Err near.CoordinateOutOfRange → ⊥
other_refusal (Ok x) past range = true≢false (ap is_ok range)
other_refusal (Err t) past range = cc

-- a limit that is passed is set
pub limit_set : (most unit : ℕ) (drawn : Drawn) → TakesMoreSplits most unit drawn → 0 < most
limit_set most unit (as_outline style paths) taken = rw (ap (λ (c : SplitCount). c.most) taken.counted.sum) at taken.so.0
limit_set most unit (as_stroke style closed paths) taken = rw (ap (λ (c : SplitCount). c.most) taken.counted.sum) at taken.so.0
limit_set most unit (as_variable_stroke options paths) taken = rw (ap (λ (c : SplitCount). c.most) taken.counted.sum) at taken.so.0
