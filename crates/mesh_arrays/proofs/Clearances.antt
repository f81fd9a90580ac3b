-- Lemmas over clearances: in 64 bits, and why there is none.
use Rattle.std.proofs.Common.{◌≡◌, ℕ, ◌<◌, ◌≤◌, ◌-◌, ◌^◌, ◌⊎◌, inl, inr, suc, Bool, List, [], get_or, Result, Ok, Err, IsErrAnd, sym, subst, arith}
use Rattle.std.specs.Prelude.{min, Option, None, Some, MatchOption}
use Rattle.std.specs.List.{All, flat_map}
use Rattle.std.proofs.lemmas.List.Elements.{All-nil, All-weaker}
use Rattle.mesh_num.specs.Paths.{contours_of}
use Rattle.mesh_plane.specs.Plane.{Point, Edge}
use Rattle.mesh_plane.specs.Winding.{boundary}
use Rattle.mesh_clearance.specs.Clearance.{AreApart, AreAllApart, IsClearance, sections}
use Rattle.mesh_clearance.proofs.Searching.{all_wind, balanced_all}
use Rattle.mesh_clearance.proofs.Symmetries.{apart_less}
use Rattle.mesh_arrays.specs.Clearances.{AnswersClearance, HasNoClearance, IsClearanceAnswer, IsClearanceUpTo}
use Rattle.mesh_arrays.specs.EndToEnd.{PathLists, StandEndToEnd}
use Rattle.mesh_arrays.specs.Failures.{IsUnread}
use Rattle.mesh_arrays.specs.ShapeRooms.{ShapeLists}
use Rattle.mesh_arrays.specs.Slivers.{AreShapesIn}
use Rattle.mesh_arrays.specs.Styles.{flag_in}
use Rattle.mesh_arrays.specs.declared.failure.Failure.{Failure}

-- ---- a number up to the greatest

-- where one list has no edge, any number parts them
all_apart_none : (t : ℕ) (es fs : List Edge) → (es ≡ []) ⊎ (fs ≡ []) → AreAllApart t es fs
all_apart_none t es fs (inl none) = subst (λ (l : List Edge). AreAllApart t l fs) (sym none) (All-nil (λ (e : Edge). All (AreApart t e) fs))
all_apart_none t es fs (inr none) =
    subst (λ (l : List Edge). AreAllApart t es l) (sym none) (λ k d low. All-nil (AreApart t (get_or es k d)))

-- a lesser number does too
all_apart_less : (s t : ℕ) (es fs : List Edge) → s ≤ t → AreAllApart t es fs → AreAllApart s es fs
all_apart_less s t es fs less h =
    All-weaker (λ (e : Edge). All (AreApart t e) fs) (λ (e : Edge). All (AreApart s e) fs)
    (λ (e : Edge) (k : All (AreApart t e) fs).
    All-weaker (AreApart t e) (AreApart s e) (λ (f : Edge) (x : AreApart t e f). apart_less s t e f less x) fs k)
    es h

pub up_to : (most t : ℕ) (es fs : List Edge) (found : Option ℕ) → MatchOption found ((es ≡ []) ⊎ (fs ≡ [])) (IsClearance es fs) →
    MatchOption found (t ≡ most) (λ s. t ≡ min s most) → IsClearanceUpTo most es fs t
up_to most t es fs None none is = record {
  apart = all_apart_none t es fs none;
  within = omega (arith, is);
  greatest = λ below more. absurd (not_below below is);
}
  where
    not_below : t < most → t ≡ most → ⊥
    not_below below same = omega (arith, below, same)
up_to most t es fs (Some s) found is = record {
  apart = all_apart_less t s es fs (omega (arith, is)) found.apart;
  within = omega (arith, is);
  greatest = λ below more. found.greatest (subst (λ (n : ℕ). AreAllApart (suc n) es fs) (whole t s is below) more);
}
  where
    whole : (x y : ℕ) → x ≡ min y most → x < most → x ≡ y
    whole x y same below = grind (arith, same, below)

-- ---- what is answered

pub answers : {F : Type 0} (point_of : F → Point) (given : ShapeLists F) (given_paths : PathLists F) (closed clearance : ℕ) (shapes : List (List (List Point)))
    (paths : List (List Point)) (are_closed : Bool) (found : Option ℕ) → flag_in closed ≡ Some are_closed → AreShapesIn point_of given shapes →
    StandEndToEnd point_of paths given_paths →
    MatchOption found ((flat_map boundary (contours_of shapes) ≡ []) ⊎ (flat_map (sections are_closed) paths ≡ []))
    (IsClearance (flat_map boundary (contours_of shapes)) (flat_map (sections are_closed) paths)) →
    MatchOption found (clearance ≡ 2 ^ 64 - 1) (λ s. clearance ≡ min s (2 ^ 64 - 1)) →
    AnswersClearance point_of given given_paths closed clearance
answers point_of given given_paths closed clearance shapes paths are_closed found said shaped along measured is =
    let all = up_to (2 ^ 64 - 1) clearance (flat_map boundary (contours_of shapes)) (flat_map (sections are_closed) paths) found measured is in
    record {
      shapes = shapes;
      paths = paths;
      are_closed = are_closed;
      asked = record { said = said; shaped = shaped; along = along };
      found = all;
      winding = all_wind clearance are_closed (flat_map boundary (contours_of shapes)) paths (balanced_all (contours_of shapes)) all.apart;
    }

-- ---- what is not

-- there are no shapes
pub no_shapes : {F : Type 0} (point_of : F → Point) (given : ShapeLists F) (given_paths : PathLists F) (closed : ℕ) (failure : Failure) →
    IsUnread ((shapes : List (List (List Point))) → AreShapesIn point_of given shapes → ⊥) failure → HasNoClearance point_of given given_paths closed failure
no_shapes point_of given given_paths closed failure none = (none.0, λ malformed. λ shapes paths are_closed asked. none.1 malformed shapes asked.shaped)

-- there are no paths
pub no_paths : {F : Type 0} (point_of : F → Point) (given : ShapeLists F) (given_paths : PathLists F) (closed : ℕ) (failure : Failure) →
    IsUnread ((paths : List (List Point)) → StandEndToEnd point_of paths given_paths → ⊥) failure → HasNoClearance point_of given given_paths closed failure
no_paths point_of given given_paths closed failure none = (none.0, λ malformed. λ shapes paths are_closed asked. none.1 malformed paths asked.along)

-- a failure that is handed on
pub failed : {F : Type 0} (point_of : F → Point) (given : ShapeLists F) (given_paths : PathLists F) (closed : ℕ) (answer : Result ℕ Failure) (failure : Failure) →
    IsErrAnd answer (λ e. e ≡ failure) → HasNoClearance point_of given given_paths closed failure → IsClearanceAnswer point_of given given_paths closed answer
failed point_of given given_paths closed (Ok t) failure same none = absurd same
failed point_of given given_paths closed (Err e) failure same none = subst (HasNoClearance point_of given given_paths closed) (sym same) none
