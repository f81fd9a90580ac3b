-- Lemmas over lists: the directions of an arc, as they are added one by one.
use Rattle.std.proofs.Common.{◌≡◌, ℕ, ◌+◌, ◌<◌, ◌≤◌, true, false, refl, sym, ◌∙◌, ap, subst, arith, suc, List, [], ◌∷◌, ◌++◌, length, ◌⊎◌, inl, inr, ⊎_elim}
use Rattle.std.specs.Prelude.{not, ◌||◌}
use Rattle.std.proofs.lemmas.Bool.{cases_lt, true≢false}
use Rattle.mesh_plane.specs.Plane.{Point}
use Rattle.mesh_num.specs.Rotation.{rotated}
use Rattle.mesh_arc.specs.Arcs.{least, turned_times, turned_list, is_within, is_good, is_passed, most_directions, step_of, bound_of, stepped, arc}
use Rattle.mesh_arc.specs.declared.arc.ArcDirection.{ArcDirection}
use Rattle.mesh_arc.specs.declared.arc.ArcOptions.{ArcOptions}
use Rattle.mesh_arc.specs.Private.Steps.{Steps, ends, HasTurned}
use Rattle.mesh_arc.proofs.Turning.{least_is, least_passes, turned_more, turned_count}

-- no direction yet
pub turning_starts : (s : Steps) (from end : Point) (room : ℕ) → HasTurned s (from, end) room 0 from [] room
unfolding turned_times turned_list
turning_starts s from end room = record {
  count = omega arith;
  current_is = refl;
  directions = refl;
  goes_on = λ j h. absurd (omega arith);
  grown = omega arith;
}

-- the test of the code is that of the definition
pub ends_is : (s : Steps) (from end : Point) (k : ℕ) (current next : Point) → current ≡ turned_times s.step from k → next ≡ rotated s.step current
    → (not (is_good s.sense s.bound current next) || is_passed s.sense end current next) ≡ ends s from end k
unfolding turned_times
ends_is s from end k current next p q = rw (q, p) refl

-- one more
pub turning_goes : (s : Steps) (from end : Point) (room k : ℕ) (current : Point) (ds : List Point) (capacity : ℕ) (next : Point) (grown : ℕ)
    → HasTurned s (from, end) room k current ds capacity → k < most_directions → next ≡ rotated s.step current → ends s from end k ≡ false
    → capacity ≤ grown → HasTurned s (from, end) room (k + 1) next (ds ++ (next ∷ [])) grown
unfolding turned_times
turning_goes s from end room k current ds capacity next grown h l q e c =
    let one : suc k ≡ k + 1 = omega arith in
    let n : next ≡ turned_times s.step from (suc k) = q ∙ ap (rotated s.step) h.current_is in
    rw (← one)
    (record {
      count = l;
      current_is = n;
      directions = rw (h.directions, n) (sym (turned_more s.step from k));
      goes_on = λ j i. ⊎_elim (λ (a : j ≡ k). rw a e) (λ a. h.goes_on j (omega (arith, a))) (same j k i);
      grown = omega (arith, h.grown);
    })
  where
    same : (j k : ℕ) → j < suc k → (j ≡ k) ⊎ (j < k)
    same j k i = ⊎_elim (λ a. inr a) (λ a. inl (omega arith)) (cases_lt j k)

-- the list is whole where the arc ends
pub turning_ends : (s : Steps) (from end : Point) (room k : ℕ) (current : Point) (ds : List Point) (capacity : ℕ)
    → HasTurned s (from, end) room k current ds capacity → (k ≡ most_directions) ⊎ (ends s from end k ≡ true)
    → ds ≡ turned_list s.step from (least (ends s from end) most_directions)
turning_ends s from end room k current ds capacity h p =
    h.directions ∙ ap (turned_list s.step from) (sym (least_is (ends s from end) most_directions k h.count h.goes_on p))

-- where it goes on, there are more directions than there are yet
pub more_come : (s : Steps) (from end : Point) (room k : ℕ) (current : Point) (ds : List Point) (capacity : ℕ)
    → HasTurned s (from, end) room k current ds capacity → k < most_directions → ends s from end k ≡ false
    → k < least (ends s from end) most_directions
more_come s from end room k current ds capacity h l e =
    let n = least (ends s from end) most_directions in
    ⊎_elim
    (λ a. a)
    (λ a.
    let p : ends s from end n ≡ true = least_passes (ends s from end) most_directions (omega arith) in
    ⊎_elim
    (λ (i : n < k). absurd (true≢false (sym p ∙ h.goes_on n i)))
    (λ i. absurd (true≢false (sym p ∙ subst (λ (m : ℕ). ends s from end m ≡ false) (meet n k a i) e)))
    (cases_lt n k))
    (cases_lt k n)
  where
    meet : (n k : ℕ) → n ≤ k → k ≤ n → k ≡ n
    meet n k a b = omega arith

-- as many directions as steps
pub turned_so_far : (s : Steps) (from end : Point) (room k : ℕ) (current : Point) (ds : List Point) (capacity : ℕ)
    → HasTurned s (from, end) room k current ds capacity → length ds ≡ k
turned_so_far s from end room k current ds capacity h = ap length h.directions ∙ turned_count s.step from k

-- ---- from steps to arcs

pub stepped_none : (sense : ArcDirection) (bound step from end : Point) → is_within sense bound from end ≡ true → [] ≡ stepped sense bound step from end
unfolding stepped
stepped_none sense bound step from end h = rw h refl

pub stepped_some : (s : Steps) (from end : Point) → is_within s.sense s.bound from end ≡ false
    → turned_list s.step from (least (ends s from end) most_directions) ≡ stepped s.sense s.bound s.step from end
unfolding stepped
stepped_some s from end h = rw h refl

pub stepped_count : (s : Steps) (from end : Point) → is_within s.sense s.bound from end ≡ false
    → length (stepped s.sense s.bound s.step from end) ≡ least (ends s from end) most_directions
stepped_count s from end h = ap length (sym (stepped_some s from end h)) ∙ turned_count s.step from (least (ends s from end) most_directions)

pub arc_is : (unit : ℕ) (options : ArcOptions) (sense : ArcDirection) (from end : Point)
    → stepped sense (bound_of options) (step_of unit options sense) from end ≡ arc unit options sense from end
unfolding arc
arc_is unit options sense from end = refl
