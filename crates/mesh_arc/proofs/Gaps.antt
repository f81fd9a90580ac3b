-- Lemmas over lists: neighbouring directions of an arc are within a step, and so is its end unless it broke off.
use Rattle.std.proofs.Common.{◌≡◌, ℕ, ◌<◌, ◌≤◌, Bool, true, false, not, ◌||◌, refl, sym, ◌∙◌, ap, subst, arith, zero, suc, [], length}
use Rattle.std.specs.Prelude.{pos, ◌≤ℤ◌, if◌then◌else◌}
use Rattle.std.specs.List.{All}
use Rattle.std.proofs.lemmas.List.Elements.{All-nil, All-cons}
use Rattle.std.proofs.lemmas.Bool.{or_parts, both_ways, not-false, not_from_true}
use Rattle.mesh_plane.specs.Plane.{Point, Edge, length_sq}
use Rattle.mesh_num.specs.Rotation.{rotated}
use Rattle.mesh_arc.specs.Arcs.{step_of, bound_of, is_within, is_good, is_passed, turned_times, turned_list, least, ends_after, most_directions, stepped, arc}
use Rattle.mesh_plane.specs.Turning.{last_of}
use Rattle.mesh_plane.specs.Winding.{pairs_from}
use Rattle.mesh_arc.specs.Gaps.{HasNearGaps, ReachesEnd}
use Rattle.mesh_arc.specs.declared.arc.ArcDirection.{ArcDirection}
use Rattle.mesh_arc.specs.declared.arc.ArcOptions.{ArcOptions}
use Rattle.mesh_arc.proofs.Passing.{good_within, passing}
use Rattle.mesh_arc.proofs.Turning.{least_before, least_bounded, least_passes, turned_first, turned_count}

-- a gap of two neighbours is one of the steps
near_gaps : (P : Edge → Type 0) (step from : Point) (n : ℕ) → ((k : ℕ) → k < n → P (turned_times step from k, turned_times step from (suc k))) → All P (pairs_from from (turned_list step from n))
unfolding turned_times turned_list
near_gaps P step from zero h = All-nil P
near_gaps P step from (suc n) h =
    All-cons P (from, rotated step from) (pairs_from (rotated step from) (turned_list step (rotated step from) n)) (h zero (omega arith))
    (near_gaps P step (rotated step from) n
    (λ k l.
    let m : suc k < suc n = omega arith in
    subst P (λ i. (sym (turned_first step from k) i, ap (rotated step) (sym (turned_first step from k)) i)) (h (suc k) m)))

last_turned : (step from : Point) (n : ℕ) → last_of from (turned_list step from n) ≡ turned_times step from n
unfolding turned_times turned_list
last_turned step from zero = refl
last_turned step from (suc n) = last_turned step (rotated step from) n ∙ turned_first step from n

or_true : (x y : Bool) → (x || y) ≡ true → x ≡ false → y ≡ true
or_true true y h e = absurd (both_ways true e h)
or_true false y h e = h

-- before the arc ends each step is good
good_before : (sense : ArcDirection) (bound step from end : Point) (k : ℕ) → k < least (ends_after sense bound step from end) most_directions
    → is_good sense bound (turned_times step from k) (turned_times step from (suc k)) ≡ true
good_before sense bound step from end k h =
    let g = is_good sense bound (turned_times step from k) (turned_times step from (suc k)) in
    let p = is_passed sense end (turned_times step from k) (turned_times step from (suc k)) in
    not-false g (or_parts (not g) p (least_before (ends_after sense bound step from end) most_directions k h)).0

-- where the arc has fewer than the most directions and a good step follows, that step passes the end
passed_after : (sense : ArcDirection) (bound step from end : Point) (n : ℕ) → least (ends_after sense bound step from end) most_directions ≡ n → (n ≡ most_directions → ⊥)
    → is_good sense bound (turned_times step from n) (turned_times step from (suc n)) ≡ true → is_passed sense end (turned_times step from n) (turned_times step from (suc n)) ≡ true
passed_after sense bound step from end n e fewer good =
    let test = ends_after sense bound step from end in
    let b : least test most_directions ≤ most_directions = least_bounded test most_directions in
    let l : least test most_directions < most_directions = omega arith in
    let t : test n ≡ true = subst (λ (k : ℕ). test k ≡ true) e (least_passes test most_directions l) in
    let g = is_good sense bound (turned_times step from n) (turned_times step from (suc n)) in
    or_true (not g) (is_passed sense end (turned_times step from n) (turned_times step from (suc n))) t
    (not_from_true g good)

-- ---- the directions of an arc

stepped_gaps : (sense : ArcDirection) (bound step from end : Point) → All (λ (e : Edge). is_within sense bound e.0 e.1 ≡ true) (pairs_from from (stepped sense bound step from end))
unfolding stepped
stepped_gaps sense bound step from end = by (is_within sense bound from end)
  where
    by : (b : Bool) → All (λ (e : Edge). is_within sense bound e.0 e.1 ≡ true)
        (pairs_from from (if b then [] else turned_list step from (least (ends_after sense bound step from end) most_directions)))
    by true = All-nil (λ (e : Edge). is_within sense bound e.0 e.1 ≡ true)
    by false =
        near_gaps (λ (e : Edge). is_within sense bound e.0 e.1 ≡ true) step from (least (ends_after sense bound step from end) most_directions)
        (λ k l. good_within sense bound (turned_times step from k) (turned_times step from (suc k)) (good_before sense bound step from end k l))

stepped_end : (sense : ArcDirection) (bound step from end : Point) → 0 < length_sq end → pos 0 ≤ℤ bound.0
    → (length (stepped sense bound step from end) ≡ most_directions → ⊥)
    → is_good sense bound (last_of from (stepped sense bound step from end)) (rotated step (last_of from (stepped sense bound step from end))) ≡ true
    → is_within sense bound (last_of from (stepped sense bound step from end)) end ≡ true
unfolding stepped turned_times
stepped_end sense bound step from end h z = by (is_within sense bound from end) refl
  where
    by : (b : Bool) → is_within sense bound from end ≡ b
        → (length (if b then [] else turned_list step from (least (ends_after sense bound step from end) most_directions)) ≡ most_directions → ⊥)
        → is_good sense bound (last_of from (if b then [] else turned_list step from (least (ends_after sense bound step from end) most_directions)))
        (rotated step (last_of from (if b then [] else turned_list step from (least (ends_after sense bound step from end) most_directions)))) ≡ true
        → is_within sense bound (last_of from (if b then [] else turned_list step from (least (ends_after sense bound step from end) most_directions))) end ≡ true
    by true e fewer good = e
    by false e fewer good =
        let n = least (ends_after sense bound step from end) most_directions in
        let l : last_of from (turned_list step from n) ≡ turned_times step from n = last_turned step from n in
        let f : n ≡ most_directions → ⊥ = λ (p : n ≡ most_directions). fewer (turned_count step from n ∙ p) in
        let g : is_good sense bound (turned_times step from n) (turned_times step from (suc n)) ≡ true = subst (λ (v : Point). is_good sense bound v (rotated step v) ≡ true) l good in
        let p : is_passed sense end (turned_times step from n) (turned_times step from (suc n)) ≡ true = passed_after sense bound step from end n refl f g in
        subst (λ (v : Point). is_within sense bound v end ≡ true) (sym l) (passing sense bound (turned_times step from n) (turned_times step from (suc n)) end g p h z)

pub arc_gaps : (unit : ℕ) (options : ArcOptions) (sense : ArcDirection) (from end : Point) → HasNearGaps options sense from (arc unit options sense from end)
unfolding arc
arc_gaps unit options sense from end = stepped_gaps sense (bound_of options) (step_of unit options sense) from end

pub arc_reaches : (unit : ℕ) (options : ArcOptions) (sense : ArcDirection) (from end : Point) → 0 < length_sq end → pos 0 ≤ℤ (bound_of options).0
    → ReachesEnd unit options sense from end (arc unit options sense from end)
unfolding arc
arc_reaches unit options sense from end h z = stepped_end sense (bound_of options) (step_of unit options sense) from end h z
