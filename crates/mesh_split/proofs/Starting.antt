-- Lemmas over points and lists: the given edges put in one by one, and the splitting up to its end.
use Rattle.std.proofs.Common.{◌≡◌, ℕ, ◌+◌, ◌*◌, ◌<◌, ◌≤◌, ◌^◌, Bool, true, false, cond, ◌||◌, sym, ◌∙◌, ap, subst, refl, arith, List, [], ◌∷◌, ◌++◌, length, take, get_or, max}
use Rattle.std.specs.Prelude.{ℤ, pos, ◌+ℤ◌, ◌-ℤ◌, ◌*ℤ◌, ◌≤ℤ◌, ◌<ℤ◌, unsigned_abs, int_lt}
use Rattle.std.proofs.lemmas.Int.{ints}
use Rattle.std.proofs.lemmas.List.{take_more, take_all}
use mir.Syntax.{w32}
use mir.Val.{SFits}
use Rattle.mesh_plane.specs.Plane.{Edge}
use Rattle.mesh_plane.specs.Winding.{sum_of}
use Rattle.mesh_plane.proofs.Sums.{sum_of_append}
use Rattle.mesh_plane.proofs.Whole.{linear}
use Rattle.mesh_lattice.specs.Split.{same_ends, occurs, EdgeSplit, after, no_cut}
use Rattle.mesh_lattice.specs.Counted.{Counted, bit, along, times}
use Rattle.mesh_store.specs.Steps.{IsTaken, Puts, AllClear, AreCountOf, IsReachedBySplits, Moves, Settles, at_least_once, extent, weight, waiting_work, live_work, work, total_weight}
use Rattle.mesh_lattice.proofs.Ends.{ends_self}
use Rattle.mesh_lattice.proofs.Counts.{times_least, bit_most}
use Rattle.mesh_lattice.proofs.Splits.{occurs_append}
use Rattle.mesh_store.proofs.Stages.{pop_count}
use Rattle.mesh_split.proofs.Settling.{fewer_clear, moves_settled}
use Rattle.mesh_lattice.specs.Counted.{IsRoomy}

once_given : (b o : Bool) (z : ℤ) → z +ℤ pos 0 ≡ bit o → at_least_once b z +ℤ pos 0 ≡ bit (o || (b || false))
once_given true true z h = ap (λ (x : ℤ). cond (int_lt (pos 0) x) x (pos 1) +ℤ pos 0) (one z h)
  where
    one : (z : ℤ) → z +ℤ pos 0 ≡ pos 1 → z ≡ pos 1
    one z h = omega (arith, linear)
once_given true false z h = ap (λ (x : ℤ). cond (int_lt (pos 0) x) x (pos 1) +ℤ pos 0) (none z h)
  where
    none : (z : ℤ) → z +ℤ pos 0 ≡ pos 0 → z ≡ pos 0
    none z h = omega (arith, linear)
once_given false true z h = h
once_given false false z h = h

add_count : (es : List Edge) (e : Edge) (todo live todo' live' : List Counted) → Puts todo live todo' live' (e, pos 1) → AreCountOf es todo live [] → AreCountOf (es ++ e ∷ []) todo' live' []
add_count es e todo live todo' live' p r = record {
  counts = λ q.
      let one : pos 1 *ℤ along q e ≡ along q e = omega (arith, ints) in
      omega (arith, linear, r.counts q, p.counts q, sum_of_append (along q) es (e ∷ []));
  once = λ q.
      ap (λ (z : ℤ). z +ℤ pos 0) (p.once q)
      ∙ once_given (same_ends q e) (occurs q es) (times q todo +ℤ times q live) (r.once q)
      ∙ ap bit (sym (occurs_append q es (e ∷ [])));
}

-- one more given edge
pub more_count : (es : List Edge) (i : ℕ) (d : Edge) (todo live todo' live' : List Counted) → i < length es → Puts todo live todo' live' (get_or es i d, pos 1)
    → AreCountOf (take i es) todo live [] → AreCountOf (take (i + 1) es) todo' live' []
more_count es i d todo live todo' live' h p r =
    subst (λ (x : List Edge). AreCountOf x todo' live' []) (sym (take_more es i d h)) (add_count (take i es) (get_or es i d) todo live todo' live' p r)

pub more_clear : (todo live todo' live' : List Counted) (k : Counted) → Puts todo live todo' live' k → AllClear live → AllClear live'
more_clear todo live todo' live' k p h = fewer_clear live live' (λ q. omega (arith, linear, p.live_ends q)) h

-- no segment at the start
pub none_count : (todo live : List Counted) → todo ≡ [] → live ≡ [] → AreCountOf [] todo live []
none_count todo live s t = subst (λ (x : List Counted). AreCountOf [] x live []) (sym s) (subst (λ (x : List Counted). AreCountOf [] [] x []) (sym t) (record { counts = λ q. refl; once = λ q. refl }))

pub none_clear : (live : List Counted) → live ≡ [] → AllClear live
none_clear live t = subst AllClear (sym t) (λ e some. absurd (omega (arith, ints, some)))

pub none_weight : (todo live : List Counted) → todo ≡ [] → live ≡ [] → total_weight todo live ≤ℤ pos 0
none_weight todo live s t = subst (λ (x : List Counted). total_weight x live ≤ℤ pos 0) (sym s) (subst (λ (x : List Counted). total_weight [] x ≤ℤ pos 0) (sym t) (omega (arith, ints)))

-- the weight of an edge with coordinates of 32 bits
pub edge_weight : (e : Edge) → SFits w32 e.0.0 → SFits w32 e.0.1 → SFits w32 e.1.0 → SFits w32 e.1.1 → weight (e, pos 1) ≤ℤ pos (2 ^ 33)
edge_weight e a b c d =
    let x : unsigned_abs (e.1.0 -ℤ e.0.0) ≤ 2 ^ 32 = omega (arith, ints) in
    let y : unsigned_abs (e.1.1 -ℤ e.0.1) ≤ 2 ^ 32 = omega (arith, ints) in
    let m : max 1 (extent e) ≤ 2 ^ 33 = omega arith in
    omega (arith, ints)

-- ---- the splitting

work_least : (todo live : List Counted) → pos 0 ≤ℤ work todo live
work_least todo live = omega (arith, linear, waiting todo, living live)
  where
    waiting : (ks : List Counted) → pos 0 ≤ℤ sum_of waiting_work ks
    waiting [] = omega (arith, ints)
    waiting (k ∷ ks) = omega (arith, ints, waiting ks)

    living : (ks : List Counted) → pos 0 ≤ℤ sum_of live_work ks
    living [] = omega (arith, ints)
    living (k ∷ ks) = omega (arith, ints, living ks)

-- the state after a segment was taken from the worklist and settled
pub settled_reached : (given : List Edge) (ks ks' : List EdgeSplit) (old todo live todo' live' : List Counted) (k : Counted) → IsTaken old todo k
    → Settles ks todo live ks' todo' live' k → IsReachedBySplits given ks old live [] → IsReachedBySplits given ks' todo' live' []
settled_reached given ks ks' old todo live todo' live' k e s r =
    s.reached given (record { legal = r.legal; count = pop_count _ old todo live k [] e r.count })

pub settled_weight : (ks ks' : List EdgeSplit) (old todo live todo' live' : List Counted) (k : Counted) (w : ℤ) → IsTaken old todo k
    → Settles ks todo live ks' todo' live' k → total_weight old live ≤ℤ w → total_weight todo' live' ≤ℤ w
settled_weight ks ks' old todo live todo' live' k w e s h = omega (arith, linear, s.weight_stays, e weight)

pub popped_room : (old todo live : List Counted) (k : Counted) → IsTaken old todo k → total_weight old live ≤ℤ pos (2 ^ 97) → IsRoomy (total_weight todo live +ℤ weight k)
popped_room old todo live k e h =
    let more : pos (2 ^ 97) ≤ℤ pos (2 ^ 120) = omega (arith, ints) in
    omega (arith, linear, e weight)

-- the segment that was taken from the worklist does not live
pub popped_absent : (given : List Edge) (ks : List EdgeSplit) (old todo live : List Counted) (k : Counted) → IsTaken old todo k
    → IsReachedBySplits given ks old live [] → times k.0 live ≡ pos 0
popped_absent given ks old todo live k e r =
    omega (
      arith,
      linear,
      r.count.once k.0,
      e (λ (j : Counted). bit (same_ends k.0 j.0)),
      ap bit (ends_self k.0),
      times_least k.0 todo,
      times_least k.0 live,
      bit_most (occurs k.0 (after ks given)),
    )

pub moved_less : (ks ks' : List EdgeSplit) (old todo live todo' live' : List Counted) (k : Counted) → IsTaken old todo k → Moves ks todo live ks' todo' live' k
    → unsigned_abs (work todo' live') < unsigned_abs (work old live)
moved_less ks ks' old todo live todo' live' k e s =
    below (work todo' live') (work old live) (work_least todo' live') (omega (arith, linear, s.work_falls, e waiting_work))
  where
    below : (a b : ℤ) → pos 0 ≤ℤ a → a <ℤ b → unsigned_abs a < unsigned_abs b
    below a b h k = omega (arith, ints)

pub settled_less : (ks ks' : List EdgeSplit) (old todo live todo' live' : List Counted) (k : Counted) → IsTaken old todo k → Settles ks todo live ks' todo' live' k
    → unsigned_abs (work todo' live') < unsigned_abs (work old live)
settled_less ks ks' old todo live todo' live' k e s = moved_less ks ks' old todo live todo' live' k e (moves_settled ks ks' todo live todo' live' k s)

pub start_reached : (given : List Edge) (ks : List EdgeSplit) → ks ≡ [] → (n : ℕ) (todo live : List Counted) → length given ≤ n → AreCountOf (take n given) todo live []
    → IsReachedBySplits given ks todo live []
start_reached given ks none n todo live h r =
    subst (λ (x : List EdgeSplit). IsReachedBySplits given x todo live []) (sym none)
    (record { legal = no_cut; count = subst (λ (x : List Edge). AreCountOf x todo live []) (take_all n given h) r })

pub more_weight : (i : ℕ) (a b w : ℤ) → b ≤ℤ (a +ℤ w) → w ≤ℤ pos (2 ^ 33) → a ≤ℤ pos (2 ^ 33 * i) → b ≤ℤ pos (2 ^ 33 * (i + 1))
more_weight i a b w h k l = omega (arith, ints, h, k, l)

pub most_weight : (i : ℕ) (a : ℤ) → 2 ^ 33 * i ≤ 2 ^ 97 → a ≤ℤ pos (2 ^ 33 * i) → a ≤ℤ pos (2 ^ 97)
most_weight i a h k = omega (arith, ints, k)

pub more_room : (i : ℕ) (a w : ℤ) → 2 ^ 33 * i + 2 ^ 33 ≤ 2 ^ 120 → w ≤ℤ pos (2 ^ 33) → a ≤ℤ pos (2 ^ 33 * i) → (a +ℤ w) ≤ℤ pos (2 ^ 120)
more_room i a w h k l = omega (arith, ints, k, l)
