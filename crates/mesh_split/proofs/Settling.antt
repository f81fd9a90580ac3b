-- Lemmas over points and lists: a segment in hand is made live, or it is split with a live one that it meets.
use Rattle.std.proofs.Common.{◌≡◌, ◌⊎◌, inl, inr, ⊎_elim, ℕ, ◌-◌, ◌*◌, ◌≤◌, Bool, true, false, cond, sym, ◌∙◌, ap, subst, refl, arith, List, [], ◌∷◌}
use Rattle.std.specs.Prelude.{ℤ, pos, ◌≤ℤ◌, ◌<ℤ◌}
use Rattle.std.proofs.lemmas.Bool.{both_ways, cases_Bool}
use Rattle.std.proofs.lemmas.Int.{ints}
use Rattle.mesh_plane.specs.Plane.{Point, Edge, turn}
use Rattle.mesh_plane.specs.Winding.{same_point}
use Rattle.mesh_plane.proofs.Whole.{linear}
use Rattle.mesh_lattice.specs.Split.{same_edge, same_ends, occurs, is_end, IsInBox, IsCrossing, Meets, at_start_of_second, at_end_of_second, at_start_of_first, at_end_of_first, at_crossing, EdgeSplit, split_by, after, add_split, IsLegal, split}
use Rattle.mesh_lattice.specs.Counted.{Counted, bit, times}
use Rattle.mesh_store.specs.Steps.{exactly, IsPut, IsTaken, Puts, PutsPieces, IsClearOf, AllClear, AreCountOf, IsReachedBySplits, Moves, Settles, split_at, extent, weight, waiting_work, live_work}
use Rattle.mesh_lattice.specs.Split.{AreClear}
use Rattle.mesh_lattice.proofs.Ends.{decides_edge, decides_end, ends_sym, not_ends}
use Rattle.mesh_lattice.proofs.Boxes.{meets_box, meets_once, crossing_swapped, turn_start}
use Rattle.mesh_store.proofs.Extents.{extent_least}
use Rattle.mesh_store.proofs.Stages.{IsHeld, held_is, bit_true, take_count, swap_count, keep_count, put_count, cut_count}
use Rattle.mesh_lattice.proofs.Counts.{bit_least, times_least, bit_none}
use Rattle.mesh_store.proofs.Filing.{positive_times, weight_pieces, work_pieces}

-- ---- segments that stay clear of each other

pub clear_swapped : (e f : Edge) → AreClear e f → AreClear f e
clear_swapped e f h c m = by m h
  where
    by : {e f : Edge} {c : Point} → Meets f e c → AreClear e f → ⊥
    by {e} {f} (at_start_of_second i) h = h e.0 (at_start_of_first i)
    by {e} {f} (at_end_of_second i) h = h e.1 (at_end_of_first i)
    by {e} {f} (at_start_of_first i) h = h f.0 (at_start_of_second i)
    by {e} {f} (at_end_of_first i) h = h f.1 (at_end_of_second i)
    by {e} {f} (at_crossing i) h = h _ (at_crossing (crossing_swapped f e i))

not_opposite : (s t : ℤ) → s ≡ pos 0 → ((pos 0 <ℤ s) × (t <ℤ pos 0)) ⊎ ((s <ℤ pos 0) × (pos 0 <ℤ t)) → ⊥
not_opposite s t z (inl h) = omega (arith, linear, h.0)
not_opposite s t z (inr h) = omega (arith, linear, h.0)

pub clear_self : (e : Edge) → AreClear e e
clear_self e c m = by m
  where
    start : (e : Edge) → is_end e.0 e ≡ true
    start e = (decides_end e.0 e).1 (inl refl)

    end : (e : Edge) → is_end e.1 e ≡ true
    end e = (decides_end e.1 e).1 (inr refl)

    by_both : (e f : Edge) → e ≡ f → IsCrossing e f → ⊥
    by_both e f p h = not_opposite (turn e.0 e.1 f.0) (turn e.0 e.1 f.1) (ap (λ (v : Edge). turn e.0 e.1 v.0) (sym p) ∙ turn_start e.0 e.1) h.second_parted

    by_all : {e f : Edge} {c : Point} → e ≡ f → Meets e f c → ⊥
    by_all {e} {f} p (at_start_of_second i) = both_ways _ (subst (λ (x : Edge). is_end x.0 e ≡ false) (sym p) i.no_end) (start e)
    by_all {e} {f} p (at_end_of_second i) = both_ways _ (subst (λ (x : Edge). is_end x.1 e ≡ false) (sym p) i.no_end) (end e)
    by_all {e} {f} p (at_start_of_first i) = both_ways _ (subst (λ (x : Edge). is_end e.0 x ≡ false) (sym p) i.no_end) (start e)
    by_all {e} {f} p (at_end_of_first i) = both_ways _ (subst (λ (x : Edge). is_end e.1 x ≡ false) (sym p) i.no_end) (end e)
    by_all {e} {f} p (at_crossing i) = by_both e f p i

    by : {c : Point} → Meets e e c → ⊥
    by m = by_all refl m

pub fewer_clear : (live live' : List Counted) → ((q : Edge) → exactly q live' ≤ℤ exactly q live) → AllClear live → AllClear live'
fewer_clear live live' fewer h = λ e some f other. h e (omega (arith, linear, fewer e)) f (omega (arith, linear, fewer f))

keep_clear : (live live' : List Counted) (k : Counted) → IsPut live live' k → IsClearOf k.0 live → AllClear live → AllClear live'
keep_clear live live' k put clear h = λ e some f other.
    ⊎_elim
    (λ (t : same_edge e k.0 ≡ true).
    ⊎_elim
    (λ (u : same_edge f k.0 ≡ true). subst (λ (x : Edge). AreClear x f) (sym ((decides_edge e k.0).0 t)) (subst (λ (x : Edge). AreClear k.0 x) (sym ((decides_edge f k.0).0 u)) (clear_self k.0)))
    (λ (n : same_edge f k.0 ≡ false). subst (λ (x : Edge). AreClear x f) (sym ((decides_edge e k.0).0 t)) (clear f (stood f n other)))
    (cases_Bool (same_edge f k.0)))
    (λ (n : same_edge e k.0 ≡ false).
    ⊎_elim
    (λ (u : same_edge f k.0 ≡ true). subst (λ (x : Edge). AreClear e x) (sym ((decides_edge f k.0).0 u)) (clear_swapped k.0 e (clear e (stood e n some))))
    (λ (m : same_edge f k.0 ≡ false). h e (stood e n some) f (stood f m other))
    (cases_Bool (same_edge f k.0)))
    (cases_Bool (same_edge e k.0))
  where
    stood : (q : Edge) → same_edge q k.0 ≡ false → pos 0 <ℤ exactly q live' → pos 0 <ℤ exactly q live
    stood q n some = omega (arith, linear, ap bit n, put (λ (j : Counted). bit (same_edge q j.0)))

taken_fewer : (live live' : List Counted) (k : Counted) → IsTaken live live' k → (q : Edge) → exactly q live' ≤ℤ exactly q live
taken_fewer live live' k t q = omega (arith, linear, t (λ (j : Counted). bit (same_edge q j.0)), bit_least (same_edge q k.0))

-- ---- the splits of one split

pub one_cut : (e f : Edge) (c : Point) (ks : List EdgeSplit) → is_end c e ≡ false → is_end c f ≡ true → add_split f c (add_split e c ks) ≡ (record { ends = e; at = c }) ∷ ks
one_cut e f c ks inner end =
    ap (λ (b : Bool). cond b (add_split e c ks) ((record { ends = f; at = c }) ∷ add_split e c ks)) end
    ∙ ap (λ (b : Bool). cond b ks ((record { ends = e; at = c }) ∷ ks)) inner

pub other_cut : (e f : Edge) (c : Point) (ks : List EdgeSplit) → is_end c e ≡ true → is_end c f ≡ false → add_split f c (add_split e c ks) ≡ (record { ends = f; at = c }) ∷ ks
other_cut e f c ks end inner =
    ap (λ (b : Bool). cond b (add_split e c ks) ((record { ends = f; at = c }) ∷ add_split e c ks)) inner
    ∙ ap (λ (b : Bool). (record { ends = f; at = c }) ∷ cond b ks ((record { ends = e; at = c }) ∷ ks)) end

pub both_cut : (e f : Edge) (c : Point) (ks : List EdgeSplit) → is_end c e ≡ false → is_end c f ≡ false
    → add_split f c (add_split e c ks) ≡ (record { ends = f; at = c }) ∷ (record { ends = e; at = c }) ∷ ks
both_cut e f c ks inner also =
    ap (λ (b : Bool). cond b (add_split e c ks) ((record { ends = f; at = c }) ∷ add_split e c ks)) also
    ∙ ap (λ (b : Bool). (record { ends = f; at = c }) ∷ cond b ks ((record { ends = e; at = c }) ∷ ks)) inner

-- a live segment stands in the edges
live_occurs : (es : List Edge) (todo live held : List Counted) (t : Edge) → AreCountOf es todo live held → pos 0 <ℤ exactly t live → occurs t es ≡ true
live_occurs es todo live held t r h =
    let some : pos 1 ≤ℤ bit (occurs t es) = omega (arith, linear, r.once t, positive_times t live h, times_least t todo, times_least t held) in
    bit_true (occurs t es) some

-- what is known where a segment in hand meets a live one
pub record IsMeeting (todo live : List Counted) (k : Counted) (t : Edge) (c : Point) : Type 0 where
  pub proper : same_point k.0.0 k.0.1 ≡ false
  pub meets : Meets k.0 t c
  pub lives : pos 0 <ℤ exactly t live

pub legal_split : (given : List Edge) (ks : List EdgeSplit) (todo live : List Counted) (k : Counted) (t : Edge) (c : Point) → IsMeeting todo live k t c
    → IsReachedBySplits given ks todo live (k ∷ []) → IsLegal given (add_split t c (add_split k.0 c ks))
legal_split given ks todo live k t c m r =
    let h = held_is (after ks given) todo live k [] m.proper r.count refl in
    split r.legal h.stands (live_occurs (after ks given) todo live (k ∷ []) t r.count m.lives) m.meets

-- ---- the ways to settle

-- the segment in hand becomes a live one, whatever it meets
pub moves_kept : (ks : List EdgeSplit) (todo live live' : List Counted) (k : Counted) → same_point k.0.0 k.0.1 ≡ false → IsPut live live' k → Moves ks todo live ks todo live' k
moves_kept ks todo live live' k proper put = record {
  reached = λ given r. record { legal = r.legal; count = keep_count (after ks given) todo live live' k [] put r.count };
  work_falls =
      let l : 1 ≤ extent k.0 = extent_least k.0 proper in
      let f : live_work k <ℤ waiting_work k = less (extent k.0) l in
      omega (arith, linear, put live_work);
  weight_stays = omega (arith, linear, put weight);
}
  where
    less : (n : ℕ) → 1 ≤ n → pos (4 * n - 3) <ℤ pos (4 * n - 2)
    less n h = omega (arith, ints)

pub moves_settled : (ks ks' : List EdgeSplit) (todo live todo' live' : List Counted) (k : Counted) → Settles ks todo live ks' todo' live' k → Moves ks todo live ks' todo' live' k
moves_settled ks ks' todo live todo' live' k s = record { reached = s.reached; work_falls = s.work_falls; weight_stays = s.weight_stays }

-- the segment in hand is clear of the live ones and becomes one
pub settles_kept : (ks : List EdgeSplit) (todo live live' : List Counted) (k : Counted) → same_point k.0.0 k.0.1 ≡ false → IsClearOf k.0 live → IsPut live live' k → Settles ks todo live ks todo live' k
settles_kept ks todo live live' k proper clear put =
    let m = moves_kept ks todo live live' k proper put in
    record { reached = m.reached; clear = keep_clear live live' k put clear; work_falls = m.work_falls; weight_stays = m.weight_stays }

-- a segment that lives has no more work than one that waits
live_no_more : (n : ℕ) → pos (4 * n - 3) ≤ℤ pos (4 * n - 2)
live_no_more n = omega (arith, ints)

-- the meeting point is an end of the live one: the segment in hand is cut
pub settles_first : (ks : List EdgeSplit) (todo live todo' live' : List Counted) (k : Counted) (t : Edge) (c : Point) → IsMeeting todo live k t c → is_end c t ≡ true
    → PutsPieces todo live todo' live' k c → Settles ks todo live (split_at k.0 c ∷ ks) todo' live' k
settles_first ks todo live todo' live' k t c m end p =
    let inner = meets_once m.meets end in
    let box = (meets_box m.meets).0 in
    record {
      reached = λ given r. record {
        legal = subst (IsLegal given) (one_cut k.0 t c ks inner end) (legal_split given ks todo live k t c m r);
        count = cut_count (after ks given) todo live todo' live' k c [] m.proper refl refl refl p r.count;
      };
      clear = fewer_clear live live' (λ q. omega (arith, linear, p.first.live_ends q, p.second.live_ends q));
      work_falls =
          let f : pos (4 * extent k.0 - 3) ≤ℤ waiting_work k = live_no_more (extent k.0) in
          omega (arith, linear, p.first.work_grows, p.second.work_grows, work_pieces k.0 c inner box);
      weight_stays = omega (arith, linear, p.first.weight_grows, p.second.weight_grows, weight_pieces k c inner box);
    }

-- the segment in hand and the one that was taken have different ends
apart_ends : (es : List Edge) (todo live live' : List Counted) (k j : Counted) → IsHeld es todo live k → IsTaken live live' j → same_ends k.0 j.0 ≡ false
apart_ends es todo live live' k j h t =
    let none : bit (same_ends k.0 j.0) ≡ pos 0 = omega (arith, linear, h.lives, t (λ (x : Counted). bit (same_ends k.0 x.0)), times_least k.0 live', bit_least (same_ends k.0 j.0)) in
    bit_none (same_ends k.0 j.0) none

pub alone : (e : Edge) (j : Counted) → same_ends e j.0 ≡ false → times e (j ∷ []) ≡ pos 0
alone e j h = omega (arith, linear, ap bit h)

-- the meeting point is an end of the segment in hand: that is put back, and the live one is cut
pub settles_second : (ks : List EdgeSplit) (todo live live1 todo2 live2 todo' live' : List Counted) (k j : Counted) (t : Edge) (c : Point) → IsMeeting todo live k t c
    → is_end c k.0 ≡ true → is_end c t ≡ false → same_point j.0.0 j.0.1 ≡ false → j.0 ≡ t → IsTaken live live1 j
    → Puts todo live1 todo2 live2 k → PutsPieces todo2 live2 todo' live' j c → Settles ks todo live (split_at j.0 c ∷ ks) todo' live' k
settles_second ks todo live live1 todo2 live2 todo' live' k j t c m end inner other same taken put p =
    let inside : is_end c j.0 ≡ false = ap (is_end c) same ∙ inner in
    let box = subst (λ (x : Edge). IsInBox x c) (sym same) (meets_box m.meets).1 in
    record {
      reached = λ given r.
          let h = held_is (after ks given) todo live k [] m.proper r.count refl in
          let apart = apart_ends (after ks given) todo live live1 k j h taken in
          let held = swap_count (after ks given) todo live1 j k [] (take_count (after ks given) todo live live1 j (k ∷ []) taken r.count) in
          let back = put_count (after ks given) todo live1 todo2 live2 k (j ∷ []) m.proper (alone k.0 j apart) put held in
          record {
            legal = subst (IsLegal given) (other_cut k.0 t c ks end inner ∙ ap (λ (x : Edge). (record { ends = x; at = c }) ∷ ks) (sym same)) (legal_split given ks todo live k t c m r);
            count = cut_count (after ks given) todo2 live2 todo' live' j c [] other refl refl refl p back;
          };
      clear = fewer_clear live live' (λ q. omega (arith, linear, p.first.live_ends q, p.second.live_ends q, put.live_ends q, taken_fewer live live1 j taken q));
      work_falls = omega (arith, linear, taken live_work, put.work_grows, p.first.work_grows, p.second.work_grows, work_pieces j.0 c inside box);
      weight_stays = omega (arith, linear, taken weight, put.weight_grows, p.first.weight_grows, p.second.weight_grows, weight_pieces j c inside box);
    }

-- the meeting point is an end of neither: both are cut
pub settles_both : (ks : List EdgeSplit) (todo live live1 todo2 live2 todo' live' : List Counted) (k j : Counted) (t : Edge) (c : Point) → IsMeeting todo live k t c
    → is_end c k.0 ≡ false → is_end c t ≡ false → same_point j.0.0 j.0.1 ≡ false → j.0 ≡ t → IsTaken live live1 j
    → PutsPieces todo live1 todo2 live2 k c → PutsPieces todo2 live2 todo' live' j c
    → Settles ks todo live (split_at j.0 c ∷ split_at k.0 c ∷ ks) todo' live' k
settles_both ks todo live live1 todo2 live2 todo' live' k j t c m outer inner other same taken first p =
    let inside : is_end c j.0 ≡ false = ap (is_end c) same ∙ inner in
    let boxes = meets_box m.meets in
    let box = subst (λ (x : Edge). IsInBox x c) (sym same) boxes.1 in
    record {
      reached = λ given r.
          let h = held_is (after ks given) todo live k [] m.proper r.count refl in
          let apart = apart_ends (after ks given) todo live live1 k j h taken in
          let held = swap_count (after ks given) todo live1 j k [] (take_count (after ks given) todo live live1 j (k ∷ []) taken r.count) in
          let start : same_ends (k.0.0, c) j.0 ≡ false = ends_sym (k.0.0, c) j.0 ∙ not_ends c j.0 (k.0.0, c) inside ((decides_end c (k.0.0, c)).1 (inr refl)) in
          let rest : same_ends (c, k.0.1) j.0 ≡ false = ends_sym (c, k.0.1) j.0 ∙ not_ends c j.0 (c, k.0.1) inside ((decides_end c (c, k.0.1)).1 (inl refl)) in
          let done = cut_count (after ks given) todo live1 todo2 live2 k c (j ∷ []) m.proper (alone (k.0.0, c) j start) (alone (c, k.0.1) j rest) (alone k.0 j apart) first held in
          record {
            legal = subst (IsLegal given) (both_cut k.0 t c ks outer inner ∙ ap (λ (x : Edge). (record { ends = x; at = c }) ∷ (record { ends = k.0; at = c }) ∷ ks) (sym same)) (legal_split given ks todo live k t c m r);
            count = cut_count (split_by (record { ends = k.0; at = c }) (after ks given)) todo2 live2 todo' live' j c [] other refl refl refl p done;
          };
      clear = fewer_clear live live' (λ q. omega (arith, linear, p.first.live_ends q, p.second.live_ends q, first.first.live_ends q, first.second.live_ends q, taken_fewer live live1 j taken q));
      work_falls =
          let f : pos (4 * extent k.0 - 3) ≤ℤ waiting_work k = live_no_more (extent k.0) in
          omega (arith, linear, taken live_work, first.first.work_grows, first.second.work_grows, p.first.work_grows, p.second.work_grows, work_pieces k.0 c outer boxes.0, work_pieces j.0 c inside box);
      weight_stays = omega (arith, linear, taken weight, first.first.weight_grows, first.second.weight_grows, p.first.weight_grows, p.second.weight_grows, weight_pieces k c outer boxes.0, weight_pieces j c inside box);
    }
