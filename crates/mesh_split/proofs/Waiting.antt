-- Lemmas over points and lists: two waiting segments that meet are split.
use Rattle.std.proofs.Common.{◌≡◌, ◌⊎◌, inl, inr, ⊎_elim, Bool, true, false, sym, ◌∙◌, ap, subst, refl, arith, List, [], ◌∷◌, ◌++◌, ℕ, zero, suc, ◌<◌, get_or, cond}
use Rattle.std.specs.Prelude.{pos, ◌+ℤ◌, ◌≤ℤ◌, ◌<ℤ◌, ◌^◌}
use Rattle.std.proofs.lemmas.Bool.{cases_Bool}
use Rattle.std.proofs.lemmas.Int.{ints}
use Rattle.mesh_plane.specs.Plane.{Point, Edge}
use Rattle.mesh_plane.specs.Winding.{same_point}
use Rattle.mesh_plane.proofs.Whole.{linear}
use Rattle.mesh_lattice.specs.Split.{back, same_edge, same_ends, is_end, IsInBox, Meets, EdgeSplit, split_by, after, IsLegal}
use Rattle.mesh_lattice.specs.Counted.{Counted, bit, IsRoomy}
use Rattle.mesh_lattice.proofs.Boxes.{meets_box, meets_once}
use Rattle.mesh_lattice.proofs.Counts.{bit_least, times_least, bit_none}
use Rattle.mesh_lattice.proofs.Ends.{decides_edge, decides_end, ends_sym, not_ends}
use Rattle.mesh_store.specs.Cells.{StandsIn}
use Rattle.mesh_split.specs.Growth.{Grows, Waits, pieces_of}
use Rattle.mesh_store.specs.Witnesses.{forward}
use Rattle.mesh_store.specs.Steps.{exactly, IsTaken, IsRaised, IsNew, Puts, PutsPieces, IsReachedBySplits, IsForward, IsPile, split_at, weight, total_weight}
use Rattle.mesh_store.proofs.Filing.{weight_pieces}
use Rattle.mesh_store.proofs.Listing.{listed_more}
use Rattle.mesh_split.proofs.Settling.{legal_split, one_cut, other_cut, both_cut, alone}
use Rattle.mesh_store.proofs.Stages.{IsHeld, held_is, pop_count, swap_count, put_count, cut_count}

-- ---- the state with waiting and live segments exchanged

mirrored : (given : List Edge) (ks : List EdgeSplit) (todo live held : List Counted) → IsReachedBySplits given ks todo live held → IsReachedBySplits given ks live todo held
mirrored given ks todo live held r = record {
  legal = r.legal;
  count = record { counts = λ q. omega (arith, linear, r.count.counts q); once = λ q. omega (arith, linear, r.count.once q) };
}

-- what is known where two waiting segments meet, of which one was taken
pub record AreMeeting (old todo : List Counted) (k : Counted) (t : Edge) (c : Point) : Type 0 where
  pub taken : IsTaken old todo k
  pub proper : same_point k.0.0 k.0.1 ≡ false
  pub meets : Meets k.0 t c
  pub waits : pos 0 <ℤ exactly t todo

legal_waiting : (given : List Edge) (ks : List EdgeSplit) (old todo live : List Counted) (k : Counted) (t : Edge) (c : Point) → AreMeeting old todo k t c
    → IsReachedBySplits given ks old live [] → IsReachedBySplits given ks todo live (k ∷ [])
legal_waiting given ks old todo live k t c m r = record { legal = r.legal; count = pop_count (after ks given) old todo live k [] m.taken r.count }

held_apart : (es : List Edge) (todo todo2 live : List Counted) (k j : Counted) → IsHeld es todo live k → IsTaken todo todo2 j → same_ends k.0 j.0 ≡ false
held_apart es todo todo2 live k j h t =
    let none : bit (same_ends k.0 j.0) ≡ pos 0 = omega (arith, linear, h.waits, t (λ (x : Counted). bit (same_ends k.0 x.0)), times_least k.0 todo2, bit_least (same_ends k.0 j.0)) in
    bit_none (same_ends k.0 j.0) none

-- the meeting point is an end of the other one: the first is cut
pub waiting_first : (given : List Edge) (ks : List EdgeSplit) (old todo live todo' live' : List Counted) (k : Counted) (t : Edge) (c : Point) → AreMeeting old todo k t c
    → is_end c t ≡ true → PutsPieces todo live todo' live' k c → IsPile given ks old live → IsPile given (split_at k.0 c ∷ ks) todo' live'
waiting_first given ks old todo live todo' live' k t c m end p pile =
    let inner = meets_once m.meets end in
    let box = (meets_box m.meets).0 in
    let r = legal_waiting given ks old todo live k t c m pile.reached in
    let l = legal_split given ks live todo k t c (record { proper = m.proper; meets = m.meets; lives = m.waits }) (mirrored given ks todo live (k ∷ []) r) in
    record {
      reached = record {
        legal = subst (IsLegal given) (one_cut k.0 t c ks inner end) l;
        count = cut_count (after ks given) todo live todo' live' k c [] m.proper refl refl refl p r.count;
      };
      light = omega (arith, linear, pile.light, m.taken weight, p.first.weight_grows, p.second.weight_grows, weight_pieces k c inner box);
    }

-- the meeting point is an end of the first one: that is put back, and the other is cut
pub waiting_second : (given : List Edge) (ks : List EdgeSplit) (old todo live todo1 todo2 live2 todo' live' : List Counted) (k j : Counted) (t : Edge) (c : Point) → AreMeeting old todo k t c
    → is_end c k.0 ≡ true → is_end c t ≡ false → same_point j.0.0 j.0.1 ≡ false → j.0 ≡ t → IsTaken todo todo1 j
    → Puts todo1 live todo2 live2 k → PutsPieces todo2 live2 todo' live' j c → IsPile given ks old live → IsPile given (split_at j.0 c ∷ ks) todo' live'
waiting_second given ks old todo live todo1 todo2 live2 todo' live' k j t c m end inner other same taken put p pile =
    let inside : is_end c j.0 ≡ false = ap (is_end c) same ∙ inner in
    let box = subst (λ (x : Edge). IsInBox x c) (sym same) (meets_box m.meets).1 in
    let r = legal_waiting given ks old todo live k t c m pile.reached in
    let l = legal_split given ks live todo k t c (record { proper = m.proper; meets = m.meets; lives = m.waits }) (mirrored given ks todo live (k ∷ []) r) in
    let h = held_is (after ks given) todo live k [] m.proper r.count refl in
    let apart = held_apart (after ks given) todo todo1 live k j h taken in
    let held = swap_count (after ks given) todo1 live j k [] (pop_count (after ks given) todo todo1 live j (k ∷ []) taken r.count) in
    let back = put_count (after ks given) todo1 live todo2 live2 k (j ∷ []) m.proper (alone k.0 j apart) put held in
    record {
      reached = record {
        legal = subst (IsLegal given) (other_cut k.0 t c ks end inner ∙ ap (λ (x : Edge). (record { ends = x; at = c }) ∷ ks) (sym same)) l;
        count = cut_count (after ks given) todo2 live2 todo' live' j c [] other refl refl refl p back;
      };
      light = omega (arith, linear, pile.light, m.taken weight, taken weight, put.weight_grows, p.first.weight_grows, p.second.weight_grows, weight_pieces j c inside box);
    }

-- the meeting point is an end of neither: both are cut
pub waiting_both : (given : List Edge) (ks : List EdgeSplit) (old todo live todo1 todo2 live2 todo' live' : List Counted) (k j : Counted) (t : Edge) (c : Point) → AreMeeting old todo k t c
    → is_end c k.0 ≡ false → is_end c t ≡ false → same_point j.0.0 j.0.1 ≡ false → j.0 ≡ t → IsTaken todo todo1 j
    → PutsPieces todo1 live todo2 live2 k c → PutsPieces todo2 live2 todo' live' j c → IsPile given ks old live → IsPile given (split_at j.0 c ∷ split_at k.0 c ∷ ks) todo' live'
waiting_both given ks old todo live todo1 todo2 live2 todo' live' k j t c m outer inner other same taken first p pile =
    let inside : is_end c j.0 ≡ false = ap (is_end c) same ∙ inner in
    let boxes = meets_box m.meets in
    let box = subst (λ (x : Edge). IsInBox x c) (sym same) boxes.1 in
    let r = legal_waiting given ks old todo live k t c m pile.reached in
    let l = legal_split given ks live todo k t c (record { proper = m.proper; meets = m.meets; lives = m.waits }) (mirrored given ks todo live (k ∷ []) r) in
    let h = held_is (after ks given) todo live k [] m.proper r.count refl in
    let apart = held_apart (after ks given) todo todo1 live k j h taken in
    let held = swap_count (after ks given) todo1 live j k [] (pop_count (after ks given) todo todo1 live j (k ∷ []) taken r.count) in
    let start : same_ends (k.0.0, c) j.0 ≡ false = ends_sym (k.0.0, c) j.0 ∙ not_ends c j.0 (k.0.0, c) inside ((decides_end c (k.0.0, c)).1 (inr refl)) in
    let rest : same_ends (c, k.0.1) j.0 ≡ false = ends_sym (c, k.0.1) j.0 ∙ not_ends c j.0 (c, k.0.1) inside ((decides_end c (c, k.0.1)).1 (inl refl)) in
    let done = cut_count (after ks given) todo1 live todo2 live2 k c (j ∷ []) m.proper (alone (k.0.0, c) j start) (alone (c, k.0.1) j rest) (alone k.0 j apart) first held in
    record {
      reached = record {
        legal = subst (IsLegal given) (both_cut k.0 t c ks outer inner ∙ ap (λ (x : Edge). (record { ends = x; at = c }) ∷ (record { ends = k.0; at = c }) ∷ ks) (sym same)) l;
        count = cut_count (split_by (record { ends = k.0; at = c }) (after ks given)) todo2 live2 todo' live' j c [] other refl refl refl p done;
      };
      light = omega (arith, linear, pile.light, m.taken weight, taken weight, first.first.weight_grows, first.second.weight_grows, p.first.weight_grows, p.second.weight_grows, weight_pieces k c outer boxes.0, weight_pieces j c inside box);
    }

-- ---- room

pub room_waiting_both : (old todo live todo1 todo2 live2 : List Counted) (k j : Counted) (c : Point) → IsTaken old todo k → IsTaken todo todo1 j → is_end c k.0 ≡ false → IsInBox k.0 c
    → PutsPieces todo1 live todo2 live2 k c → total_weight old live ≤ℤ pos (2 ^ 97) → IsRoomy (total_weight todo2 live2 +ℤ weight j)
room_waiting_both old todo live todo1 todo2 live2 k j c t u inner box p h =
    let more : pos (2 ^ 97) ≤ℤ pos (2 ^ 120) = omega (arith, ints) in
    omega (arith, linear, t weight, u weight, p.first.weight_grows, p.second.weight_grows, weight_pieces k c inner box)

pub room_waiting_back : (old todo live todo1 todo2 live2 : List Counted) (k j : Counted) → IsTaken old todo k → IsTaken todo todo1 j
    → Puts todo1 live todo2 live2 k → total_weight old live ≤ℤ pos (2 ^ 97) → IsRoomy (total_weight todo2 live2 +ℤ weight j)
room_waiting_back old todo live todo1 todo2 live2 k j t u p h =
    let more : pos (2 ^ 97) ≤ℤ pos (2 ^ 120) = omega (arith, ints) in
    omega (arith, linear, t weight, u weight, p.weight_grows)

-- both were taken: there is room for the first
pub room_waiting_taken : (old todo live todo1 : List Counted) (k j : Counted) → IsTaken old todo k → IsTaken todo todo1 j → pos 0 ≤ℤ weight j
    → total_weight old live ≤ℤ pos (2 ^ 97) → IsRoomy (total_weight todo1 live +ℤ weight k)
room_waiting_taken old todo live todo1 k j t u some h =
    let more : pos (2 ^ 97) ≤ℤ pos (2 ^ 120) = omega (arith, ints) in
    omega (arith, linear, t weight, u weight)

-- ---- no segment lives

pub still_none : (live : List Counted) → ((q : Edge) → exactly q live ≡ pos 0) → live ≡ []
still_none [] h = refl
still_none (k ∷ ks) h =
    let one : bit (same_edge k.0 k.0) ≡ pos 1 = ap bit ((decides_edge k.0 k.0).1 refl) in
    absurd (omega (arith, linear, h k.0, one, exactly_least k.0 ks))
  where
    exactly_least : (e : Edge) (ks : List Counted) → pos 0 ≤ℤ exactly e ks
    exactly_least e [] = omega (arith, ints)
    exactly_least e (k ∷ ks) = omega (arith, linear, exactly_least e ks, bit_least (same_edge e k.0))

-- ---- which segments wait

pub listed_behind : {A : Type 0} (x : A) (xs ys : List A) → StandsIn x ys → StandsIn x (xs ++ ys)
listed_behind x [] ys l = l
listed_behind x (z ∷ xs) ys l =
    let m = listed_behind x xs ys l in
    record { at = suc m.at; within = omega (arith, m.within); same = λ d. m.same d }

pub grows_both : (a b c : List Counted) (es fs : List Edge) → Grows a b es → Grows b c fs → Grows a c (es ++ fs)
grows_both a b c es fs first second q h =
    ⊎_elim
    (λ (k : pos 0 <ℤ exactly q b). ⊎_elim (λ (l : pos 0 <ℤ exactly q a). inl l) (λ (l : StandsIn q es). inr (listed_more q es fs l)) (first q k))
    (λ (l : StandsIn q fs). inr (listed_behind q es fs l))
    (second q h)

pub grows_taken : (old todo : List Counted) (k : Counted) → IsTaken old todo k → Grows old todo []
grows_taken old todo k t q h = inl (omega (arith, linear, t (λ (j : Counted). bit (same_edge q j.0)), bit_least (same_edge q k.0)))

pub grows_raised : (old todo : List Counted) (k : Counted) → IsRaised old todo k ⊎ IsNew old todo k → Grows old todo (k.0 ∷ [])
grows_raised old todo k (inl r) q h = inl (omega (arith, linear, r.totals (λ (j : Counted). bit (same_edge q j.0))))
grows_raised old todo k (inr n) q h =
    ⊎_elim
    (λ (t : same_edge q k.0 ≡ true). inr (record { at = 0; within = omega arith; same = λ d. sym ((decides_edge q k.0).0 t) }))
    (λ (f : same_edge q k.0 ≡ false). inl (omega (arith, linear, n.totals (λ (j : Counted). bit (same_edge q j.0)), ap bit f)))
    (cases_Bool (same_edge q k.0))

-- the first of two was split
pub grows_first : (old todo todo' : List Counted) (k : Counted) (e : Edge) (m : Edge × Point) → IsTaken old todo k → k.0 ≡ e
    → Grows todo todo' (forward (k.0.0, m.1) ∷ forward (m.1, k.0.1) ∷ []) → Grows old todo' (pieces_of e m)
grows_first old todo todo' k e m t same g x h =
    let pieces = subst (λ (f : Edge). Grows todo todo' (forward (f.0, m.1) ∷ forward (m.1, f.1) ∷ [])) same g in
    ⊎_elim
    (λ (l : Waits x old). inl l)
    (λ (l : StandsIn x (forward (e.0, m.1) ∷ forward (m.1, e.1) ∷ [])).
    inr (listed_more x (forward (e.0, m.1) ∷ forward (m.1, e.1) ∷ []) (forward (m.0.0, m.1) ∷ forward (m.1, m.0.1) ∷ []) l))
    (grows_both old todo todo' [] (forward (e.0, m.1) ∷ forward (m.1, e.1) ∷ []) (grows_taken old todo k t) pieces x h)

-- the first was put back, and the other was split
pub grows_second : (old todo todo1 todo2 todo' : List Counted) (k j : Counted) (e : Edge) (m : Edge × Point) → IsTaken old todo k → IsTaken todo todo1 j → k.0 ≡ e → j.0 ≡ m.0
    → Waits e old → IsForward k.0 → Grows todo1 todo2 (forward k.0 ∷ []) → Grows todo2 todo' (forward (j.0.0, m.1) ∷ forward (m.1, j.0.1) ∷ []) → Grows old todo' (pieces_of e m)
grows_second old todo todo1 todo2 todo' k j e m t u same also waited ahead again g x h =
    let pieces = subst (λ (f : Edge). Grows todo2 todo' (forward (f.0, m.1) ∷ forward (m.1, f.1) ∷ [])) also g in
    ⊎_elim
    (λ (l : Waits x todo2).
    ⊎_elim
    (λ (n : Waits x old). inl n)
    (λ (n : StandsIn x (forward k.0 ∷ [])). inl (subst (λ (y : Edge). Waits y old) (sym (only x (forward k.0) n ∙ forward_same k.0 ahead ∙ same)) waited))
    (grows_both old todo todo2 [] (forward k.0 ∷ []) (grows_taken old todo k t) (grows_both todo todo1 todo2 [] (forward k.0 ∷ []) (grows_taken todo todo1 j u) again) x l))
    (λ (l : StandsIn x (forward (m.0.0, m.1) ∷ forward (m.1, m.0.1) ∷ [])).
    inr (listed_behind x (forward (e.0, m.1) ∷ forward (m.1, e.1) ∷ []) (forward (m.0.0, m.1) ∷ forward (m.1, m.0.1) ∷ []) l))
    (pieces x h)
  where
    only : (x y : Edge) → StandsIn x (y ∷ []) → x ≡ y
    only x y l = one l.at l.within (l.same y)
      where
        one : (k : ℕ) → k < 1 → get_or (y ∷ []) k y ≡ x → x ≡ y
        one zero h s = sym s
        one (suc k) h s = absurd (omega (arith, h))

    forward_same : (f : Edge) → IsForward f → forward f ≡ f
    forward_same f h = ap (λ (b : Bool). cond b f (back f)) h

-- both were split
pub grows_pair : (old todo todo1 todo2 todo' : List Counted) (k j : Counted) (e : Edge) (m : Edge × Point) → IsTaken old todo k → IsTaken todo todo1 j → k.0 ≡ e → j.0 ≡ m.0
    → Grows todo1 todo2 (forward (k.0.0, m.1) ∷ forward (m.1, k.0.1) ∷ []) → Grows todo2 todo' (forward (j.0.0, m.1) ∷ forward (m.1, j.0.1) ∷ []) → Grows old todo' (pieces_of e m)
grows_pair old todo todo1 todo2 todo' k j e m t u same also first second =
    let one = subst (λ (f : Edge). Grows todo1 todo2 (forward (f.0, m.1) ∷ forward (m.1, f.1) ∷ [])) same first in
    let two = subst (λ (f : Edge). Grows todo2 todo' (forward (f.0, m.1) ∷ forward (m.1, f.1) ∷ [])) also second in
    let taken = grows_both old todo todo1 [] [] (grows_taken old todo k t) (grows_taken todo todo1 j u) in
    let cut = grows_both old todo1 todo2 [] (forward (e.0, m.1) ∷ forward (m.1, e.1) ∷ []) taken one in
    grows_both old todo2 todo' (forward (e.0, m.1) ∷ forward (m.1, e.1) ∷ []) (forward (m.0.0, m.1) ∷ forward (m.1, m.0.1) ∷ []) cut two

-- ---- no segment lives still

pub none_put : (todo live todo' live' : List Counted) (k : Counted) → live ≡ [] → Puts todo live todo' live' k → live' ≡ []
none_put todo live todo' live' k none p = still_none live' (λ q. p.live_ends q ∙ ap (λ (ks : List Counted). exactly q ks) none)

pub none_split : (todo live todo' live' : List Counted) (k : Counted) (c : Point) → live ≡ [] → PutsPieces todo live todo' live' k c → live' ≡ []
none_split todo live todo' live' k c none p =
    none_put p.between p.beside todo' live' _ (none_put todo live p.between p.beside _ none p.first) p.second
