-- Lemmas over points and lists: the witnesses of pieces and the nearness of splits, split by split.
use Rattle.std.proofs.Common.{◌≡◌, ◌⊎◌, inl, inr, ⊎_elim, ℕ, ◌<◌, ◌≤◌, max, ◌+◌, Bool, true, false, cond, ◌&&◌, ◌||◌, not, sym, ◌∙◌, ap, subst, refl, arith, List, [], ◌∷◌, length, take, get_or}
use Rattle.std.specs.Prelude.{ℤ, pos, ◌<ℤ◌, map}
use Rattle.std.specs.List.{Contains}
use Rattle.std.proofs.lemmas.Bool.{both_ways, cases_Bool, cases_lt, or_cases, false≢true}
use Rattle.std.proofs.lemmas.List.{take_more, take_all, reverse-append}
use Rattle.std.proofs.lemmas.List.Elements.{Contains-append_left, Contains-append_right}
use Rattle.mesh_plane.specs.Plane.{Point, Edge, turn}
use Rattle.mesh_plane.proofs.Whole.{linear}
use Rattle.mesh_lattice.specs.Nearness.{IsNearTo, WitnessedSplit, AreSplitsNear, IsNearness}
use Rattle.mesh_lattice.specs.Split.{back, same_ends, occurs, is_end, IsInBox, IsCrossing, Meets, at_start_of_second, at_end_of_second, at_start_of_first, at_end_of_first, at_crossing, EdgeSplit, split_by, after, path, add_split, IsLegal, no_cut, split}
use Rattle.mesh_lattice.proofs.Boxes.{meets_box, turn_start, turn_end, start_box, end_box}
use Rattle.mesh_lattice.proofs.Ends.{decides_ends, decides_end, ends_self}
use Rattle.mesh_lattice.proofs.KeptBySplits.{box_trans}
use Rattle.mesh_lattice.proofs.Nearness.{near_more, near_start, near_end}
use Rattle.mesh_lattice.proofs.Splits.{occurs_cut}
use Rattle.mesh_store.specs.Steps.{split_at, latest_first}
use Rattle.mesh_store.specs.Witnesses.{witness_in, IsPieceOf, AreWitnessed, AreSplitsOf}

-- ---- legal splits are splits of segments that stand

-- two edges that meet do not have the same ends
meets_apart : {e f : Edge} {c : Point} → Meets e f c → same_ends f e ≡ true → ⊥
meets_apart {e} {f} m t = by m ((decides_ends f e).0 t)
  where
    first : (e f : Edge) → (f ≡ e) ⊎ (f ≡ back e) → is_end f.0 e ≡ true
    first e f (inl p) = (decides_end f.0 e).1 (inl (ap (λ (x : Edge). x.0) p))
    first e f (inr p) = (decides_end f.0 e).1 (inr (ap (λ (x : Edge). x.0) p))

    second : (e f : Edge) → (f ≡ e) ⊎ (f ≡ back e) → is_end f.1 e ≡ true
    second e f (inl p) = (decides_end f.1 e).1 (inr (ap (λ (x : Edge). x.1) p))
    second e f (inr p) = (decides_end f.1 e).1 (inl (ap (λ (x : Edge). x.1) p))

    turned : (e f : Edge) → (f ≡ e) ⊎ (f ≡ back e) → (e ≡ f) ⊎ (e ≡ back f)
    turned e f (inl p) = inl (sym p)
    turned e f (inr p) = inr (sym (ap back p))

    none : (e : Edge) (p : Point) → (p ≡ e.0) ⊎ (p ≡ e.1) → turn e.0 e.1 p ≡ pos 0
    none e p (inl h) = ap (turn e.0 e.1) h ∙ turn_start e.0 e.1
    none e p (inr h) = ap (turn e.0 e.1) h ∙ turn_end e.0 e.1

    above : (s t : ℤ) → s ≡ pos 0 → (pos 0 <ℤ s) × (t <ℤ pos 0) → ⊥
    above s t z h = omega (arith, linear, h.0)

    below : (s t : ℤ) → s ≡ pos 0 → (s <ℤ pos 0) × (pos 0 <ℤ t) → ⊥
    below s t z h = omega (arith, linear, h.0)

    crossed : (e f : Edge) → IsCrossing e f → turn e.0 e.1 f.0 ≡ pos 0 → ⊥
    crossed e f i z = ⊎_elim (above (turn e.0 e.1 f.0) (turn e.0 e.1 f.1) z) (below (turn e.0 e.1 f.0) (turn e.0 e.1 f.1) z) i.second_parted

    by : {e f : Edge} {c : Point} → Meets e f c → (f ≡ e) ⊎ (f ≡ back e) → ⊥
    by {e} {f} (at_start_of_second i) p = both_ways _ i.no_end (first e f p)
    by {e} {f} (at_end_of_second i) p = both_ways _ i.no_end (second e f p)
    by {e} {f} (at_start_of_first i) p = both_ways _ i.no_end (first f e (turned e f p))
    by {e} {f} (at_end_of_first i) p = both_ways _ i.no_end (second f e (turned e f p))
    by {e} {f} (at_crossing i) p = crossed e f i (none e f.0 ((decides_end f.0 e).0 (first e f p)))

-- a segment that is not split stands on
stays : (q s : Edge) (c : Point) (es : List Edge) → occurs q es ≡ true → same_ends q s ≡ false → occurs q (split_by (split_at s c) es) ≡ true
stays q s c es o n = occurs_cut q s c es ∙ by (occurs q es) (same_ends q s) (occurs s es && (same_ends q (s.0, c) || same_ends q (c, s.1))) o n
  where
    by : (a b x : Bool) → a ≡ true → b ≡ false → ((a && not b) || x) ≡ true
    by true false x o n = refl
    by true true x o n = absurd (false≢true (sym n))
    by false b x o n = absurd (false≢true o)

-- a piece of a segment that stands, stands after the split
pieced : (q s : Edge) (c : Point) (es : List Edge) → occurs s es ≡ true → (same_ends q (s.0, c) || same_ends q (c, s.1)) ≡ true → occurs q (split_by (split_at s c) es) ≡ true
pieced q s c es o p =
    occurs_cut q s c es ∙ by (occurs q es && not (same_ends q s)) (occurs s es) (same_ends q (s.0, c) || same_ends q (c, s.1)) o p
  where
    by : (x a b : Bool) → a ≡ true → b ≡ true → (x || (a && b)) ≡ true
    by true a b o p = refl
    by false true b o p = p
    by false false b o p = absurd (false≢true o)

add_splits : (given : List Edge) (e : Edge) (c : Point) (ks : List EdgeSplit) → AreSplitsOf given ks → IsInBox e c → (is_end c e ≡ false → occurs e (after ks given) ≡ true)
    → AreSplitsOf given (add_split e c ks)
add_splits given e c ks h box o = by (is_end c e) refl
  where
    by : (b : Bool) → is_end c e ≡ b → AreSplitsOf given (cond b ks (split_at e c ∷ ks))
    by true t = h
    by false n = (o n, box, h)

pub splits_of_legal : (given : List Edge) (ks : List EdgeSplit) → IsLegal given ks → AreSplitsOf given ks
splits_of_legal given ks legal = by legal
  where
    stands : (given : List Edge) (e f : Edge) (c : Point) (ks : List EdgeSplit) → Meets e f c → occurs f (after ks given) ≡ true → occurs f (after (add_split e c ks) given) ≡ true
    stands given e f c ks m o = on (is_end c e)
      where
        apart : same_ends f e ≡ false
        apart = ⊎_elim (λ (t : same_ends f e ≡ true). absurd (meets_apart m t)) (λ (n : same_ends f e ≡ false). n) (cases_Bool (same_ends f e))

        on : (b : Bool) → occurs f (after (cond b ks (split_at e c ∷ ks)) given) ≡ true
        on true = o
        on false = stays f e c (after ks given) o apart

    by : {given : List Edge} {ks : List EdgeSplit} → IsLegal given ks → AreSplitsOf given ks
    by no_cut = tt
    by (split {given} {ks} {e} {f} {c} l x y m) =
        let box = meets_box m in
        add_splits given f c (add_split e c ks) (add_splits given e c ks (by l) box.0 (λ n. x)) box.1 (λ n. stands given e f c ks m y)

-- ---- no split

pub none_witnessed : (given : List Edge) → AreWitnessed given [] (witness_in []) 0
none_witnessed given = record {
  witnessed = [];
  same = refl;
  near = tt;
  reached = λ l h. absurd (omega arith);
  pieces = λ e o. record {
    is_given = o;
    on_path = λ i. ends_self e i || false;
    start_near = near_start 0 e;
    end_near = near_end 0 e;
    start_in_box = start_box e;
    end_in_box = end_box e;
  };
}

-- ---- one more split

more_near : (given : List Edge) (k l : ℕ) (ts : List WitnessedSplit) → k ≤ l → AreSplitsNear given k ts → AreSplitsNear given l ts
more_near given k l [] h near = tt
more_near given k l (t ∷ ts) h near =
    let n = near.0 in (
      record {
        is_given = n.is_given;
        on_path = n.on_path;
        start = near_more k l 1 t.witness t.split.ends.0 h n.start;
        end = near_more k l 1 t.witness t.split.ends.1 h n.end;
        at = near_more k l 1 t.witness t.split.at h n.at;
      },
      more_near given k l ts h near.1,
    )

-- a split of a segment whose witness is known, and how far its point lies from that
pub record IsNextSplit (given : List Edge) (ks : List EdgeSplit) (witness s : Edge) (c : Point) (d : ℕ) : Type 0 where
  pub stands : occurs s (after ks given) ≡ true
  pub boxed : IsInBox s c
  pub near : IsInBox witness c → IsNearTo d 1 witness c
  pub least : (l : ℕ) → l < d → IsNearTo l 1 witness c → ⊥

-- what is known of the split segment and of its point
record IsSplitPiece (given : List Edge) (ks : List EdgeSplit) (k : ℕ) (w s : Edge) (c : Point) : Type 0 where
  piece : IsPieceOf given ks k w s
  near : IsNearTo k 1 w c
  boxed : IsInBox w c

-- a point near a witness and in its box
abbrev IsKnown : ℕ → Edge → Point → Type 0
IsKnown k w v = IsNearTo k 1 w v × IsInBox w v

-- a piece of the split segment, whichever way it runs
piece_of : (given : List Edge) (ks : List EdgeSplit) (k : ℕ) (w s : Edge) (c : Point) (q : Edge) → IsSplitPiece given ks k w s c
    → (same_ends q (s.0, c) || same_ends q (c, s.1)) ≡ true → IsPieceOf given (split_at s c ∷ ks) k w q
piece_of given ks k w s c q h p =
    ⊎_elim
    (λ (t : same_ends q (s.0, c) ≡ true). of_ends s.0 c (h.piece.start_near, h.piece.start_in_box) (h.near, h.boxed) t)
    (λ (t : same_ends q (c, s.1) ≡ true). of_ends c s.1 (h.near, h.boxed) (h.piece.end_near, h.piece.end_in_box) t)
    (or_cases (same_ends q (s.0, c)) (same_ends q (c, s.1)) p)
  where
    of_known : IsKnown k w q.0 → IsKnown k w q.1 → IsPieceOf given (split_at s c ∷ ks) k w q
    of_known a b = record {
      is_given = h.piece.is_given;
      on_path = pieced q s c (path ks w) h.piece.on_path p;
      start_near = a.0;
      end_near = b.0;
      start_in_box = a.1;
      end_in_box = b.1;
    }

    of_ends : (a b : Point) → IsKnown k w a → IsKnown k w b → same_ends q (a, b) ≡ true → IsPieceOf given (split_at s c ∷ ks) k w q
    of_ends a b x y t =
        ⊎_elim
        (λ (e : q ≡ (a, b)). of_known (subst (IsKnown k w) (sym (ap (λ (v : Edge). v.0) e)) x) (subst (IsKnown k w) (sym (ap (λ (v : Edge). v.1) e)) y))
        (λ (e : q ≡ (b, a)). of_known (subst (IsKnown k w) (sym (ap (λ (v : Edge). v.0) e)) y) (subst (IsKnown k w) (sym (ap (λ (v : Edge). v.1) e)) x))
        ((decides_ends q (a, b)).0 t)

-- a segment that is not split keeps its witness
kept_piece : (given : List Edge) (ks : List EdgeSplit) (k l : ℕ) (w s : Edge) (c : Point) (q : Edge) → k ≤ l → same_ends q s ≡ false → IsPieceOf given ks k w q
    → IsPieceOf given (split_at s c ∷ ks) l w q
kept_piece given ks k l w s c q less n h = record {
  is_given = h.is_given;
  on_path = stays q s c (path ks w) h.on_path n;
  start_near = near_more k l 1 w q.0 less h.start_near;
  end_near = near_more k l 1 w q.1 less h.end_near;
  start_in_box = h.start_in_box;
  end_in_box = h.end_in_box;
}

-- the segments after a split: its pieces, and those that stood and were not split
pieces_more : (given : List Edge) (ks : List EdgeSplit) (f g : Edge → Edge) (k l : ℕ) (s : Edge) (c : Point) → k ≤ l → IsSplitPiece given ks l (f s) s c
    → ((q : Edge) → g q ≡ cond (same_ends q (c, s.1)) (f s) (cond (same_ends q (s.0, c)) (f s) (f q)))
    → ((e : Edge) → occurs e (after ks given) ≡ true → IsPieceOf given ks k (f e) e)
    → (q : Edge) → occurs q (split_by (split_at s c) (after ks given)) ≡ true → IsPieceOf given (split_at s c ∷ ks) l (g q) q
pieces_more given ks f g k l s c less h noted before q o =
    subst (λ (w : Edge). IsPieceOf given (split_at s c ∷ ks) l w q) (sym (noted q))
    (by (same_ends q (s.0, c)) (same_ends q (c, s.1)) refl refl)
  where
    old : (a b : Bool) → same_ends q (s.0, c) ≡ a → same_ends q (c, s.1) ≡ b → (a || b) ≡ false → IsPieceOf given (split_at s c ∷ ks) l (f q) q
    old a b x y none =
        let stood = rest (occurs q (after ks given)) (same_ends q s) (occurs s (after ks given)) (same_ends q (s.0, c) || same_ends q (c, s.1)) ((λ i. x i || y i) ∙ none)
        (sym (occurs_cut q s c (after ks given)) ∙ o) in
        kept_piece given ks k l (f q) s c q less stood.1 (before q stood.0)
      where
        rest : (o n m p : Bool) → p ≡ false → ((o && not n) || (m && p)) ≡ true → (o ≡ true) × (n ≡ false)
        rest true false m p e h = (refl, refl)
        rest true true true true e h = absurd (false≢true (sym e))
        rest true true true false e h = absurd (false≢true h)
        rest true true false p e h = absurd (false≢true h)
        rest false n true true e h = absurd (false≢true (sym e))
        rest false n true false e h = absurd (false≢true h)
        rest false n false p e h = absurd (false≢true h)

    by : (a b : Bool) → same_ends q (s.0, c) ≡ a → same_ends q (c, s.1) ≡ b → IsPieceOf given (split_at s c ∷ ks) l (cond b (f s) (cond a (f s) (f q))) q
    by true true x y = piece_of given ks l (f s) s c q h (λ i. x i || y i)
    by true false x y = piece_of given ks l (f s) s c q h (λ i. x i || y i)
    by false true x y = piece_of given ks l (f s) s c q h (λ i. x i || y i)
    by false false x y = old false false x y refl

-- the split segment comes from its witness
next_piece : (given : List Edge) (ks : List EdgeSplit) (k l d : ℕ) (w s : Edge) (c : Point) → k ≤ l → d ≤ l → IsNextSplit given ks w s c d → IsPieceOf given ks k w s
    → IsSplitPiece given ks l w s c
next_piece given ks k l d w s c less also n h =
    let box = box_trans w s c h.start_in_box h.end_in_box n.boxed in
    record {
      piece = record {
        is_given = h.is_given;
        on_path = h.on_path;
        start_near = near_more k l 1 w s.0 less h.start_near;
        end_near = near_more k l 1 w s.1 less h.end_near;
        start_in_box = h.start_in_box;
        end_in_box = h.end_in_box;
      };
      near = near_more d l 1 w c also (n.near box);
      boxed = box;
    }

pub more_witnessed : (given : List Edge) (ks : List EdgeSplit) (f g : Edge → Edge) (k d : ℕ) (s : Edge) (c : Point) → IsNextSplit given ks (f s) s c d
    → ((q : Edge) → g q ≡ cond (same_ends q (c, s.1)) (f s) (cond (same_ends q (s.0, c)) (f s) (f q)))
    → AreWitnessed given ks f k → AreWitnessed given (split_at s c ∷ ks) g (max k d)
more_witnessed given ks f g k d s c n noted h =
    let less : k ≤ max k d = omega arith in
    let also : d ≤ max k d = omega arith in
    let own = next_piece given ks k (max k d) d (f s) s c less also n (h.pieces s n.stands) in
    record {
      witnessed = this ∷ h.witnessed;
      same = ap (λ (l : List EdgeSplit). split_at s c ∷ l) h.same;
      near = (
        record {
          is_given = own.piece.is_given;
          on_path = subst (λ (l : List EdgeSplit). occurs s (path l (f s)) ≡ true) (sym h.same) own.piece.on_path;
          start = own.piece.start_near;
          end = own.piece.end_near;
          at = own.near;
        },
        more_near given k (max k d) h.witnessed less h.near,
      );
      reached = λ l under.
          ⊎_elim
          (λ (past : l < k).
          let r = h.reached l past in
          record { split = r.split; listed = Contains-append_right (this ∷ []) h.witnessed r.split r.listed; farther = r.farther })
          (λ (rest : k ≤ l).
          let here : Contains (this ∷ []) this = (0, omega arith, refl) in
          let within : l < d = omega arith in
          record { split = this; listed = Contains-append_left (this ∷ []) h.witnessed this here; farther = n.least l within })
          (cases_lt l k);
      pieces = pieces_more given ks f g k (max k d) s c less own noted h.pieces;
    }
  where
    this : WitnessedSplit
    this = record { split = split_at s c; witness = f s }

-- ---- along a log

latest_more : (made : List (Edge × Point)) (i : ℕ) (d : Edge × Point) → i < length made
    → latest_first (take (i + 1) made) ≡ split_at (get_or made i d).0 (get_or made i d).1 ∷ latest_first (take i made)
latest_more made i d h =
    ap latest_first (take_more made i d h)
    ∙ ap (map (λ (s : Edge × Point). split_at s.0 s.1)) (reverse-append (take i made) (get_or made i d ∷ []))

-- what the program does with one split: it looks its witness up, and notes that of the two pieces
pub record NotesSplit (s : Edge) (c : Point) (old between new : List (Edge × Edge)) (w : Edge) (k d l : ℕ) : Type 0 where
  pub witness : w ≡ witness_in old s
  pub near : IsInBox w c → IsNearTo d 1 w c
  pub least : (l : ℕ) → l < d → IsNearTo l 1 w c → ⊥
  pub first : (q : Edge) → witness_in between q ≡ cond (same_ends q (s.0, c)) w (witness_in old q)
  pub second : (q : Edge) → witness_in new q ≡ cond (same_ends q (c, s.1)) w (witness_in between q)
  pub greatest : l ≡ max k d

one_noted : (given : List Edge) (ks : List EdgeSplit) (s : Edge) (c : Point) (old between new : List (Edge × Edge)) (w : Edge) (k d l : ℕ)
    → NotesSplit s c old between new w k d l → AreSplitsOf given (split_at s c ∷ ks) → AreWitnessed given ks (witness_in old) k
    → AreWitnessed given (split_at s c ∷ ks) (witness_in new) l
one_noted given ks s c old between new w k d l n made h =
    subst (λ (m : ℕ). AreWitnessed given (split_at s c ∷ ks) (witness_in new) m) (sym n.greatest)
    (more_witnessed given ks (witness_in old) (witness_in new) k d s c
    (record {
      stands = made.0;
      boxed = made.1;
      near = subst (λ (v : Edge). IsInBox v c → IsNearTo d 1 v c) n.witness n.near;
      least = subst (λ (v : Edge). (l : ℕ) → l < d → IsNearTo l 1 v c → ⊥) n.witness n.least;
    })
    (subst (λ (v : Edge). (q : Edge) → witness_in new q ≡ cond (same_ends q (c, s.1)) v (cond (same_ends q (s.0, c)) v (witness_in old q))) n.witness
    (λ q. n.second q ∙ ap (cond (same_ends q (c, s.1)) w) (n.first q)))
    h)

pub more_noted : (made : List (Edge × Point)) (i : ℕ) (e : Edge × Point) → i < length made → (old between new : List (Edge × Edge)) (w : Edge) (k d l : ℕ)
    → NotesSplit (get_or made i e).0 (get_or made i e).1 old between new w k d l
    → ((given : List Edge) → AreSplitsOf given (latest_first (take i made)) → AreWitnessed given (latest_first (take i made)) (witness_in old) k)
    → (given : List Edge) → AreSplitsOf given (latest_first (take (i + 1) made)) → AreWitnessed given (latest_first (take (i + 1) made)) (witness_in new) l
more_noted made i e less old between new w k d l n before given splits =
    let more = latest_more made i e less in
    let all = subst (AreSplitsOf given) more splits in
    subst (λ (ks : List EdgeSplit). AreWitnessed given ks (witness_in new) l) (sym more)
    (one_noted given (latest_first (take i made)) (get_or made i e).0 (get_or made i e).1 old between new w k d l n all (before given all.2))

-- the nearness of the splits of a log
pub log_nearness : (log : List EdgeSplit) (made : List (Edge × Point)) (i : ℕ) → latest_first made ≡ log → length made ≤ i → (noted : List (Edge × Edge)) (k : ℕ)
    → ((given : List Edge) → AreSplitsOf given (latest_first (take i made)) → AreWitnessed given (latest_first (take i made)) (witness_in noted) k)
    → (given : List Edge) → IsLegal given log → IsNearness given log k
log_nearness log made i same all noted k before given legal =
    let whole : latest_first (take i made) ≡ log = ap latest_first (take_all i made all) ∙ same in
    let h = before given (subst (AreSplitsOf given) (sym whole) (splits_of_legal given log legal)) in
    subst (λ (ks : List EdgeSplit). IsNearness given ks k) whole (record { witnessed = h.witnessed; same = h.same; near = h.near; reached = h.reached })
