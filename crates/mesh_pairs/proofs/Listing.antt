-- Lemmas over lists of pairs that grow.
use Rattle.std.proofs.Common.{◌≡◌, ◌≢◌, ℕ, ◌+◌, ◌<◌, ◌≤◌, ◌⊎◌, inl, inr, cond, eqb, ◌||◌, List, [], ◌∷◌, ◌++◌, length, get_or, set, replicate, sym, ◌∙◌, ap, subst, arith, get_or-set_other, get_or-set_same}
use Rattle.std.specs.List.{All, count_by}
use Rattle.std.proofs.Math.ListN.{length-set}
use Rattle.std.proofs.lemmas.Bool.Decides.{nat_tests}
use Rattle.std.proofs.lemmas.List.{get_or_default, get_or-replicate, length-replicate}
use Rattle.std.proofs.lemmas.List.Elements.{All-nil, All-push}
use Rattle.std.proofs.lemmas.List.Sums.{count_by-le-length, fold_push}
use Rattle.mesh_points.specs.declared.edges.NumberedEdge.{NumberedEdge}
use Rattle.mesh_pairs.specs.declared.pairs.Meeting.{Meeting}
use Rattle.mesh_pairs.specs.declared.pairs.Pairs.{Pairs}
use Rattle.mesh_pairs.specs.Pairs.{AreListed, IsClose, IsMeeting, IsSettled, is_meeting, is_close, stay_clear, share_end, names}
use Rattle.mesh_pairs.specs.Private.Growth.{Grows}

pub grows_itself : (p : Pairs) → Grows p p
grows_itself p = record { meetings = λ m h. h; close = λ c h. h }

pub grows_all : (p q r : Pairs) → Grows p q → Grows q r → Grows p r
grows_all p q r g h = record { meetings = λ m k. h.meetings m (g.meetings m k); close = λ c k. h.close c (g.close c k) }

pub settled_kept : (es : List NumberedEdge) (p q : Pairs) (i j : ℕ) → Grows p q → IsSettled es p.meetings.items p.close.items i j → IsSettled es q.meetings.items q.close.items i j
settled_kept es p q i j g (is_meeting {m} listed of) = is_meeting (g.meetings m listed) of
settled_kept es p q i j g (is_close listed) = is_close (g.close (i, j) listed)
settled_kept es p q i j g (stay_clear clear) = stay_clear clear
settled_kept es p q i j g (share_end shared clear) = share_end shared clear

-- ---- one meeting more

-- 1 for one of two numbers, 0 for any other
abbrev one_of : ℕ → ℕ → ℕ → ℕ
one_of a b k = cond (eqb a k || eqb b k) 1 0

named : (a b k : ℕ) → (a ≡ k) ⊎ (b ≡ k) → one_of a b k ≡ 1
named a b k (inl h) = grind (arith, nat_tests)
named a b k (inr h) = grind (arith, nat_tests)

unnamed : (a b k : ℕ) → a ≢ k → b ≢ k → one_of a b k ≡ 0
unnamed a b k h l = grind (arith, nat_tests)

same_or_not : (i j : ℕ) → (i ≡ j) ⊎ (i ≢ j)
same_or_not i j = grind arith

-- the rooms after a meeting of two places, as the code writes them
abbrev pub raised : List ℕ → ℕ → ℕ → List ℕ
raised rooms a b = set (set rooms a (get_or rooms a 0 + 1)) b (get_or (set rooms a (get_or rooms a 0 + 1)) b 0 + 1)

raised_at : (rooms : List ℕ) (a b k : ℕ) → a < length rooms → b < length rooms → a ≢ b → (b ≡ k) ⊎ (b ≢ k) → (a ≡ k) ⊎ (a ≢ k)
    → get_or (raised rooms a b) k 0 ≡ get_or rooms k 0 + one_of a b k
raised_at rooms a b k within_a within_b two (inl h) _ =
    let once : List ℕ = set rooms a (get_or rooms a 0 + 1) in
    let other : b ≢ a = λ e. two (sym e) in
    let at : get_or (raised rooms a b) b 0 ≡ get_or once b 0 + 1 = get_or-set_same once b (get_or once b 0 + 1) 0 (omega (arith, length-set rooms a (get_or rooms a 0 + 1))) in
    let was : get_or once b 0 ≡ get_or rooms b 0 = get_or-set_other rooms a b (get_or rooms a 0 + 1) 0 other in
    ap (λ (n : ℕ). get_or (raised rooms a b) n 0) (sym h) ∙ omega (arith, at, was, named a b k (inr h), ap (λ (n : ℕ). get_or rooms n 0) h)
raised_at rooms a b k within_a within_b two (inr n) (inl h) =
    let once : List ℕ = set rooms a (get_or rooms a 0 + 1) in
    let other : k ≢ b = λ e. n (sym e) in
    let at : get_or once a 0 ≡ get_or rooms a 0 + 1 = get_or-set_same rooms a (get_or rooms a 0 + 1) 0 within_a in
    get_or-set_other once b k (get_or once b 0 + 1) 0 other
    ∙ omega (arith, at, named a b k (inl h), ap (λ (n : ℕ). get_or rooms n 0) h, ap (λ (n : ℕ). get_or once n 0) h)
raised_at rooms a b k within_a within_b two (inr n) (inr m) =
    let once : List ℕ = set rooms a (get_or rooms a 0 + 1) in
    get_or-set_other once b k (get_or once b 0 + 1) 0 (λ e. n (sym e))
    ∙ (get_or-set_other rooms a k (get_or rooms a 0 + 1) 0 (λ e. m (sym e)) ∙ omega (arith, unnamed a b k m n))

-- what noting a meeting leaves
pub record IsNoted (old new : Pairs) (m : Meeting) : Type 0 where
  pub meetings : new.meetings.items ≡ old.meetings.items ++ m ∷ []
  pub close : new.close ≡ old.close
  pub room : new.room.items ≡ raised old.room.items m.first m.second

pub noted_listed : (es : List NumberedEdge) (old new : Pairs) (m : Meeting) → IsNoted old new m → AreListed es old → IsMeeting es m → AreListed es new
noted_listed es old new m h listed is = record {
  meetings = subst (All (IsMeeting es)) (sym h.meetings) (All-push (IsMeeting es) old.meetings.items m listed.meetings is);
  close = subst (All (IsClose es)) (sym (ap (λ v. v.items) h.close)) listed.close;
  rooms = ap length h.room ∙ (length-set once m.second (get_or once m.second 0 + 1) ∙ (length-set old.room.items m.first (get_or old.room.items m.first 0 + 1) ∙ listed.rooms));
  room = λ k l.
      ap (λ (xs : List ℕ). get_or xs k 0) h.room
      ∙ (raised_at old.room.items m.first m.second k (omega (arith, listed.rooms, is.first)) (omega (arith, listed.rooms, is.second)) is.two (same_or_not m.second k) (same_or_not m.first k)
      ∙ (ap (λ (n : ℕ). n + cond (names k m) 1 0) (listed.room k l)
      ∙ omega (arith, ap (λ (ms : List Meeting). count_by (names k) ms) h.meetings, fold_push (λ (a : ℕ) (x : Meeting). a + cond (names k x) 1 0) 0 old.meetings.items m)));
}
  where
    once : List ℕ
    once = set old.room.items m.first (get_or old.room.items m.first 0 + 1)

pub rooms_low : (es : List NumberedEdge) (p : Pairs) → AreListed es p → All (λ (n : ℕ). n ≤ 2 + length p.meetings.items) p.room.items
rooms_low es p listed k d h =
    let at : get_or p.room.items k d ≡ get_or p.room.items k 0 = get_or_default p.room.items k d 0 h in
    omega (arith, at, listed.room k (omega (arith, listed.rooms)), count_by-le-length (names k) p.meetings.items)

-- ---- one close pair more

pub record IsClosed (old new : Pairs) (c : ℕ × ℕ) : Type 0 where
  pub meetings : new.meetings ≡ old.meetings
  pub close : new.close.items ≡ old.close.items ++ c ∷ []
  pub room : new.room ≡ old.room

pub closed_listed : (es : List NumberedEdge) (old new : Pairs) (c : ℕ × ℕ) → IsClosed old new c → AreListed es old → IsClose es c → AreListed es new
closed_listed es old new c h listed is = record {
  meetings = subst (All (IsMeeting es)) (sym (ap (λ v. v.items) h.meetings)) listed.meetings;
  close = subst (All (IsClose es)) (sym h.close) (All-push (IsClose es) old.close.items c listed.close is);
  rooms = ap (λ v. length v.items) h.room ∙ listed.rooms;
  room = λ k l. ap (λ v. get_or v.items k 0) h.room ∙ (listed.room k l ∙ sym (ap (λ v. 2 + count_by (names k) v.items) h.meetings));
}

-- ---- no pair

pub none_listed : (es : List NumberedEdge) (p : Pairs) → p.meetings.items ≡ [] → p.close.items ≡ [] → p.room.items ≡ replicate (length es) 2 → AreListed es p
none_listed es p meetings close room = record {
  meetings = subst (All (IsMeeting es)) (sym meetings) (All-nil (IsMeeting es));
  close = subst (All (IsClose es)) (sym close) (All-nil (IsClose es));
  rooms = ap length room ∙ length-replicate (length es) 2;
  room = λ k h. ap (λ (xs : List ℕ). get_or xs k 0) room ∙ (get_or-replicate (length es) k 2 0 h ∙ sym (ap (λ (ms : List Meeting). 2 + count_by (names k) ms) meetings));
}
