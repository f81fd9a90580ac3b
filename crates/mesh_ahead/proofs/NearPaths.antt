-- Lemmas over edges and splits: the nearness of splits, by the paths that they have made of edges.
use Rattle.std.proofs.Common.{◌≡◌, ◌⊎◌, inl, inr, ⊎_elim, ℕ, zero, suc, ◌<◌, Bool, true, false, ◌&&◌, ◌||◌, not, List, [], ◌∷◌, length, get_or, refl, sym, ◌∙◌, ap, subst, arith}
use Rattle.std.specs.List.{Contains}
use Rattle.std.proofs.lemmas.Bool.{cases_Bool, false≢true, or_cases, or_left, or_right}
use Rattle.std.proofs.lemmas.List.Elements.{Contains-append_right}
use Rattle.mesh_plane.specs.Plane.{Point, Edge}
use Rattle.mesh_lattice.specs.Nearness.{IsNearTo, WitnessedSplit, splits_of, AreSplitsNear, IsNearness}
use Rattle.mesh_lattice.specs.Split.{back, is_end, occurs, same_ends, split_by, after, path, EdgeSplit, IsLegal}
use Rattle.mesh_lattice.proofs.Ends.{decides_ends, decides_end, ends_self, ends_turned}
use Rattle.mesh_lattice.proofs.Keys.{occurs_back}
use Rattle.mesh_lattice.proofs.Nearness.{near_start, near_end}
use Rattle.mesh_lattice.proofs.Splits.{occurs_cut}
use Rattle.mesh_split.proofs.Tracking.{splits_of_legal}
use Rattle.mesh_ahead.proofs.Origins.{origin, stands_at}

-- ---- a split of a path

-- what is not split stays
stays : (s : EdgeSplit) (q : Edge) (es : List Edge) → occurs q es ≡ true → same_ends q s.ends ≡ false → occurs q (split_by s es) ≡ true
stays s q es o n =
    occurs_cut q s.ends s.at es
    ∙ or_left (occurs q es && not (same_ends q s.ends)) (occurs s.ends es && (same_ends q (s.ends.0, s.at) || same_ends q (s.at, s.ends.1)))
    ((λ i. o i && not (n i)))

piece_stands : (s : EdgeSplit) (q : Edge) (es : List Edge) → occurs s.ends es ≡ true → (same_ends q (s.ends.0, s.at) || same_ends q (s.at, s.ends.1)) ≡ true
    → occurs q (split_by s es) ≡ true
piece_stands s q es o p =
    occurs_cut q s.ends s.at es
    ∙ or_right (occurs q es && not (same_ends q s.ends)) (occurs s.ends es && (same_ends q (s.ends.0, s.at) || same_ends q (s.at, s.ends.1)))
    (λ i. o i && p i)

-- from the start of the split segment to where it is split
first_stands : (s : EdgeSplit) (es : List Edge) → occurs s.ends es ≡ true → occurs (s.ends.0, s.at) (split_by s es) ≡ true
first_stands s es o =
    piece_stands s (s.ends.0, s.at) es o
    (or_left (same_ends (s.ends.0, s.at) (s.ends.0, s.at)) (same_ends (s.ends.0, s.at) (s.at, s.ends.1)) (ends_self (s.ends.0, s.at)))

-- from its end
last_stands : (s : EdgeSplit) (es : List Edge) → occurs s.ends es ≡ true → occurs (s.ends.1, s.at) (split_by s es) ≡ true
last_stands s es o =
    piece_stands s (s.ends.1, s.at) es o
    (or_right (same_ends (s.ends.1, s.at) (s.ends.0, s.at)) (same_ends (s.ends.1, s.at) (s.at, s.ends.1))
    (ends_turned (s.ends.1, s.at) (s.ends.1, s.at) ∙ ends_self (s.ends.1, s.at)))

-- where the split segment starts or ends, a piece of it does
same_stands : (s : EdgeSplit) (q : Edge) (es : List Edge) → occurs s.ends es ≡ true → same_ends q s.ends ≡ true → occurs (q.0, s.at) (split_by s es) ≡ true
same_stands s q es o t =
    ⊎_elim
    (λ (p : q ≡ s.ends). subst (λ (x : Point). occurs (x, s.at) (split_by s es) ≡ true) (sym (ap (λ (e : Edge). e.0) p)) (first_stands s es o))
    (λ (p : q ≡ back s.ends). subst (λ (x : Point). occurs (x, s.at) (split_by s es) ≡ true) (sym (ap (λ (e : Edge). e.0) p)) (last_stands s es o))
    ((decides_ends q s.ends).0 t)

same_occurs : (s : EdgeSplit) (q : Edge) (es : List Edge) → occurs q es ≡ true → same_ends q s.ends ≡ true → occurs s.ends es ≡ true
same_occurs s q es o t =
    ⊎_elim
    (λ (p : q ≡ s.ends). subst (λ (x : Edge). occurs x es ≡ true) p o)
    (λ (p : q ≡ back s.ends). sym (occurs_back s.ends es) ∙ subst (λ (x : Edge). occurs x es ≡ true) p o)
    ((decides_ends q s.ends).0 t)

-- ---- paths near their edges

-- all segments of the path of an edge start near it, either way about, so they end near it too
abbrev IsPathNear : ℕ → List EdgeSplit → Edge → Type 0
IsPathNear k splits e = (q : Edge) → occurs q (path splits e) ≡ true → IsNearTo k 1 e q.0

-- those of the edges of a list
abbrev pub ArePathsNear : ℕ → List Edge → Edge → List EdgeSplit → Type 0
ArePathsNear k given d splits = (i : ℕ) → i < length given → IsPathNear k splits (get_or given i d)

earlier_near : (k : ℕ) (given : List Edge) (d : Edge) (s : EdgeSplit) (splits : List EdgeSplit) → ArePathsNear k given d (s ∷ splits) → ArePathsNear k given d splits
earlier_near k given d s splits near i l q o =
    ⊎_elim
    (λ (t : same_ends q s.ends ≡ true). near i l (q.0, s.at) (same_stands s q (path splits (get_or given i d)) (same_occurs s q (path splits (get_or given i d)) o t) t))
    (λ (n : same_ends q s.ends ≡ false). near i l q (stays s q (path splits (get_or given i d)) o n))
    (cases_Bool (same_ends q s.ends))

-- ---- witnesses

-- splits with witnesses, all near
record AreWitnessed (given : List Edge) (splits : List EdgeSplit) (k : ℕ) : Type 0 where
  witnessed : List WitnessedSplit
  same : splits_of witnessed ≡ splits
  near : AreSplitsNear given k witnessed

-- the latest split, of a segment of an edge's path
more_witnessed : (given : List Edge) (d : Edge) (k : ℕ) (s : EdgeSplit) (splits : List EdgeSplit) (i : ℕ) → i < length given
    → occurs s.ends (path splits (get_or given i d)) ≡ true → ArePathsNear k given d (s ∷ splits) → AreWitnessed given splits k → AreWitnessed given (s ∷ splits) k
more_witnessed given d k s splits i l o near before = record {
  witnessed = this ∷ before.witnessed;
  same = ap (λ (ss : List EdgeSplit). s ∷ ss) before.same;
  near = (
    record {
      is_given = stands_at given i d l;
      on_path = subst (λ (ss : List EdgeSplit). occurs s.ends (path ss (get_or given i d)) ≡ true) (sym before.same) o;
      start = near i l (s.ends.0, s.at) (first_stands s (path splits (get_or given i d)) o);
      end = near i l (s.ends.1, s.at) (last_stands s (path splits (get_or given i d)) o);
      at = near i l (s.at, s.ends.0)
          (sym (occurs_back (s.at, s.ends.0) (path (s ∷ splits) (get_or given i d))) ∙ first_stands s (path splits (get_or given i d)) o);
    },
    before.near,
  );
}
  where
    this : WitnessedSplit
    this = record { split = s; witness = get_or given i d }

-- each split is one of a segment that stands
abbrev AreStanding : List Edge → List EdgeSplit → Type 0
AreStanding given [] = Unit {0}
AreStanding given (s ∷ splits) = (occurs s.ends (after splits given) ≡ true) × AreStanding given splits

standing : (given : List Edge) (splits : List EdgeSplit) → IsLegal given splits → AreStanding given splits
standing given splits legal = each _ (λ ks l. splits_of_legal given ks l) splits legal (λ s ss h. (h.0, h.2))
  where
    each : (P : List EdgeSplit → Type 0) → ((ks : List EdgeSplit) → IsLegal given ks → P ks) → (ks : List EdgeSplit) → IsLegal given ks
        → ((s : EdgeSplit) (ss : List EdgeSplit) → P (s ∷ ss) → (occurs s.ends (after ss given) ≡ true) × P ss) → AreStanding given ks
    each P of_legal ks legal step = by ks (of_legal ks legal)
      where
        by : (ks : List EdgeSplit) → P ks → AreStanding given ks
        by [] h = tt
        by (s ∷ ks) h = let r = step s ks h in (r.0, by ks r.1)

all_witnessed : (given : List Edge) (d : Edge) (k : ℕ) (splits : List EdgeSplit) → AreStanding given splits → ArePathsNear k given d splits → AreWitnessed given splits k
all_witnessed given d k [] h near = record { witnessed = []; same = refl; near = tt }
all_witnessed given d k (s ∷ splits) h near =
    let r = origin splits given d s.ends h.0 in
    more_witnessed given d k s splits r.place r.within r.on_path near (all_witnessed given d k splits h.1 (earlier_near k given d s splits near))

-- ---- a split whose witness is the edge of a path

-- one of the splits with witnesses is made of a segment of this edge's path, at this point
record IsMadeAt (given : List Edge) (splits : List EdgeSplit) (k : ℕ) (e : Edge) (p : Point) : Type 0 where
  all : AreWitnessed given splits k
  split : WitnessedSplit
  listed : Contains all.witnessed split
  its_witness : split.witness ≡ e
  its_point : split.split.at ≡ p

-- a segment of a path starts at this point
record StartsAt (splits : List EdgeSplit) (e : Edge) (p : Point) : Type 0 where
  segment : Edge
  on_path : occurs segment (path splits e) ≡ true
  starts : segment.0 ≡ p

-- a segment of a path after a split stood before, or ends where the split was made
started : (s : EdgeSplit) (splits : List EdgeSplit) (e : Edge) (p : Point) → StartsAt (s ∷ splits) e p
    → StartsAt splits e p ⊎ ((occurs s.ends (path splits e) ≡ true) × (s.at ≡ p))
started s splits e p h =
    ⊎_elim
    (λ (t : (occurs h.segment (path splits e) && not (same_ends h.segment s.ends)) ≡ true).
    inl (record { segment = h.segment; on_path = first_of (occurs h.segment (path splits e)) (not (same_ends h.segment s.ends)) t; starts = h.starts }))
    (λ (t : (occurs s.ends (path splits e) && (same_ends h.segment (s.ends.0, s.at) || same_ends h.segment (s.at, s.ends.1))) ≡ true).
    let stood = first_of (occurs s.ends (path splits e)) (same_ends h.segment (s.ends.0, s.at) || same_ends h.segment (s.at, s.ends.1)) t in
    let piece = second_of (occurs s.ends (path splits e)) (same_ends h.segment (s.ends.0, s.at) || same_ends h.segment (s.at, s.ends.1)) t in
    ⊎_elim
    (λ (m : h.segment.0 ≡ s.at). inr (stood, sym m ∙ h.starts))
    (⊎_elim
    (λ (m : h.segment.0 ≡ s.ends.0). inl (record { segment = s.ends; on_path = stood; starts = sym m ∙ h.starts }))
    (λ (m : h.segment.0 ≡ s.ends.1). inl (record { segment = back s.ends; on_path = occurs_back s.ends (path splits e) ∙ stood; starts = sym m ∙ h.starts })))
    (of_piece h.segment piece))
    (or_cases _ _ (sym (occurs_cut h.segment s.ends s.at (path splits e)) ∙ h.on_path))
  where
    first_of : (a b : Bool) → (a && b) ≡ true → a ≡ true
    first_of true b t = refl
    first_of false b t = t

    second_of : (a b : Bool) → (a && b) ≡ true → b ≡ true
    second_of true b t = t
    second_of false b t = absurd (false≢true t)

    of_ends : (q : Edge) (a b : Point) → same_ends q (a, b) ≡ true → (q.0 ≡ a) ⊎ (q.0 ≡ b)
    of_ends q a b t = ⊎_elim (λ (m : q ≡ (a, b)). inl (ap (λ (x : Edge). x.0) m)) (λ (m : q ≡ (b, a)). inr (ap (λ (x : Edge). x.0) m)) ((decides_ends q (a, b)).0 t)

    of_piece : (q : Edge) → (same_ends q (s.ends.0, s.at) || same_ends q (s.at, s.ends.1)) ≡ true → (q.0 ≡ s.at) ⊎ ((q.0 ≡ s.ends.0) ⊎ (q.0 ≡ s.ends.1))
    of_piece q t =
        ⊎_elim
        (λ (u : same_ends q (s.ends.0, s.at) ≡ true). ⊎_elim (λ (m : q.0 ≡ s.ends.0). inr (inl m)) (λ (m : q.0 ≡ s.at). inl m) (of_ends q s.ends.0 s.at u))
        (λ (u : same_ends q (s.at, s.ends.1) ≡ true). ⊎_elim (λ (m : q.0 ≡ s.at). inl m) (λ (m : q.0 ≡ s.ends.1). inr (inr m)) (of_ends q s.at s.ends.1 u))
        (or_cases (same_ends q (s.ends.0, s.at)) (same_ends q (s.at, s.ends.1)) t)

one_witnessed : (given : List Edge) (d : Edge) (k : ℕ) (i : ℕ) (p : Point) → i < length given → is_end p (get_or given i d) ≡ false → (splits : List EdgeSplit)
    → AreStanding given splits → ArePathsNear k given d splits → StartsAt splits (get_or given i d) p → IsMadeAt given splits k (get_or given i d) p
unfolding more_witnessed
one_witnessed given d k i p l inner [] h near starts = absurd (false≢true (sym inner ∙ end_of starts.segment starts.starts starts.on_path))
  where
    end_of : (q : Edge) → q.0 ≡ p → (same_ends q (get_or given i d) || false) ≡ true → is_end p (get_or given i d) ≡ true
    end_of q m t =
        ⊎_elim
        (λ (u : same_ends q (get_or given i d) ≡ true).
        (decides_end p (get_or given i d)).1
        (⊎_elim (λ (n : q ≡ get_or given i d). inl (sym m ∙ ap (λ (x : Edge). x.0) n)) (λ (n : q ≡ back (get_or given i d)). inr (sym m ∙ ap (λ (x : Edge). x.0) n))
        ((decides_ends q (get_or given i d)).0 u)))
        (λ (u : false ≡ true). absurd (false≢true u))
        (or_cases (same_ends q (get_or given i d)) false t)
one_witnessed given d k i p l inner (s ∷ splits) h near starts =
    ⊎_elim
    (λ (before : StartsAt splits (get_or given i d) p).
    let r = origin splits given d s.ends h.0 in
    let found = one_witnessed given d k i p l inner splits h.1 (earlier_near k given d s splits near) before in
    record {
      all = more_witnessed given d k s splits r.place r.within r.on_path near found.all;
      split = found.split;
      listed = later _ found.all.witnessed found.split found.listed;
      its_witness = found.its_witness;
      its_point = found.its_point;
    })
    (λ (now : (occurs s.ends (path splits (get_or given i d)) ≡ true) × (s.at ≡ p)).
    record {
      all = more_witnessed given d k s splits i l now.0 near (all_witnessed given d k splits h.1 (earlier_near k given d s splits near));
      split = record { split = s; witness = get_or given i d };
      listed = (0, omega arith, refl);
      its_witness = refl;
      its_point = now.1;
    })
    (started s splits (get_or given i d) p starts)
  where
    later : (t : WitnessedSplit) (ts : List WitnessedSplit) (u : WitnessedSplit) → Contains ts u → Contains (t ∷ ts) u
    later t ts u c = Contains-append_right (t ∷ []) ts u c

-- ---- the nearness

-- a segment of a path starts farther than any less from its edge
pub record IsReachedAt (k : ℕ) (given : List Edge) (d : Edge) (splits : List EdgeSplit) : Type 0 where
  pub place : ℕ
  pub within : place < length given
  pub segment : Edge
  pub on_path : occurs segment (path splits (get_or given place d)) ≡ true
  pub least : (l : ℕ) → l < k → IsNearTo l 1 (get_or given place d) segment.0 → ⊥

-- where all paths are near, and one is not nearer, that is the nearness of the splits
pub nearness_of : (given : List Edge) (d : Edge) (k : ℕ) (splits : List EdgeSplit) → IsLegal given splits → ArePathsNear k given d splits
    → (0 < k → IsReachedAt k given d splits) → IsNearness given splits k
nearness_of given d zero splits legal near reached =
    let all = all_witnessed given d 0 splits (standing given splits legal) near in
    record { witnessed = all.witnessed; same = all.same; near = all.near; reached = λ l h. absurd (omega arith) }
nearness_of given d (suc k) splits legal near reached = record {
  witnessed = made.all.witnessed;
  same = made.all.same;
  near = made.all.near;
  reached = λ l h. record {
    split = made.split;
    listed = made.listed;
    farther = λ close. at.least l h (subst (λ (x : Edge). IsNearTo l 1 x at.segment.0) made.its_witness (subst (IsNearTo l 1 made.split.witness) made.its_point close));
  };
}
  where
    at : IsReachedAt (suc k) given d splits
    at = reached (omega arith)

    no_end : is_end at.segment.0 (get_or given at.place d) ≡ false
    no_end =
        ⊎_elim
        (λ (t : is_end at.segment.0 (get_or given at.place d) ≡ true).
        absurd (at.least 0 (omega arith)
        (⊎_elim
        (λ (m : at.segment.0 ≡ (get_or given at.place d).0). subst (IsNearTo 0 1 (get_or given at.place d)) (sym m) (near_start 0 (get_or given at.place d)))
        (λ (m : at.segment.0 ≡ (get_or given at.place d).1). subst (IsNearTo 0 1 (get_or given at.place d)) (sym m) (near_end 0 (get_or given at.place d)))
        ((decides_end at.segment.0 (get_or given at.place d)).0 t))))
        (λ (f : is_end at.segment.0 (get_or given at.place d) ≡ false). f)
        (cases_Bool (is_end at.segment.0 (get_or given at.place d)))

    made : IsMadeAt given splits (suc k) (get_or given at.place d) at.segment.0
    made =
        one_witnessed given d (suc k) at.place at.segment.0 at.within no_end splits (standing given splits legal) near
        (record { segment = at.segment; on_path = at.on_path; starts = refl })
