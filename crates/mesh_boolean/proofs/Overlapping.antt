-- Lemmas over zones: pairs of zones are resolved, one after another.
use Rattle.std.proofs.Common.{◌≡◌, ◌≢◌, ◌==◌, inl, inr, ℕ, ◌+◌, ◌*◌, ◌<◌, ◌≤◌, true, false, List, [], ◌∷◌, ◌++◌, map, length, get_or, take, take_all, refl, sym, ap, ◌∙◌, subst, arith}
use Rattle.std.specs.List.{All, AllPairs, Contains}
use Rattle.std.specs.declared.vec.Vec.{Vec}
use Rattle.std.specs.declared.alloc.Global.{Global}
use Rattle.std.proofs.lemmas.Bool.{eqb-true, true≢false}
use Rattle.std.proofs.Math.Nat.{add-mul, mul-le-mul_right}
use Rattle.std.proofs.lemmas.List.{get_or-map, get_or-take, get_or_default, length-map, length-take, map-append, take_more}
use Rattle.std.proofs.lemmas.List.Elements.{All-contains, All-nil, All-push, All-weaker, Contains-append_left, Contains-push, Contains-push_cases}
use Rattle.std.proofs.lemmas.List.Quantifiers.{all_pairs_push}
use Rattle.std.proofs.lemmas.Map.Keys.{sorted_from_strictly_increasing}
use Rattle.std.proofs.lemmas.Map.Views.{length-le_from_below}
use Rattle.mesh_plane.specs.Plane.{Point, Edge}
use Rattle.mesh_num.specs.Paths.{shapes_of}
use Rattle.mesh_lattice.specs.Reach.{ArePointsSafe}
use Rattle.mesh_lattice.specs.declared.fill.FillRule.TheVariants.{Positive}
use Rattle.mesh_shapes.specs.Resolution.{Choices}
use Rattle.mesh_split.specs.declared.count.SplitCount.{SplitCount}
use Rattle.mesh_offset.specs.Counting.{CountsAttempts}
use Rattle.mesh_offset.proofs.Counting.{counts_fewer, counts_more, counts_weaker}
use Rattle.mesh_boolean.specs.Booleans.{both_edges}
use Rattle.mesh_boolean.specs.Overlaps.{AreCommonRegions, AreOverlaps, IsListed, IsOverlap, IsOverlapBefore, IsPairBefore, IsPairDrawing, Overlap, overlap_of, overlaps_of, pair_edges}
use Rattle.mesh_boolean.specs.Private.Meeting.{AreMeetingPairs, IsPairOf}
use Rattle.mesh_boolean.specs.Private.PairsSoFar.{AddsOverlap, AreOverlapsOf, IsListedUnlessEmpty}
use Rattle.mesh_boolean.specs.declared.overlaps.ZoneOverlap.{ZoneOverlap}
use Rattle.mesh_boolean.proofs.Meeting.{zone_at, zones_in}

-- ---- pairs resolved

module _ (unit : ℕ) (Has : ℕ → ℕ → List (List (List Point)) → Type 0) where
  abbrev IsOf : List (ℕ × ℕ) → Overlap → Type 0
  IsOf pairs o = Contains pairs (o.0, o.1.0) × (o.1.1 ≢ []) × Has o.0 o.1.0 o.1.1

  pub none_resolved : (found : List Overlap) → found ≡ [] → AreOverlapsOf unit Has [] found
  none_resolved found none = rw none (record {
    each = All-nil (IsOf []);
    safe = All-nil (λ (o : Overlap). ArePointsSafe unit o.1.1);
    ordered = λ i j d less low. absurd (omega arith);
    others = λ p listed. absurd (omega (arith, listed.1));
  })

  listed_more : (found : List Overlap) (o : Overlap) (i j : ℕ) → IsListed found i j → IsListed (found ++ o ∷ []) i j
  listed_more found o i j h = (h.0, Contains-append_left found (o ∷ []) (i, (j, h.0)) h.1)

  each_more : (pairs : List (ℕ × ℕ)) (pair : ℕ × ℕ) (found : List Overlap) → All (IsOf pairs) found → All (IsOf (pairs ++ pair ∷ [])) found
  each_more pairs pair found h =
      All-weaker (IsOf pairs) (IsOf (pairs ++ pair ∷ [])) (λ o is. (Contains-append_left pairs (pair ∷ []) (o.0, o.1.0) is.0, is.1, is.2)) found h

  module _ (pairs : List (ℕ × ℕ)) (pair : ℕ × ℕ) (old : List Overlap) (before : All (λ (q : ℕ × ℕ). IsPairBefore q.0 q.1 pair.0 pair.1) pairs) (h : AreOverlapsOf unit Has pairs old) where
    -- a pair of which nothing is left
    one_empty : Has pair.0 pair.1 [] → AreOverlapsOf unit Has (pairs ++ pair ∷ []) old
    one_empty has = record {
      each = each_more pairs pair old h.each;
      safe = h.safe;
      ordered = h.ordered;
      others = λ p listed.
          elim (Contains-push_cases pairs pair p listed) [
            | inl earlier ↦ h.others p earlier
            | inr same ↦ inr (subst (λ (q : ℕ × ℕ). Has q.0 q.1 []) same has)
          ];
    }

    -- a pair that is listed
    one_listed : (answer : List (List (List Point))) → answer ≢ [] → Has pair.0 pair.1 answer → ArePointsSafe unit answer →
        AreOverlapsOf unit Has (pairs ++ pair ∷ []) (old ++ (pair.0, (pair.1, answer)) ∷ [])
    one_listed answer some has safe =
        let o : Overlap = (pair.0, (pair.1, answer)) in
        record {
          each = All-push (IsOf (pairs ++ pair ∷ [])) old o (each_more pairs pair old h.each) (Contains-push pairs pair, some, has);
          safe = All-push (λ (o : Overlap). ArePointsSafe unit o.1.1) old o h.safe safe;
          ordered =
              all_pairs_push IsOverlapBefore old o h.ordered
              (λ k d within. All-contains (λ (q : ℕ × ℕ). IsPairBefore q.0 q.1 pair.0 pair.1) pairs ((get_or old k d).0, (get_or old k d).1.0) before (h.each k d within).0);
          others = λ p listed.
              elim (Contains-push_cases pairs pair p listed) [
                | inl earlier ↦ elim (h.others p earlier) [ inl l ↦ inl (listed_more old o p.0 p.1 l) | inr none ↦ inr none ]
                | inr same ↦ inl (subst (λ (q : ℕ × ℕ). IsListed (old ++ o ∷ []) q.0 q.1) same (answer, Contains-push old o))
              ];
        }

    one_resolved : (new : List Overlap) → AddsOverlap unit (Has pair.0 pair.1) pair old new → AreOverlapsOf unit Has (pairs ++ pair ∷ []) new
    one_resolved new adds = by adds.added
      where
        by : IsListedUnlessEmpty pair adds.answer old new → AreOverlapsOf unit Has (pairs ++ pair ∷ []) new
        by (inl none) = rw none.1 (one_empty (subst (Has pair.0 pair.1) none.0 adds.has))
        by (inr some) = rw some.1 (one_listed adds.answer some.0 adds.has adds.safe)

  module _ (pairs : List (ℕ × ℕ)) (ordered : AllPairs (λ (p q : ℕ × ℕ). IsPairBefore p.0 p.1 q.0 q.1) pairs) where
    pub next_resolved : (i : ℕ) (old new : List Overlap) → i < length pairs → AreOverlapsOf unit Has (take i pairs) old →
        AddsOverlap unit (Has (get_or pairs i (0, 0)).0 (get_or pairs i (0, 0)).1) (get_or pairs i (0, 0)) old new → AreOverlapsOf unit Has (take (i + 1) pairs) new
    next_resolved i old new low h adds =
        let pair : ℕ × ℕ = get_or pairs i (0, 0) in
        let before : All (λ (q : ℕ × ℕ). IsPairBefore q.0 q.1 pair.0 pair.1) (take i pairs) = λ k d within.
        let len = length-take i pairs in
        let less : k < i = omega arith in
        let here : get_or pairs i d ≡ pair = get_or_default pairs i d (0, 0) low in
        subst (λ (x : (ℕ × ℕ) × (ℕ × ℕ)). IsPairBefore x.0.0 x.0.1 x.1.0 x.1.1) (λ j. (sym (get_or-take i pairs k d less) j, here j)) (ordered k i d less low) in
        rw (take_more pairs i (0, 0) low) (one_resolved (take i pairs) pair old before h new adds)

    pub all_resolved : (i : ℕ) (found : List Overlap) → length pairs ≤ i → AreOverlapsOf unit Has (take i pairs) found → AreOverlapsOf unit Has pairs found
    all_resolved i found past h = rw (take_all i pairs past) at h

-- ---- all pairs

module _ (unit : ℕ) (zones : List (List (List (List Point)))) (choices : Choices) (pairs : List (ℕ × ℕ)) (found : List Overlap) (meet : AreMeetingPairs zones pairs) where
  pub all_overlaps : AreOverlapsOf unit (AreCommonRegions zones choices) pairs found → AreOverlaps zones choices found
  all_overlaps h = record {
    each =
        All-weaker (IsOf unit (AreCommonRegions zones choices) pairs) (λ (o : Overlap). IsOverlap zones choices o)
        (λ o is.
        let pair = All-contains (IsPairOf (length zones)) pairs (o.0, o.1.0) meet.each is.0 in
        record { ascending = pair.0; within = pair.1; some = is.1; regions = is.2 }) found h.each;
    ordered = h.ordered;
    others = λ i j less within.
        elim (meet.others i j less within) [
          | inl listed ↦ elim (h.others (i, j) listed) [ inl l ↦ inl l | inr none ↦ inr (inr none) ]
          | inr apart ↦ inr (inl apart)
        ];
  }

-- ---- counts

rows_rise : (a b c d n : ℕ) → a < c → b < n → a * n + b < c * n + d
rows_rise a b c d n up low =
    let rows : (a + 1) * n ≤ c * n = mul-le-mul_right n (omega arith) in
    let more = add-mul a 1 n in omega (arith, rows, more)

module _ (zones : List (List (List (List Point)))) (pairs : List (ℕ × ℕ)) (meet : AreMeetingPairs zones pairs) where
  abbrev key : ℕ × ℕ → ℕ
  key p = p.0 * length zones + p.1

  keys_rise : (p q : ℕ × ℕ) → IsPairOf (length zones) p → IsPairBefore p.0 p.1 q.0 q.1 → key p < key q
  keys_rise p q two (inl less) = rows_rise p.0 p.1 q.0 q.1 (length zones) less two.1
  keys_rise p q two (inr (same, less)) = rw same (omega (arith, less))

  key_below : (p : ℕ × ℕ) → IsPairOf (length zones) p → key p < length zones * length zones
  key_below p two = let rise = rows_rise p.0 p.1 (length zones) 0 (length zones) (omega (arith, two)) two.1 in omega (arith, rise)

  -- there are no more pairs than that
  pub few_pairs : length pairs ≤ length zones * length zones
  few_pairs =
      let len = length-map pairs key in
      let at : (k : ℕ) → k < length pairs → get_or (map key pairs) k 0 ≡ key (get_or pairs k (0, 0)) = λ k low. get_or-map key pairs k (0, 0) 0 low in
      let few : length (map key pairs) ≤ length zones * length zones =
      length-le_from_below (length zones * length zones) (map key pairs)
      (sorted_from_strictly_increasing (map key pairs)
      (λ k low. rw (at k (omega arith), at (k + 1) (omega arith)) (keys_rise (get_or pairs k (0, 0)) (get_or pairs (k + 1) (0, 0)) (meet.each k (0, 0) (omega arith)) (meet.ordered k (k + 1) (0, 0) (omega arith) (omega arith)))))
      (λ k d low. rw (get_or-map key pairs k (0, 0) d (omega arith)) (key_below (get_or pairs k (0, 0)) (meet.each k (0, 0) (omega arith)))) in
      omega arith

  pub pair_of : (i : ℕ) → i < length pairs → IsPairOf (length zones) (get_or pairs i (0, 0))
  pair_of i low = meet.each i (0, 0) low

  -- attempts at one pair more
  pub pair_counted : (i : ℕ) (old between new : SplitCount) → i < length pairs → CountsAttempts i (IsPairDrawing zones) old between →
      CountsAttempts 1 (λ (es : List Edge). es ≡ pair_edges zones (get_or pairs i (0, 0)).0 (get_or pairs i (0, 0)).1) between new → CountsAttempts (i + 1) (IsPairDrawing zones) old new
  pair_counted i old between new low before more =
      let pair : ℕ × ℕ = get_or pairs i (0, 0) in
      let two : IsPairOf (length zones) pair = pair_of i low in
      counts_more (IsPairDrawing zones) i 1 old between new before
      (counts_weaker 1 (λ (es : List Edge). es ≡ pair_edges zones pair.0 pair.1) (IsPairDrawing zones)
      (λ es same. record { first = pair.0; second = pair.1; ascending = two.0; within = two.1; same = same }) between new more)

  pub pairs_counted : (i n : ℕ) (old new : SplitCount) → i ≤ length pairs → length zones ≡ n → CountsAttempts i (IsPairDrawing zones) old new → CountsAttempts (n * n) (IsPairDrawing zones) old new
  pairs_counted i n old new low same h =
      let few : length pairs ≤ n * n = subst (λ (m : ℕ). length pairs ≤ m * m) same few_pairs in
      counts_fewer (IsPairDrawing zones) i (n * n) (omega (arith, few, low)) old new h

-- ---- what vectors hold

-- what holds of the polygons of each overlap holds of those of each record
pub records_safe : {I W U : Type 0} (unit : ℕ) (found : List (ZoneOverlap I W U)) → All (λ (o : Overlap). ArePointsSafe unit o.1.1) (overlaps_of found) →
    All (λ (o : ZoneOverlap I W U). ArePointsSafe unit (shapes_of o.shapes.items)) found
records_safe {I} {W} {U} unit found h k d low =
    let at = get_or-map (overlap_of {I = I} {W = W} {U = U}) found k d (overlap_of d) low in
    subst (λ (o : Overlap). ArePointsSafe unit o.1.1) at (h k (overlap_of d) (rw length-map low))

pub record_more : {I W U : Type 0} (old new : List (ZoneOverlap I W U)) (z : ZoneOverlap I W U) → new ≡ old ++ z ∷ [] → overlaps_of new ≡ overlaps_of old ++ overlap_of z ∷ []
record_more {I} {W} {U} old new z is = ap (map (overlap_of {I = I} {W = W} {U = U})) is ∙ map-append (overlap_of {I = I} {W = W} {U = U}) old (z ∷ [])

-- places of pairs
pub pair_places : (zones : List (Vec (Vec (Vec Point Global) Global) Global)) (pairs : List (ℕ × ℕ)) (i : ℕ) → AreMeetingPairs (zones_in zones) pairs → i < length pairs →
    ((get_or pairs i (0, 0)).0 < length zones) × ((get_or pairs i (0, 0)).1 < length zones)
pair_places zones pairs i meet low =
    let two = pair_of (zones_in zones) pairs meet i low in
    let len = length-map zones (λ (z : Vec (Vec (Vec Point Global) Global) Global). shapes_of z.items) in
    (omega (arith, two, len), omega (arith, two, len))

-- the edges of both zones
pub pair_edges_are : (zones : List (Vec (Vec (Vec Point Global) Global) Global)) (i j : ℕ) (first second : Vec (Vec (Vec Point Global) Global) Global) → i < length zones → j < length zones →
    first ≡ get_or zones i first → second ≡ get_or zones j second → both_edges Positive (shapes_of first.items) (shapes_of second.items) ≡ pair_edges (zones_in zones) i j
pair_edges_are zones i j first second low within is are =
    λ k. both_edges Positive (sym (zone_at zones i first low is) k) (sym (zone_at zones j second within are) k)

pub no_shape : (shapes : List (Vec (Vec Point Global) Global)) → (length shapes == 0) ≡ true → shapes_of shapes ≡ []
no_shape [] h = refl
no_shape (s ∷ ss) h = let none : length (s ∷ ss) ≡ 0 = eqb-true (length (s ∷ ss)) 0 h in absurd (omega arith)

pub some_shape : (shapes : List (Vec (Vec Point Global) Global)) → (length shapes == 0) ≡ false → shapes_of shapes ≢ []
some_shape [] h none = absurd (true≢false h)
some_shape (s ∷ ss) h none = cc
