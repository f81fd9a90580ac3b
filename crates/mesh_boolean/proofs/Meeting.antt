-- Lemmas over boxes: pairs of boxes that meet are found, one box after another, from the west.
use Rattle.std.proofs.Common.{◌≡◌, ◌≢◌, ◌==◌, ◌⊎◌, inl, inr, ℕ, ◌+◌, ◌-◌, ◌<◌, ◌≤◌, Bool, true, false, List, [], ◌∷◌, ◌++◌, map, length, get_or, take, drop, Less, Ordering, refl, sym, ap, ◌∙◌, subst, arith}
use Rattle.std.specs.Prelude.{ℤ, pos, min, max, ◌≤ℤ◌, ◌<ℤ◌, ◌&&◌}
use Rattle.std.specs.declared.vec.Vec.{Vec}
use Rattle.std.specs.declared.alloc.Global.{Global}
use Rattle.std.specs.Cmp.{IsEquivalence, IsTotalOrder}
use Rattle.std.specs.Ordering.{int_cmp, is_eq, is_lt, nat_cmp, ordering_then}
use Rattle.std.specs.List.{All, AllPairs, Contains, dedup}
use Rattle.std.specs.List.Sorted.{IsPermutation, IsSorted, IsSortedByKey, IsStrictlySortedBy}
use Rattle.std.proofs.lemmas.Bool.{cases_lt}
use Rattle.std.proofs.lemmas.Bool.Decides.{Decides-eqb, nat_tests}
use Rattle.std.proofs.lemmas.Cmp.{int_cmp_total, nat_cmp_total, on_total, then_total}
use Rattle.std.proofs.lemmas.Int.{ints}
use Rattle.std.proofs.lemmas.List.{get_or-map, get_or-drop, get_or-take, get_or_default, length-append, length-drop, length-map, length-take, take_all, take_more}
use Rattle.std.proofs.lemmas.List.Elements.{All-contains, All-nil, All-push, All-weaker, Contains-append_left, Contains-get_or, Contains-push}
use Rattle.std.proofs.lemmas.List.Filters.{All-dedup}
use Rattle.std.proofs.lemmas.List.Kept.{AllPairs-cons, Contains-dedup, IsStrictlySortedBy-dedup}
use Rattle.std.proofs.lemmas.List.Sorted.{All-permutation, Contains-permutation, IsPermutation-map, ranks_by, sorted_far}
use Rattle.std.proofs.lemmas.Map.Keys.{IsDistinct-IsPermutation, sorted_tail}
use Rattle.std.proofs.lemmas.Map.Made.{AllPairs-from_IsDistinct, IsDistinct-from_AllPairs}
use Rattle.std.proofs.lemmas.Map.Views.{All-after_first}
use Rattle.std.proofs.Math.ListN.{get_or-append}
use Rattle.std.proofs.Math.Nat.{eq-or-lt_of_le}
use Rattle.std.proofs.Math.Seq.{get_or-append_seam}
use Rattle.mesh_plane.specs.Plane.{Point, Edge}
use Rattle.mesh_plane.proofs.Comparing.{cmp_lt, test_not_less}
use Rattle.mesh_num.specs.Paths.{shapes_of}
use Rattle.mesh_num.specs.Rectangle.{IsInRectangle}
use Rattle.mesh_boolean.specs.Overlaps.{AreBoxesApart, AreRectanglesApart, IsPairBefore, points_of}
use Rattle.mesh_boolean.specs.Private.Meeting.{AreBoxes, AreFound, AreMeetingPairs, AreTwoOf, FindsPairs, IsBoxOf, IsFound, IsNotPast, IsPairOf, PlacedBox}

-- ---- zones that vectors hold

abbrev pub zones_in : List (Vec (Vec (Vec Point Global) Global) Global) → List (List (List (List Point)))
zones_in zones = map (λ zone. shapes_of zone.items) zones

pub zone_at : (zones : List (Vec (Vec (Vec Point Global) Global) Global)) (i : ℕ) (zone : Vec (Vec (Vec Point Global) Global) Global) → i < length zones → zone ≡ get_or zones i zone →
    get_or (zones_in zones) i [] ≡ shapes_of zone.items
zone_at zones i zone low is = get_or-map (λ z. shapes_of z.items) zones i zone [] low ∙ ap (λ z. shapes_of z.items) (sym is)

-- ---- the boxes of zones

module _ (zones : List (List (List (List Point)))) where
  pub no_boxes : (boxes : List PlacedBox) → boxes ≡ [] → AreBoxes zones 0 boxes
  no_boxes boxes none = rw none (record { count = refl; own = λ k d low. absurd (omega arith) })

  pub boxes_more : (n : ℕ) (old new : List PlacedBox) (box : Edge) → AreBoxes zones n old → All (λ p. IsInRectangle box p) (points_of (get_or zones n [])) →
      new ≡ old ++ (n, box) ∷ [] → AreBoxes zones (n + 1) new
  boxes_more n old new box h inside more = rw more (record {
    count = length-append old ((n, box) ∷ []) ∙ ap (λ (m : ℕ). m + 1) h.count;
    own = λ k d low.
        let under : k ≤ length old = omega (arith, length-append old ((n, box) ∷ [])) in
        elim (eq-or-lt_of_le under) [
          | inl same ↦
              let here : get_or (old ++ (n, box) ∷ []) k d ≡ (n, box) = rw same (get_or-append_seam old (n, box) [] d) in
              let at : n ≡ k = sym h.count ∙ sym same in
              let own : IsBoxOf zones k (n, box) = (at, subst (λ (m : ℕ). All (λ p. IsInRectangle box p) (points_of (get_or zones m []))) at inside) in
              subst (IsBoxOf zones k) (sym here) own
          | inr less ↦ subst (IsBoxOf zones k) (sym (get_or-append old ((n, box) ∷ []) d k less)) (h.own k d less)
        ];
  })

-- ---- boxes in order

-- what is sorted by west sides stands in order
pub ordered_from_sorted : (boxes : List PlacedBox) → IsSortedByKey (λ (b : PlacedBox). b.1.0.0) int_cmp boxes → AllPairs IsNotPast boxes
ordered_from_sorted boxes h i j d less within =
    let west : ℕ → ℤ = λ (k : ℕ). (get_or boxes k d).1.0.0 in
    let far : is_lt (int_cmp (west j) (west i)) ≡ false = sorted_far _ (ranks_by int_cmp_total (λ (b : PlacedBox). b.1.0.0)) boxes h i j d (omega arith) within in
    test_not_less (west j) (west i) (sym (cmp_lt (west j) (west i)) ∙ far)

-- ---- one after another

-- what is left past the first so many
pub rest_of : (boxes : List PlacedBox) (n : ℕ) → take (length boxes - n) (drop n boxes) ≡ drop n boxes
rest_of boxes n = let len = length-drop n boxes in take_all (length boxes - n) (drop n boxes) (omega (arith, len))

-- what follows a place stands in order too
pub rest_ordered : (boxes : List PlacedBox) (n : ℕ) → AllPairs IsNotPast boxes → AllPairs IsNotPast (drop n boxes)
rest_ordered boxes n h i j d less within =
    let len = length-drop n boxes in
    rw (get_or-drop n boxes i d, get_or-drop n boxes j d) (h (n + i) (n + j) d (omega arith) (omega arith))

-- what stands at a place or after it starts no farther west than what stands at the place
not_past : (boxes : List PlacedBox) (i k : ℕ) (d : PlacedBox) → AllPairs IsNotPast boxes → i ≤ k → k < length boxes → (get_or boxes i d).1.0.0 ≤ℤ (get_or boxes k d).1.0.0
not_past boxes i k d h le within = by (cases_lt i k)
  where
    by : (i < k) ⊎ (k ≤ i) → (get_or boxes i d).1.0.0 ≤ℤ (get_or boxes k d).1.0.0
    by (inl less) = h i k d less within
    by (inr ge) = let e : i ≡ k = omega arith in subst (λ (n : ℕ). (get_or boxes i d).1.0.0 ≤ℤ (get_or boxes n d).1.0.0) e (omega (arith, ints))

found_kept : (old new : List (ℕ × ℕ)) → ((p : ℕ × ℕ) → Contains old p → Contains new p) → (b c : PlacedBox) → IsFound old b c → IsFound new b c
found_kept old new kept b c (inl apart) = inl apart
found_kept old new kept b c (inr listed) = inr (kept (min b.0 c.0, max b.0 c.0) listed)

module _ (own : PlacedBox) (following : List PlacedBox) (old : List (ℕ × ℕ)) where
  pub finds_none : FindsPairs own (take 0 following) old old
  finds_none = record {
    kept = λ p h. h;
    each = λ n two h. h;
    found = λ k d low. absurd (omega (arith, length-take 0 following));
  }

  module _ (i : ℕ) (other : PlacedBox) (low : i < length following) (is : other ≡ get_or following i other) where
    one_more : take (i + 1) following ≡ take i following ++ other ∷ []
    one_more = take_more following i other low ∙ ap (λ (c : PlacedBox). take i following ++ c ∷ []) (sym is)

    two_before : (n : ℕ) → All (λ (c : PlacedBox). AreTwoOf n own.0 c.0) (take i following ++ other ∷ []) → All (λ (c : PlacedBox). AreTwoOf n own.0 c.0) (take i following)
    two_before n two k d within =
        let len = length-append (take i following) (other ∷ []) in
        rw (sym (get_or-append (take i following) (other ∷ []) d k within)) (two k d (omega arith))

    two_here : (n : ℕ) → All (λ (c : PlacedBox). AreTwoOf n own.0 c.0) (take i following ++ other ∷ []) → AreTwoOf n own.0 other.0
    two_here n two =
        All-contains (λ (c : PlacedBox). AreTwoOf n own.0 c.0) (take i following ++ other ∷ []) other two (Contains-push (take i following) other)

    -- one that is apart
    pub finds_apart : (now : List (ℕ × ℕ)) → AreRectanglesApart own.1 other.1 → FindsPairs own (take i following) old now → FindsPairs own (take (i + 1) following) old now
    finds_apart now apart h = rw one_more (record {
      kept = h.kept;
      each = λ n two all. h.each n (two_before n two) all;
      found = All-push (IsFound now own) (take i following) other h.found (inl apart);
    })

    -- one that meets
    pub finds_meeting : (now new : List (ℕ × ℕ)) → new ≡ now ++ (min own.0 other.0, max own.0 other.0) ∷ [] → FindsPairs own (take i following) old now →
        FindsPairs own (take (i + 1) following) old new
    finds_meeting now new more h =
        let pair : ℕ × ℕ = (min own.0 other.0, max own.0 other.0) in
        let kept : (p : ℕ × ℕ) → Contains now p → Contains (now ++ pair ∷ []) p = λ p c. Contains-append_left now (pair ∷ []) p c in
        rw (one_more, more) (record {
          kept = λ p c. kept p (h.kept p c);
          each = λ n two all. All-push (IsPairOf n) now pair (h.each n (two_before n two) all) (in_order n own.0 other.0 (two_here n two));
          found =
              All-push (IsFound (now ++ pair ∷ []) own) (take i following) other
              (All-weaker (IsFound now own) (IsFound (now ++ pair ∷ []) own) (λ c f. found_kept now (now ++ pair ∷ []) kept own c f) (take i following) h.found)
              (inr (Contains-push now pair));
        })
      where
        in_order : (n i j : ℕ) → AreTwoOf n i j → IsPairOf n (min i j, max i j)
        in_order n i j h = let differ = h.0 in (omega (arith, differ, h), omega (arith, h))

    -- one that starts past the east side: all that follow it are apart
    pub finds_past : (now : List (ℕ × ℕ)) → AllPairs IsNotPast following → own.1.1.0 <ℤ other.1.0.0 → FindsPairs own (take i following) old now → FindsPairs own following old now
    finds_past now ordered past h = record {
      kept = h.kept;
      each = λ n two all. h.each n (λ k d within. let len = length-take i following in rw (get_or-take i following k d (omega arith)) (two k d (omega arith))) all;
      found = λ k d within. by k d within (cases_lt k i);
    }
      where
        by : (k : ℕ) (d : PlacedBox) → k < length following → (k < i) ⊎ (i ≤ k) → IsFound now own (get_or following k d)
        by k d within (inl less) = let len = length-take i following in rw (sym (get_or-take i following k d less)) (h.found k d (omega arith))
        by k d within (inr le) =
            let here : get_or following i d ≡ other = get_or_default following i d other low ∙ sym is in
            let east : other.1.0.0 ≤ℤ (get_or following k d).1.0.0 = subst (λ (c : PlacedBox). c.1.0.0 ≤ℤ (get_or following k d).1.0.0) here (not_past following i k d ordered le within) in
            inl (inl (inl (omega (arith, ints, past, east))))

  pub finds_all : (i : ℕ) (now : List (ℕ × ℕ)) → length following ≤ i → FindsPairs own (take i following) old now → FindsPairs own following old now
  finds_all i now past h = rw (take_all i following past) at h

-- ---- each with those that follow it

module _ (boxes : List PlacedBox) where
  pub found_none : (pairs : List (ℕ × ℕ)) → pairs ≡ [] → AreFound boxes 0 pairs
  found_none pairs none = rw none (record { each = λ n two. All-nil (IsPairOf n); found = λ i j d first less within. absurd (omega arith) })

  pub found_more : (n : ℕ) (own : PlacedBox) (old new : List (ℕ × ℕ)) → n < length boxes → own ≡ get_or boxes n own → AreFound boxes n old → FindsPairs own (drop (n + 1) boxes) old new →
      AreFound boxes (n + 1) new
  found_more n own old new low is before more = record {
    each = λ m two.
        more.each m (λ k d within.
        let len = length-drop (n + 1) boxes in
        rw (is ∙ get_or_default boxes n own d low, get_or-drop (n + 1) boxes k d) (two n ((n + 1) + k) d (omega arith) (omega arith))) (before.each m two);
    found = λ i j d first less within. by i j d first less within (cases_lt i n);
  }
    where
      by : (i j : ℕ) (d : PlacedBox) → i < n + 1 → i < j → j < length boxes → (i < n) ⊎ (n ≤ i) → IsFound new (get_or boxes i d) (get_or boxes j d)
      by i j d first less within (inl lower) = found_kept old new more.kept (get_or boxes i d) (get_or boxes j d) (before.found i j d lower less within)
      by i j d first less within (inr le) =
          let e : n ≡ i = omega arith in
          let len = length-drop (n + 1) boxes in
          let at : (n + 1) + (j - (n + 1)) ≡ j = omega arith in
          let there : get_or (drop (n + 1) boxes) (j - (n + 1)) d ≡ get_or boxes j d = get_or-drop (n + 1) boxes (j - (n + 1)) d ∙ ap (λ (k : ℕ). get_or boxes k d) at in
          let here : own ≡ get_or boxes i d = is ∙ get_or_default boxes n own d low ∙ ap (λ (k : ℕ). get_or boxes k d) e in
          subst (λ (x : PlacedBox × PlacedBox). IsFound new x.0 x.1) (λ i'. (here i', there i')) (more.found (j - (n + 1)) d (omega arith))

  pub found_all : (n : ℕ) (pairs : List (ℕ × ℕ)) → length boxes ≤ n → AreFound boxes n pairs → AreFound boxes (length boxes) pairs
  found_all n pairs past h = record { each = h.each; found = λ i j d first less within. h.found i j d (omega arith) less within }

-- ---- pairs in order

abbrev pub pair_cmp : ℕ × ℕ → ℕ × ℕ → Ordering
pair_cmp x y = ordering_then (nat_cmp x.0 y.0) (nat_cmp x.1 y.1)

abbrev pub same_pair : ℕ × ℕ → ℕ × ℕ → Bool
same_pair x y = (x.0 == y.0) && (x.1 == y.1)

pair_total : IsTotalOrder pair_cmp
pair_total = then_total (on_total (λ (p : ℕ × ℕ). p.0) nat_cmp_total) (on_total (λ (p : ℕ × ℕ). p.1) nat_cmp_total)

less_before : (a b c d : ℕ) → ordering_then (nat_cmp a c) (nat_cmp b d) ≡ Less → IsPairBefore a b c d
less_before a b c d h = grind (arith, nat_tests)

tied_same : (a b c d : ℕ) → ((a == c) && (b == d)) ≡ is_eq (ordering_then (nat_cmp a c) (nat_cmp b d))
tied_same a b c d = grind (arith, nat_tests)

same_equal : (x y : ℕ × ℕ) → same_pair x y ≡ true → x ≡ y
same_equal x y h =
    let first : x.0 ≡ y.0 = grind (arith, nat_tests) in
    let second : x.1 ≡ y.1 = grind (arith, nat_tests) in λ i. (first i, second i)

same_laws : IsEquivalence same_pair
same_laws = record {
  refl = λ x. grind (arith, nat_tests);
  symm = λ x y. grind (arith, nat_tests);
  congr = λ x y z h. ap (λ (p : ℕ × ℕ). same_pair p z) (same_equal x y h);
}

strictly : (ps : List (ℕ × ℕ)) → IsStrictlySortedBy pair_cmp ps → AllPairs (λ (p q : ℕ × ℕ). IsPairBefore p.0 p.1 q.0 q.1) ps
strictly [] h = λ i j d less within. absurd (omega arith)
strictly (p ∷ ps) h =
    AllPairs-cons (λ (p q : ℕ × ℕ). IsPairBefore p.0 p.1 q.0 q.1) p ps
    (All-weaker (λ (q : ℕ × ℕ). pair_cmp p q ≡ Less) (λ (q : ℕ × ℕ). IsPairBefore p.0 p.1 q.0 q.1) (λ q l. less_before p.0 p.1 q.0 q.1 l) ps (All-after_first pair_cmp p ps h))
    (strictly ps (sorted_tail pair_cmp p ps h))

-- ---- all pairs

turned : (b c : Edge) → AreRectanglesApart b c → AreRectanglesApart c b
turned b c (inl (inl h)) = inl (inr h)
turned b c (inl (inr h)) = inl (inl h)
turned b c (inr (inl h)) = inr (inr h)
turned b c (inr (inr h)) = inr (inl h)

module _ (zones : List (List (List (List Point)))) (boxes sorted : List PlacedBox) (given : AreBoxes zones (length zones) boxes) (moved : IsPermutation boxes sorted) where
  abbrev place : PlacedBox → ℕ
  place b = b.0

  -- any two places differ
  places_differ : AllPairs (λ (b c : PlacedBox). AreTwoOf (length zones) b.0 c.0) sorted
  places_differ i j d less within =
      let len = length-map boxes place in
      let first : AllPairs (λ (x y : ℕ). x ≢ y) (map place boxes) = λ i j e less within.
      let here = given.own i (e, d.1) (omega (arith, given.count)) in
      let there = given.own j (e, d.1) (omega (arith, given.count)) in
      rw (get_or-map place boxes i (e, d.1) e (omega arith), get_or-map place boxes j (e, d.1) e (omega arith), here.0, there.0) (λ (same : i ≡ j). absurd (omega (arith, less, same))) in
      let last : AllPairs (λ (x y : ℕ). x ≢ y) (map place sorted) =
      AllPairs-from_IsDistinct Decides-eqb (map place sorted)
      (IsDistinct-IsPermutation (λ (x y : ℕ). x == y) (λ x y. flips x y) (map place boxes) (map place sorted) (IsPermutation-map place boxes sorted moved) (IsDistinct-from_AllPairs Decides-eqb (map place boxes) first)) in
      let lens = length-map sorted place in
      let low : All (λ (b : PlacedBox). b.0 < length zones) sorted =
      All-permutation (λ (b : PlacedBox). b.0 < length zones) boxes sorted moved
      (λ k d within. let own = given.own k d within in omega (arith, own, given.count)) in
      let apart : (get_or sorted i d).0 ≢ (get_or sorted j d).0 =
      rw (get_or-map place sorted i d d.0 (omega arith), get_or-map place sorted j d d.0 within) at (last i j d.0 less (omega arith)) in
      (apart, low i d (omega arith), low j d within)
    where
      flips : (x y : ℕ) → (x == y) ≡ (y == x)
      flips x y = grind (arith, nat_tests)

  module _ (pairs : List (ℕ × ℕ)) (found : AreFound sorted (length sorted) pairs) where
    pub found_pairs : All (IsPairOf (length zones)) pairs
    found_pairs = found.each (length zones) places_differ

    found_of : (b c : PlacedBox) (i j : ℕ) → min b.0 c.0 ≡ i → max b.0 c.0 ≡ j → IsFound pairs b c → Contains pairs (i, j) ⊎ AreRectanglesApart b.1 c.1
    found_of b c i j low high (inl apart) = inr apart
    found_of b c i j low high (inr listed) = inl (subst (Contains pairs) (λ k. (low k, high k)) listed)

    found_either : (i j : ℕ) (b c : PlacedBox) → i < j → b.0 ≡ i → c.0 ≡ j → Contains sorted b → Contains sorted c → Contains pairs (i, j) ⊎ AreRectanglesApart b.1 c.1
    found_either i j b c less is are (p, p_low, p_is) (q, q_low, q_is) = by (cases_lt p q)
      where
        b_at : get_or sorted p b ≡ b
        b_at = p_is

        c_at : get_or sorted q b ≡ c
        c_at = get_or_default sorted q b c q_low ∙ q_is

        after : (q ≤ p) → (q ≡ p) ⊎ (q < p) → Contains pairs (i, j) ⊎ AreRectanglesApart b.1 c.1
        after le (inl same) =
            let e : c ≡ b = sym c_at ∙ (ap (λ (k : ℕ). get_or sorted k b) same ∙ b_at) in
            let f : j ≡ i = sym are ∙ (ap (λ (x : PlacedBox). x.0) e ∙ is) in absurd (omega (arith, f, less))
        after le (inr more) =
            elim (found_of c b i j (omega (arith, is, are, less)) (omega (arith, is, are, less)) (subst (λ (x : PlacedBox × PlacedBox). IsFound pairs x.0 x.1) (λ k. (c_at k, b_at k)) (found.found q p b q_low more p_low))) [
              | inl listed ↦ inl listed
              | inr apart ↦ inr (turned c.1 b.1 apart)
            ]

        by : (p < q) ⊎ (q ≤ p) → Contains pairs (i, j) ⊎ AreRectanglesApart b.1 c.1
        by (inl before) =
            found_of b c i j (omega (arith, is, are, less)) (omega (arith, is, are, less)) (subst (λ (x : PlacedBox × PlacedBox). IsFound pairs x.0 x.1) (λ k. (b_at k, c_at k)) (found.found p q b p_low before q_low))
        by (inr le) = after le (eq-or-lt_of_le le)

    found_apart : (i j : ℕ) → i < j → j < length zones → Contains pairs (i, j) ⊎ AreBoxesApart (get_or zones i []) (get_or zones j [])
    found_apart i j less within =
        let d : PlacedBox = (0, ((pos 0, pos 0), (pos 0, pos 0))) in
        let low : i < length boxes = omega (arith, given.count) in
        let high : j < length boxes = omega (arith, given.count) in
        let b : PlacedBox = get_or boxes i d in
        let c : PlacedBox = get_or boxes j d in
        let first : IsBoxOf zones i b = given.own i d low in
        let second : IsBoxOf zones j c = given.own j d high in
        elim (found_either i j b c less first.0 second.0 (Contains-permutation boxes sorted b moved (Contains-get_or boxes i d low)) (Contains-permutation boxes sorted c moved (Contains-get_or boxes j d high))) [
          | inl listed ↦ inl listed
          | inr apart ↦ inr (record { first_box = b.1; second_box = c.1; first_inside = first.1; second_inside = second.1; apart = apart })
        ]

    -- sorted, and each once
    pub meeting : (ordered left : List (ℕ × ℕ)) → IsPermutation pairs ordered → IsSorted pair_cmp ordered → left ≡ dedup same_pair ordered → AreMeetingPairs zones left
    meeting ordered left changed up is = rw is (record {
      each = All-dedup same_pair (IsPairOf (length zones)) ordered (All-permutation (IsPairOf (length zones)) pairs ordered changed found_pairs);
      ordered = strictly (dedup same_pair ordered) (IsStrictlySortedBy-dedup pair_total (λ x y. tied_same x.0 x.1 y.0 y.1) ordered up);
      others = λ i j less within. elim (found_apart i j less within) [
        | inl listed ↦ inl (Contains-dedup same_laws same_equal ordered (i, j) (Contains-permutation pairs ordered (i, j) changed listed))
        | inr apart ↦ inr apart
      ];
    })
