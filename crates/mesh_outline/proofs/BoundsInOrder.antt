-- Lemmas over lists: bounds in order by their west sides, and what holds of any two of a list in another order.
use Rattle.std.proofs.Common.{◌≡◌, ◌≢◌, ℕ, ◌+◌, ◌-◌, ◌<◌, ◌≤◌, ◌⊎◌, inl, inr, false, List, [], ◌∷◌, ◌++◌, map, length, get_or, take, drop, swap, sym, ap, ◌∙◌, refl, subst, arith}
use Rattle.std.specs.Prelude.{ℤ, ◌≤ℤ◌, ◌<ℤ◌}
use Rattle.std.specs.Ordering.{is_lt, int_cmp}
use Rattle.std.specs.List.{All, AllPairs}
use Rattle.std.specs.List.Sorted.{IsPermutation, IsSortedByKey}
use Rattle.std.proofs.lemmas.Bool.{cases_eq, cases_lt}
use Rattle.std.proofs.lemmas.Cmp.{int_cmp_total}
use Rattle.std.proofs.lemmas.Int.{ints}
use Rattle.std.proofs.lemmas.List.{get_or-map, length-map, length-take, get_or-drop, get_or-take, length-drop, get_or_default, take_more, take_all}
use Rattle.std.proofs.lemmas.List.Edits.{Swapped, swapped_from_swap, length-swap}
use Rattle.std.proofs.lemmas.List.Elements.{All-push}
use Rattle.std.proofs.lemmas.List.Sorted.{IsPermutation-keeps, IsPermutation-sym, sorted_far, ranks_by}
use Rattle.mesh_plane.specs.Plane.{Edge}
use Rattle.mesh_plane.proofs.Comparing.{cmp_lt, test_not_less}
use Rattle.mesh_apart.specs.Apart.{AreBoxesApart, IsSouthOf}
use Rattle.mesh_outline.specs.Private.Gathered.{box_of, IsNotPast}

-- ---- another order

-- where the element came from that stands at `m` once those at `a` and `b` have changed places
abbrev From : ℕ → ℕ → ℕ → ℕ → Type 0
From a b m k = ((m ≡ a) × (k ≡ b)) ⊎ (((m ≡ b) × (k ≡ a)) ⊎ ((m ≢ a) × (m ≢ b) × (k ≡ m)))

origin : {X : Type 0} (f g : ℕ → X) (a b m : ℕ) → Swapped f g a b → (m ≡ a) ⊎ (m ≢ a) → (m ≡ b) ⊎ (m ≢ b) → (k : ℕ) × From a b m k × (g m ≡ f k)
origin f g a b m s (inl e) y = (b, inl (e, refl), ap g e ∙ s.0)
origin f g a b m s (inr n) (inl e) = (a, inr (inl (e, refl)), ap g e ∙ s.1)
origin f g a b m s (inr n) (inr o) = (m, inr (inr (n, o, refl)), s.2 m n o)

two_sides : (i j : ℕ) → i ≢ j → (i < j) ⊎ (j < i)
two_sides i j differ = by (cases_lt i j)
  where
    by : (i < j) ⊎ (j ≤ i) → (i < j) ⊎ (j < i)
    by (inl less) = inl less
    by (inr le) = inr (omega (arith, differ))

module _ {X : Type 0} (R : X → X → Type 0) (turned : (x y : X) → R x y → R y x) where
  either_way : (xs : List X) → AllPairs R xs → (i j : ℕ) (d : X) → i < length xs → j < length xs → (i < j) ⊎ (j < i) → R (get_or xs i d) (get_or xs j d)
  either_way xs h i j d p q (inl less) = h i j d less q
  either_way xs h i j d p q (inr more) = turned (get_or xs j d) (get_or xs i d) (h j i d more p)

  pairs_swapped : (xs : List X) (a b : ℕ) → a < length xs → b < length xs → AllPairs R xs → AllPairs R (swap xs a b)
  pairs_swapped xs a b p q h i j d less within =
      let len = length-swap xs a b in
      let s = swapped_from_swap xs (swap xs a b) a b d p q refl in
      let x = origin _ _ a b i s (cases_eq i a) (cases_eq i b) in
      let y = origin _ _ a b j s (cases_eq j a) (cases_eq j b) in
      rw (x.2, y.2) (either_way xs h x.0 y.0 d (omega (arith, x.1)) (omega (arith, y.1)) (two_sides x.0 y.0 (λ (e : x.0 ≡ y.0). omega (arith, x.1, y.1, e))))

  pub pairs_permuted : (xs ys : List X) → IsPermutation xs ys → AllPairs R xs → AllPairs R ys
  pairs_permuted xs ys moved h = IsPermutation-keeps xs (AllPairs R) h pairs_swapped ys moved

-- ---- boxes

boxes_turned : (b c : Edge) → AreBoxesApart (box_of b) (box_of c) → AreBoxesApart (box_of c) (box_of b)
boxes_turned b c (inl (inl h)) = inl (inr h)
boxes_turned b c (inl (inr h)) = inl (inl h)
boxes_turned b c (inr (inl h)) = inr (inr h)
boxes_turned b c (inr (inr h)) = inr (inl h)

-- bounds that were found apart in order are so in any order
pub apart_in_any_order : (given sorted : List Edge) → IsPermutation given sorted → AllPairs (λ (b c : Edge). AreBoxesApart (box_of b) (box_of c)) sorted
    → AllPairs AreBoxesApart (map box_of given)
apart_in_any_order given sorted moved h i j d less within =
    let here : AllPairs (λ (b c : Edge). AreBoxesApart (box_of b) (box_of c)) given =
    pairs_permuted (λ (b c : Edge). AreBoxesApart (box_of b) (box_of c)) boxes_turned sorted given (IsPermutation-sym given sorted moved) h in
    let len = length-map given box_of in
    let e : Edge = ((d.west, d.south), (d.east, d.north)) in
    rw (get_or-map box_of given i e d (omega arith), get_or-map box_of given j e d (omega arith)) (here i j e less (omega arith))

-- ---- sorting

-- what is sorted by west sides stands in order
pub ordered_from_sorted : (bounds : List Edge) → IsSortedByKey (λ (b : Edge). b.0.0) int_cmp bounds → AllPairs IsNotPast bounds
ordered_from_sorted bounds h i j d less within =
    let west : ℕ → ℤ = λ (k : ℕ). (get_or bounds k d).0.0 in
    let far : is_lt (int_cmp (west j) (west i)) ≡ false = sorted_far _ (ranks_by int_cmp_total (λ (b : Edge). b.0.0)) bounds h i j d (omega arith) within in
    test_not_less (west j) (west i) (sym (cmp_lt (west j) (west i)) ∙ far)

-- ---- one after another

-- what is left past the first so many
pub rest_of : (bounds : List Edge) (n : ℕ) → take (length bounds - n) (drop n bounds) ≡ drop n bounds
rest_of bounds n = let len = length-drop n bounds in take_all (length bounds - n) (drop n bounds) (omega (arith, len))

-- what stands at a place or after it starts no farther west than what stands at the place
not_past : (bounds : List Edge) (i k : ℕ) (d : Edge) → AllPairs IsNotPast bounds → i ≤ k → k < length bounds → (get_or bounds i d).0.0 ≤ℤ (get_or bounds k d).0.0
not_past bounds i k d h le within = by (cases_lt i k)
  where
    by : (i < k) ⊎ (k ≤ i) → (get_or bounds i d).0.0 ≤ℤ (get_or bounds k d).0.0
    by (inl less) = h i k d less within
    by (inr ge) = let e : i ≡ k = omega arith in subst (λ (n : ℕ). (get_or bounds i d).0.0 ≤ℤ (get_or bounds n d).0.0) e (omega (arith, ints))

module _ (b : Edge) (following : List Edge) where
  abbrev Far : Edge → Type 0
  Far c = AreBoxesApart (box_of b) (box_of c)

  far_past : (c d : Edge) → b.1.0 <ℤ c.0.0 → c.0.0 ≤ℤ d.0.0 → Far d
  far_past c d past le = inl (inl (omega (arith, ints, past, le)))

  -- bounds that start past the east side, and all that follow them, are apart
  pub apart_past : (i : ℕ) (other : Edge) → AllPairs IsNotPast following → i < length following → other ≡ get_or following i other → All Far (take i following) → b.1.0 <ℤ other.0.0 →
      All Far following
  apart_past i other ordered low is before past k d within = by (cases_lt k i)
    where
      by : (k < i) ⊎ (i ≤ k) → Far (get_or following k d)
      by (inl less) = let len = length-take i following in rw (sym (get_or-take i following k d less)) (before k d (omega arith))
      by (inr le) =
          let own : get_or following i d ≡ other = get_or_default following i d other low ∙ sym is in
          far_past other (get_or following k d) past (subst (λ (c : Edge). c.0.0 ≤ℤ (get_or following k d).0.0) own (not_past following i k d ordered le within))

  -- one more that lies to the south or to the north
  pub apart_more : (i : ℕ) (other : Edge) → i < length following → other ≡ get_or following i other → All Far (take i following) →
      IsSouthOf (box_of b) (box_of other) ⊎ IsSouthOf (box_of other) (box_of b) → All Far (take (i + 1) following)
  apart_more i other low is before side =
      let more : take (i + 1) following ≡ take i following ++ other ∷ [] = take_more following i other low ∙ ap (λ (c : Edge). take i following ++ c ∷ []) (sym is) in
      rw more (All-push Far (take i following) other before (inr side))

  pub apart_all : (i : ℕ) → length following ≤ i → All Far (take i following) → All Far following
  apart_all i past h = rw (take_all i following past) at h

-- ---- each with those that follow it

module _ (bounds : List Edge) where
  -- of the first so many each is apart from all that follow it
  abbrev pub AreFirstApart : ℕ → Type 0
  AreFirstApart n = (i j : ℕ) (d : Edge) → i < n → i < j → j < length bounds → AreBoxesApart (box_of (get_or bounds i d)) (box_of (get_or bounds j d))

  pub first_apart_more : (n : ℕ) (b : Edge) → n < length bounds → b ≡ get_or bounds n b → AreFirstApart n →
      All (λ (c : Edge). AreBoxesApart (box_of b) (box_of c)) (drop (n + 1) bounds) → AreFirstApart (n + 1)
  first_apart_more n b low is before here i j d first less within = by (cases_lt i n)
    where
      by : (i < n) ⊎ (n ≤ i) → AreBoxesApart (box_of (get_or bounds i d)) (box_of (get_or bounds j d))
      by (inl lower) = before i j d lower less within
      by (inr le) =
          let e : n ≡ i = omega arith in
          let len = length-drop (n + 1) bounds in
          let at : (n + 1) + (j - (n + 1)) ≡ j = omega arith in
          let there : get_or (drop (n + 1) bounds) (j - (n + 1)) d ≡ get_or bounds j d = get_or-drop (n + 1) bounds (j - (n + 1)) d ∙ ap (λ (k : ℕ). get_or bounds k d) at in
          let own : b ≡ get_or bounds i d = is ∙ get_or_default bounds n b d low ∙ ap (λ (k : ℕ). get_or bounds k d) e in
          subst (λ (x : Edge × Edge). AreBoxesApart (box_of x.0) (box_of x.1)) (λ i'. (own i', there i')) (here (j - (n + 1)) d (omega arith))
