-- Lemmas over points and lists: ends listed by their points, and sums over the star of a point.
use Rattle.std.proofs.Common.{◌≡◌, ℕ, ◌+◌, ◌-◌, ◌<◌, ◌≤◌, ◌≢◌, ⊎_elim, ◌⊎◌, inl, inr, Bool, true, false, cond, ◌&&◌, List, [], ◌∷◌, ◌++◌, length, map, take, take_all, drop, get_or, set, refl, sym, ◌∙◌, ap, subst, arith, add-one, zero, suc, length-drop}
use Rattle.std.specs.Prelude.{ℤ, pos, neg_ℤ, ◌-ℤ◌, ◌+ℤ◌, ◌*ℤ◌, nat_eq, int_lt, not, ◌||◌}
use Rattle.std.specs.List.{All}
use Rattle.std.proofs.Math.Seq.{take-suc}
use Rattle.std.proofs.lemmas.Bool.{cases_Bool, both_ways}
use Rattle.std.proofs.lemmas.Bool.Decides.{nat_tests, eqb_tells}
use Rattle.std.proofs.lemmas.List.{append-nil, get_or-drop, get_or-map, get_or-set_same, get_or-set_other, map-append, length-set}
use Rattle.std.proofs.lemmas.List.Elements.{All-append, All-cons, All-nil, All-from_recursion}
use Rattle.mesh_plane.specs.Plane.{Point, Edge}
use Rattle.mesh_plane.specs.Winding.{sum_of, same_point}
use Rattle.mesh_plane.proofs.Comparing.{decides_point}
use Rattle.mesh_plane.proofs.Sums.{sum_of_append}
use Rattle.mesh_plane.proofs.Whole.{linear, mul_zero, mul_one, mul_neg}
use Rattle.mesh_lattice.specs.Boundary.{rises}
use Rattle.mesh_lattice.specs.Counted.{Counted, bit, IsCountOf}
use Rattle.mesh_lattice.specs.Split.{back}
use Rattle.mesh_lattice.proofs.Boxes.{turn_end}
use Rattle.mesh_regions.specs.SideLaws.{AreSplit}
use Rattle.mesh_regions.specs.Star.{comes_before, leaves_before}
use Rattle.mesh_regions.proofs.StarSums.{edge_net_before}
use Rattle.mesh_boundary.specs.Private.Stars.{part, run, star_at, ends_at, segment, leaving, fan_of, one_if, listed, counted_before, IsParted, IsFiled, AreBothFiled, AreListed, AreStars, IsSegment, CountSplit, HaveStars}
use Rattle.mesh_boundary.proofs.AllEnds.{all_listed}
use Rattle.mesh_boundary.proofs.BoundaryCounted.{counted_segments, counted_sum}
use Rattle.mesh_boundary.proofs.SidesCode.{sum_suc}

-- ---- ends from an index on

-- an entry outside changes none of them
pub run_set : (xs : List (ℕ × Bool)) (p : ℕ) (y : ℕ × Bool) (a n : ℕ) → ((j : ℕ) → j < n → a + j ≢ p) → run (set xs p y) a n ≡ run xs a n
run_set xs p y a zero h = refl
run_set xs p y a (suc n) h = λ i. run_set xs p y a n (λ j l. h j (omega (arith, l))) i ++ get_or-set_other xs p (a + n) y (0, false) (h n (omega arith)) i ∷ []

take_none : {A : Type 0} (xs : List A) → take 0 xs ≡ []
take_none [] = refl
take_none (x ∷ xs) = refl

pub run_taken : (xs : List (ℕ × Bool)) (a n : ℕ) → a + n ≤ length xs → take n (drop a xs) ≡ run xs a n
run_taken xs a zero h = take_none (drop a xs)
run_taken xs a (suc n) h =
    take-suc (drop a xs) n (0, false) (omega (arith, length-drop a xs, h))
    ∙ λ i. run_taken xs a n (omega (arith, h)) i ++ get_or-drop a xs n (0, false) i ∷ []

pub run_all : (P : ℕ × Bool → Type 0) (xs : List (ℕ × Bool)) (a n : ℕ) → ((j : ℕ) → j < n → P (get_or xs (a + j) (0, false))) → All P (run xs a n)
run_all P xs a zero h = All-nil P
run_all P xs a (suc n) h =
    All-append P (run xs a n) _ (run_all P xs a n (λ j l. h j (omega (arith, l)))) (All-cons P (get_or xs (a + n) (0, false)) [] (h n (omega arith)) (All-nil P))

-- no end is listed where there is no place
beyond : {A : Type 0} (xs : List A) (i : ℕ) (d : A) → length xs ≤ i → get_or xs i d ≡ d
beyond [] i d h = refl
beyond (x ∷ xs) zero d h = absurd (omega (arith, h))
beyond (x ∷ xs) (suc i) d h = beyond xs i d (omega (arith, h))

pub star_none : (parts : List (ℕ × ℕ)) (members : List (ℕ × Bool)) (i : ℕ) → length parts ≤ i → [] ≡ star_at parts members i
star_none parts members i h = sym (ap (λ (q : ℕ × ℕ). run members q.0 q.1) (beyond parts i (0, 0) h))

-- a part that is too long is none
pub run_short : (xs : List (ℕ × Bool)) (a n : ℕ) → ((j : ℕ) → j < n → a + j < length xs) → length xs < a + n → [] ≡ run xs a n
run_short xs a zero room h = refl
run_short xs a (suc n) room h = absurd (omega (arith, h, room n (omega arith)))

-- a slice
pub run_slice : (xs : List (ℕ × Bool)) (a n : ℕ) → a + n ≤ length xs → take (a + n - a) (drop a xs) ≡ run xs a n
run_slice xs a n h = ap (λ (m : ℕ). take m (drop a xs)) (omega arith) ∙ run_taken xs a n h

-- ---- filing

-- one more element
pub each_more : {A : Type 0} (P : A → Type 0) (d y : A) (xs : List A) → ((i : ℕ) → P (get_or xs i d)) → P y → (i : ℕ) → P (get_or (xs ++ y ∷ []) i d)
each_more P d y [] h own zero = own
each_more P d y [] h own (suc i) = h i
each_more P d y (x ∷ xs) h own zero = h 0
each_more P d y (x ∷ xs) h own (suc i) = each_more P d y xs (λ j. h (suc j)) own i

-- whether two places are one
place_test : (j i : ℕ) → ((nat_eq j i ≡ true) × (j ≡ i)) ⊎ ((nat_eq j i ≡ false) × (j ≢ i))
place_test j i = eqb_tells j i

-- what comes before the next one
last_or : (m n : ℕ) → m < n + 1 → (m < n) ⊎ (m ≡ n)
last_or m n h = ⊎_elim (λ (t : (nat_eq m n ≡ true) × (m ≡ n)). inr t.1) (λ (t : (nat_eq m n ≡ false) × (m ≢ n)). inl (omega (arith, h, t.1))) (place_test m n)

-- the parts after one place has more
part_same : (parts : List (ℕ × ℕ)) (i j : ℕ) (q : ℕ × ℕ) → i < length parts → j ≡ i → part (set parts i q) j ≡ q
part_same parts i j q h e = ap (part (set parts i q)) e ∙ get_or-set_same parts i q (0, 0) h

module _ (parts : List (ℕ × ℕ)) (members : List (ℕ × Bool)) (free i : ℕ) (x : ℕ × Bool) (parted : IsParted parts members free) (low : i < length parts)
    (room : (part parts i).0 + (part parts i).1 < length members) (is_free : free ≤ (get_or members ((part parts i).0 + (part parts i).1) (0, false)).0) where
  abbrev pub slot_at : ℕ
  slot_at = (part parts i).0 + (part parts i).1

  abbrev pub fuller : List (ℕ × ℕ)
  fuller = set parts i ((part parts i).0, (part parts i).1 + 1)

  abbrev pub filled : List (ℕ × Bool)
  filled = set members slot_at x

  -- a free entry stands in no part
  apart : (j m : ℕ) → m < (part parts j).1 → (part parts j).0 + m ≢ slot_at
  apart j m l e = absurd (omega (arith, parted.within j m l, ap (λ (n : ℕ). (get_or members n (0, false)).0) e, is_free))

  new_same : (j : ℕ) → j ≡ i → part fuller j ≡ ((part parts i).0, (part parts i).1 + 1)
  new_same j e = part_same parts i j _ low e

  new_other : (j : ℕ) → j ≢ i → part fuller j ≡ part parts j
  new_other j e = get_or-set_other parts i j _ (0, 0) e

  pub filed_is : IsFiled parts members fuller filled i x
  filed_is = record { lists = λ j. ⊎_elim (same j) (other j) (place_test j i) }
    where
      same : (j : ℕ) → (nat_eq j i ≡ true) × (j ≡ i) → star_at fuller filled j ≡ star_at parts members j ++ one_if (nat_eq j i) x
      same j t =
          ap (λ (q : ℕ × ℕ). run filled q.0 q.1) (new_same j t.1)
          ∙ (ap (run filled (part parts i).0) (add-one (part parts i).1)
          ∙ ((λ k. run_set members slot_at x (part parts i).0 (part parts i).1 (apart i) k ++ get_or-set_same members slot_at x (0, false) room k ∷ [])
          ∙ λ k. star_at parts members (sym t.1 k) ++ one_if (sym t.0 k) x))

      other : (j : ℕ) → (nat_eq j i ≡ false) × (j ≢ i) → star_at fuller filled j ≡ star_at parts members j ++ one_if (nat_eq j i) x
      other j t =
          ap (λ (q : ℕ × ℕ). run filled q.0 q.1) (new_other j t.1)
          ∙ (run_set members slot_at x (part parts j).0 (part parts j).1 (apart j)
          ∙ (sym (append-nil (star_at parts members j)) ∙ λ k. star_at parts members j ++ one_if (sym t.0 k) x))

  pub parted_still : x.0 < free → IsParted fuller filled free
  parted_still own = record { room = λ j m l. (both j m l).0; within = λ j m l. (both j m l).1 }
    where
      Good : ℕ → Type 0
      Good n = (n < length filled) × ((get_or filled n (0, false)).0 < free)

      len : length filled ≡ length members
      len = length-set members slot_at x

      old : (j m : ℕ) → m < (part parts j).1 → Good ((part parts j).0 + m)
      old j m l = (
        omega (arith, len, parted.room j m l),
        subst (λ (y : ℕ × Bool). y.0 < free) (sym (get_or-set_other members slot_at ((part parts j).0 + m) x (0, false) (apart j m l))) (parted.within j m l),
      )

      last : Good slot_at
      last = (omega (arith, len, room), subst (λ (y : ℕ × Bool). y.0 < free) (sym (get_or-set_same members slot_at x (0, false) room)) own)

      here : (m : ℕ) → m < (part parts i).1 + 1 → (m < (part parts i).1) ⊎ (m ≡ (part parts i).1) → Good ((part parts i).0 + m)
      here m l (inl h) = old i m h
      here m l (inr e) = subst (λ (n : ℕ). Good ((part parts i).0 + n)) (sym e) last

      both : (j m : ℕ) → m < (part fuller j).1 → Good ((part fuller j).0 + m)
      both j m l =
          ⊎_elim (λ (t : (nat_eq j i ≡ true) × (j ≡ i)).
          let h : m < (part parts i).1 + 1 = subst (λ (q : ℕ × ℕ). m < q.1) (new_same j t.1) l in
          subst (λ (q : ℕ × ℕ). Good (q.0 + m)) (sym (new_same j t.1)) (here m h (last_or m (part parts i).1 h)))
          (λ (t : (nat_eq j i ≡ false) × (j ≢ i)).
          subst (λ (q : ℕ × ℕ). Good (q.0 + m)) (sym (new_other j t.1)) (old j m (subst (λ (q : ℕ × ℕ). m < q.1) (new_other j t.1) l))) (place_test j i)

pub both_filed : (p0 p1 p2 : List (ℕ × ℕ)) (m0 m1 m2 : List (ℕ × Bool)) (ends : ℕ × ℕ) (k : ℕ) → IsFiled p0 m0 p1 m1 ends.0 (k, true)
    → IsFiled p1 m1 p2 m2 ends.1 (k, false) → AreBothFiled p0 m0 p2 m2 ends k
both_filed p0 p1 p2 m0 m1 m2 ends k first second =
    record { lists = λ j. second.lists j ∙ ap (λ (l : List (ℕ × Bool)). l ++ one_if (nat_eq j ends.1) (k, false)) (first.lists j) }

-- ---- listing

pub parted_none : (parts : List (ℕ × ℕ)) (members : List (ℕ × Bool)) (free : ℕ) → ((i : ℕ) → (part parts i).1 ≡ 0) → IsParted parts members free
parted_none parts members free none = record {
  room = λ i j l. absurd (omega (arith, l, none i));
  within = λ i j l. absurd (omega (arith, l, none i));
}

pub listed_none : (at : Point → ℕ) (parts : List (ℕ × ℕ)) (members : List (ℕ × Bool)) (ks : List Counted) → ((i : ℕ) → (part parts i).1 ≡ 0) → AreListed at parts members ks 0
listed_none at parts members ks none = record { lists = λ i. ap (run members (part parts i).0) (none i) }

-- the places of an end
pub ends_of_one : (at : Point → ℕ) (ends : List (ℕ × ℕ)) (ks : List Counted) (i : ℕ) (d : ℕ × ℕ) → ends ≡ map (λ (k : Counted). ends_at at k.0) ks → i < length ks
    → get_or ends i d ≡ ends_at at (segment ks i).0
ends_of_one at ends ks i d places h = ap (λ (l : List (ℕ × ℕ)). get_or l i d) places ∙ get_or-map (λ (k : Counted). ends_at at k.0) ks i (((pos 0, pos 0), (pos 0, pos 0)), pos 0) d h

pub listed_more : (at : Point → ℕ) (parts later : List (ℕ × ℕ)) (members entries : List (ℕ × Bool)) (ks : List Counted) (e : ℕ × ℕ) (k : ℕ) → AreListed at parts members ks k
    → e ≡ ends_at at (segment ks k).0 → AreBothFiled parts members later entries e k → AreListed at later entries ks (k + 1)
listed_more at parts later members entries ks e k listed_so is both = record {
  lists = λ i.
      both.lists i
      ∙ ((λ t. (listed_so.lists i t ++ one_if (nat_eq i (is t).0) (k, true)) ++ one_if (nat_eq i (is t).1) (k, false))
      ∙ sym (ap (listed at ks i) (add-one k)));
}

-- ---- the star of a point

same_test : (a b : ℕ) → a ≡ b → nat_eq a b ≡ true
same_test a b h = grind (arith, nat_tests)

-- an end that is not listed where a point has its place is not at that point
off_place : (at : Point → ℕ) (v p : Point) → nat_eq (at v) (at p) ≡ false → same_point v p ≡ false
off_place at v p h =
    ⊎_elim (λ (t : same_point v p ≡ true). absurd (both_ways (nat_eq (at v) (at p)) h (same_test (at v) (at p) (ap at ((decides_point v p).0 t))))) (λ (f : same_point v p ≡ false). f)
    (cases_Bool (same_point v p))

-- no segment is before itself
same_not_before : (s e : Edge) → s ≡ e → comes_before e s ≡ false
same_not_before s e h =
    (λ i. comes_before e (h i))
    ∙ (ap (λ (t : ℤ). cond (rises e) (not (rises e) || int_lt (pos 0) t) (not (rises e) && int_lt (pos 0) t)) (turn_end e.0 e.1)
    ∙ by (rises e))
  where
    by : (r : Bool) → cond r (not r || false) (not r && false) ≡ false
    by true = refl
    by false = refl

-- one that leads to the same point does not leave before
pub not_leaving_before : (s e : Edge) → same_point s.1 e.1 ≡ true → leaves_before s e ≡ false
not_leaving_before s e h = by (same_point s.0 e.0) refl
  where
    by : (b : Bool) → same_point s.0 e.0 ≡ b → (b && comes_before e s) ≡ false
    by false t = refl
    by true t = same_not_before s e (λ i. ((decides_point s.0 e.0).0 t i, (decides_point s.1 e.1).0 h i))

-- what a segment gives to the sum
abbrev gives : Edge → Counted → ℤ
gives s k = k.1 *ℤ bit (leaves_before s k.0)

one_sum : (at : Point → ℕ) (ks : List Counted) (s : Edge) (x : ℕ × Bool) → counted_before s (fan_of ks (one_if (nat_eq (at s.0) (at (leaving ks x).0.0)) x)) ≡ gives s (leaving ks x)
one_sum at ks s x = ⊎_elim yes no (cases_Bool test)
  where
    k : Counted
    k = leaving ks x

    test : Bool
    test = nat_eq (at s.0) (at k.0.0)

    yes : test ≡ true → counted_before s (fan_of ks (one_if test x)) ≡ gives s k
    yes t = ap (λ (b : Bool). counted_before s (fan_of ks (one_if b x))) t ∙ (omega (arith, linear))

    no : test ≡ false → counted_before s (fan_of ks (one_if test x)) ≡ gives s k
    no t =
        ap (λ (b : Bool). counted_before s (fan_of ks (one_if b x))) t
        ∙ sym ((λ i. k.1 *ℤ bit (off_place at s.0 k.0.0 t i && comes_before k.0 s)) ∙ mul_zero k.1)

both_give : (n : ℤ) (a b : Bool) → (n *ℤ bit a) +ℤ (neg_ℤ n *ℤ bit b) ≡ n *ℤ (bit a -ℤ bit b)
both_give n true true = omega (arith, linear, mul_one n, mul_one (neg_ℤ n), mul_zero n)
both_give n true false = omega (arith, linear, mul_one n, mul_zero (neg_ℤ n))
both_give n false true = omega (arith, linear, mul_zero n, mul_one (neg_ℤ n), less_count (pos 0) n)
  where
    less_count : (s n : ℤ) → s +ℤ (n *ℤ (pos 0 -ℤ pos 1)) ≡ s -ℤ n
    less_count s n = omega (arith, linear, mul_neg n (pos 1), mul_one n)
both_give n false false = omega (arith, linear, mul_zero n, mul_zero (neg_ℤ n))

append_sum : (s : Edge) (ks : List Counted) (xs ys : List (ℕ × Bool)) → counted_before s (fan_of ks (xs ++ ys)) ≡ counted_before s (fan_of ks xs) +ℤ counted_before s (fan_of ks ys)
append_sum s ks xs ys = ap (counted_before s) (map-append (leaving ks) xs ys) ∙ sum_of_append (gives s) (fan_of ks xs) (fan_of ks ys)

listed_sum : (at : Point → ℕ) (ks : List Counted) (s : Edge) (n : ℕ) → n ≤ length ks
    → counted_before s (fan_of ks (listed at ks (at s.0) n)) ≡ sum_of (λ (k : Counted). k.1 *ℤ edge_net_before s k.0) (take n ks)
listed_sum at ks s zero h = ap (sum_of (λ (k : Counted). k.1 *ℤ edge_net_before s k.0)) (sym (take_none ks))
listed_sum at ks s (suc n) h =
    let k : Counted = segment ks n in
    let some = listed at ks (at s.0) n in
    let start = one_if (nat_eq (at s.0) (at k.0.0)) (n, true) in
    let stop = one_if (nat_eq (at s.0) (at k.0.1)) (n, false) in
    append_sum s ks (some ++ start) stop
    ∙ ((λ i. append_sum s ks some start i +ℤ one_sum at ks s (n, false) i)
    ∙ ((λ i. (listed_sum at ks s n (omega (arith, h)) i +ℤ one_sum at ks s (n, true) i) +ℤ gives s (back k.0, neg_ℤ k.1))
    ∙ (omega (arith, linear, both_give k.1 (leaves_before s k.0) (leaves_before s (back k.0)))
    ∙ sym (sum_suc (λ (j : Counted). j.1 *ℤ edge_net_before s j.0) ks n (((pos 0, pos 0), (pos 0, pos 0)), pos 0) (omega (arith, h))))))

-- the place of an end
pub place_leaving : (at : Point → ℕ) (ks : List Counted) (x : ℕ × Bool) → cond x.1 (at (segment ks x.0).0.0) (at (segment ks x.0).0.1) ≡ at (leaving ks x).0.0
place_leaving at ks (k, true) = refl
place_leaving at ks (k, false) = refl

pub count_split : (es : List Edge) (ks : List Counted) → IsCountOf es ks → AreSplit es → CountSplit es ks
count_split es ks is split = record { split = split; segments = All-from_recursion (IsSegment es) ks (counted_segments es ks split.proper is) }

-- lists of the ends of segments that count split edges have the stars of these
pub have_stars : (es : List Edge) (ks : List Counted) (parts : List (ℕ × ℕ)) (members : List (ℕ × Bool)) (ends : List (ℕ × ℕ)) → AreStars parts members ends ks → IsCountOf es ks → AreSplit es
    → HaveStars es ks parts members ends
have_stars es ks parts members ends stars is split = record {
  at = stars.0;
  counts = count_split es ks is split;
  places = stars.1.places;
  all = all_listed es ks parts members ends stars.0 stars.1 is;
  stars = λ v w.
      ap (λ (l : List (ℕ × Bool)). counted_before (v, w) (fan_of ks l)) (stars.1.listed.lists (stars.0 v))
      ∙ (listed_sum stars.0 ks (v, w) (length ks) (omega arith)
      ∙ (ap (sum_of (λ (k : Counted). k.1 *ℤ edge_net_before (v, w) k.0)) (take_all (length ks) ks (omega arith))
      ∙ counted_sum (edge_net_before (v, w)) (odd (v, w)) es ks split.proper is));
}
  where
    odd : (s e : Edge) → edge_net_before s (back e) ≡ neg_ℤ (edge_net_before s e)
    odd s e = omega (arith, linear)

-- a segment that counts split edges stands among them, with its net count
pub segment_at : (es : List Edge) (ks : List Counted) (i : ℕ) → CountSplit es ks → i < length ks → IsSegment es (segment ks i)
segment_at es ks i counts h = counts.segments i (((pos 0, pos 0), (pos 0, pos 0)), pos 0) h
