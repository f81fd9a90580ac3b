-- Lemmas over points and lists: rings in order, and where each of them belongs.
use Rattle.std.proofs.Common.{◌≡◌, ℕ, ◌+◌, ◌<◌, ◌≤◌, ⊎_elim, zero, suc, Bool, true, false, not, ◌||◌, ◌&&◌, List, [], ◌∷◌, length, get_or, below_more, refl, sym, ◌∙◌, ap, subst, arith}
use Rattle.std.specs.Prelude.{ℤ, pos, ◌≤ℤ◌, ◌<ℤ◌, int_lt, nat_eq, Option, Some, None, MatchOption}
use Rattle.std.specs.Ordering.{int_eq, int_cmp, ordering_then, is_lt}
use Rattle.std.specs.declared.cmp.Ordering.{Ordering}
use Rattle.std.specs.Cmp.Lexicographic.{slice_cmp}
use Rattle.std.specs.List.{list_any, enumerate_from}
use Rattle.std.specs.List.Sorted.{IsSorted, IsSortedBy}
use Rattle.std.proofs.lemmas.Int.{ints, by_lt_z}
use Rattle.std.proofs.lemmas.Bool.{cases_Bool, both_ways, and_parts, or_from, eqb-true, eq-eqb, or_right}
use Rattle.std.proofs.lemmas.Bool.Decides.{Decides-int_eq}
use Rattle.std.proofs.Math.Bool.{and-not_self, and-false}
use Rattle.std.proofs.lemmas.List.{get_or-map, length-map}
use Rattle.mesh_plane.specs.Plane.{Point}
use Rattle.mesh_plane.specs.Order.{point_lt}
use Rattle.mesh_plane.specs.Winding.{holds}
use Rattle.mesh_shapes.specs.Contours.{double_area}
use Rattle.mesh_shapes.specs.Homes.{NoneEncloses, IsHolder, ring_at, placed, encloses_at, IsHome, heads, stands}
use Rattle.mesh_shapes.specs.Resolution.{Ring, Placed, points_lt, is_positive, encloses, is_before, is_head, stands_with}
use Rattle.mesh_shapes.specs.Vectors.{RingVec, ring_of_vec, rings_of_vecs}
use Rattle.mesh_shapes.specs.Private.Grouping.{areas_of}
use Rattle.mesh_plane.proofs.Comparing.{less_test, not_less_test, test_less, test_not_less, point_cmp, cmp_lt, then_lt, then_eq, first_not_less}
use Rattle.mesh_plane.proofs.Whole.{both_le}

-- ---- what stands at a place
pub view_at : (rs : List RingVec) (i : ℕ) (r : RingVec) (d : Ring) → i < length rs → get_or (rings_of_vecs rs) i d ≡ ring_of_vec (get_or rs i r)
view_at rs i r d low = get_or-map ring_of_vec rs i r d low

pub area_at : (rs : List Ring) (areas : List ℤ) (i : ℕ) → areas ≡ areas_of rs → i < length rs → get_or areas i (pos 0) ≡ double_area (ring_at rs i).1.0
area_at rs areas i e low = ap (λ (l : List ℤ). get_or l i (pos 0)) e ∙ get_or-map (λ (r : Ring). double_area r.0) rs i ([], (pos 0, pos 0)) (pos 0) low

pub positive_at : (rs : List Ring) (areas : List ℤ) (i : ℕ) → areas ≡ areas_of rs → i < length rs → int_lt (pos 0) (get_or areas i (pos 0)) ≡ is_positive (ring_at rs i)
positive_at rs areas i e low = ap (λ (z : ℤ). int_lt (pos 0) z) (area_at rs areas i e low)

-- ---- the order of holders
abbrev pub area : List Ring → ℕ → ℤ
area rs i = double_area (ring_at rs i).1.0

pub before_not : (rs : List Ring) (j k : ℕ) → area rs k <ℤ area rs j → is_before (ring_at rs j) (ring_at rs k) ≡ false
before_not rs j k h =
    or_from (int_lt (area rs j) (area rs k)) (int_eq (area rs j) (area rs k) && int_lt (pos j) (pos k)) (not_less_test (area rs j) (area rs k) (omega (arith, ints)))
    (ap (λ (b : Bool). b && int_lt (pos j) (pos k)) (apart (area rs j) (area rs k) h))
  where
    apart : (a b : ℤ) → b <ℤ a → int_eq a b ≡ false
    apart a b l = ⊎_elim (λ (t : int_eq a b ≡ true). absurd (less_apart a b l ((Decides-int_eq a b).0 t))) (λ (f : int_eq a b ≡ false). f) (cases_Bool (int_eq a b))
      where
        less_apart : (a b : ℤ) → b <ℤ a → a ≡ b → ⊥
        less_apart a b l e = omega (arith, ints)

-- a later ring of no less area is not before
later_not : (rs : List Ring) (j k : ℕ) → area rs k ≤ℤ area rs j → k ≤ j → is_before (ring_at rs j) (ring_at rs k) ≡ false
later_not rs j k h l =
    or_from (int_lt (area rs j) (area rs k)) (int_eq (area rs j) (area rs k) && int_lt (pos j) (pos k)) (not_less_test (area rs j) (area rs k) h)
    (ap (λ (b : Bool). int_eq (area rs j) (area rs k) && b) (places j k l) ∙ and-false (int_eq (area rs j) (area rs k)))
  where
    places : (j k : ℕ) → k ≤ j → int_lt (pos j) (pos k) ≡ false
    places j k l = not_less_test (pos j) (pos k) (omega (arith, ints))

-- what is not before another has no less area
not_before_area : (rs : List Ring) (j k : ℕ) → is_before (ring_at rs j) (ring_at rs k) ≡ false → area rs k ≤ℤ area rs j
not_before_area rs j k h =
    by_lt_z (area rs j) (area rs k)
    (λ (l : area rs j <ℤ area rs k). absurd (both_ways (is_before (ring_at rs j) (ring_at rs k)) h (ap (λ (b : Bool). b || (int_eq (area rs j) (area rs k) && int_lt (pos j) (pos k))) (less_test (area rs j) (area rs k) l))))
    (λ (l : area rs k ≤ℤ area rs j). l)

-- of two places one ring is before the other
one_before : (rs : List Ring) (j k : ℕ) → (j ≡ k → ⊥) → is_before (ring_at rs j) (ring_at rs k) ≡ false → is_before (ring_at rs k) (ring_at rs j) ≡ true
one_before rs j k differ h =
    let le = not_before_area rs j k h in
    by_lt_z (area rs k) (area rs j)
    (λ (l : area rs k <ℤ area rs j). ap (λ (b : Bool). b || (int_eq (area rs k) (area rs j) && int_lt (pos k) (pos j))) (less_test (area rs k) (area rs j) l))
    (λ (l : area rs j ≤ℤ area rs k).
    let e : area rs k ≡ area rs j = both_le (area rs k) (area rs j) le l in
    let same : int_eq (area rs k) (area rs j) ≡ true = (Decides-int_eq (area rs k) (area rs j)).1 e in
    let same' : int_eq (area rs j) (area rs k) ≡ true = (Decides-int_eq (area rs j) (area rs k)).1 (sym e) in
    (λ i. not_less_test (area rs k) (area rs j) l i || (same i && by_place same' i)))
  where
    less_places : (j k : ℕ) → (j ≡ k → ⊥) → int_lt (pos j) (pos k) ≡ false → int_lt (pos k) (pos j) ≡ true
    less_places j k n f = less_test (pos k) (pos j) (apart j k n (test_not_less (pos j) (pos k) f))
      where
        apart : (j k : ℕ) → (j ≡ k → ⊥) → pos k ≤ℤ pos j → pos k <ℤ pos j
        apart j k n l = by_lt_z (pos k) (pos j) (λ (x : pos k <ℤ pos j). x) (λ (x : pos j ≤ℤ pos k). absurd (n (omega (arith, ints))))

    by_place : int_eq (area rs j) (area rs k) ≡ true → int_lt (pos k) (pos j) ≡ true
    by_place s =
        less_places j k differ
        (⊎_elim
        (λ (t : int_lt (pos j) (pos k) ≡ true).
        absurd (both_ways (is_before (ring_at rs j) (ring_at rs k)) h (or_right (int_lt (area rs j) (area rs k)) (int_eq (area rs j) (area rs k) && int_lt (pos j) (pos k)) (λ i. s i && t i))))
        (λ (f : int_lt (pos j) (pos k) ≡ false). f) (cases_Bool (int_lt (pos j) (pos k))))

-- ---- the best holder so far
pub holder_none : (rs : List Ring) (q : Point) → NoneEncloses rs 0 q
holder_none rs q k h = absurd (omega arith)

pub holder_kept : (rs : List Ring) (q : Point) (k : ℕ) (best : Option ℕ) → MatchOption best (NoneEncloses rs k q) (IsHolder rs k q) → encloses_at rs k q ≡ false →
    MatchOption best (NoneEncloses rs (k + 1) q) (IsHolder rs (k + 1) q)
holder_kept rs q k None h new = below_more (λ (j : ℕ). encloses_at rs j q ≡ false) k h new
holder_kept rs q k (Some b) h new = record {
  within = omega (arith, h.within);
  enclosing = h.enclosing;
  first = below_more (λ (j : ℕ). encloses_at rs j q ≡ true → is_before (ring_at rs j) (ring_at rs b) ≡ false) k h.first
      (λ (t : encloses_at rs k q ≡ true). absurd (both_ways (encloses_at rs k q) new t));
}

pub holder_no_less : (rs : List Ring) (q : Point) (k b : ℕ) → IsHolder rs k q b → int_lt (area rs k) (area rs b) ≡ false → IsHolder rs (k + 1) q b
holder_no_less rs q k b h l = record {
  within = omega (arith, h.within);
  enclosing = h.enclosing;
  first = below_more (λ (j : ℕ). encloses_at rs j q ≡ true → is_before (ring_at rs j) (ring_at rs b) ≡ false) k h.first
      (λ (t : encloses_at rs k q ≡ true). later_not rs k b (test_not_less (area rs k) (area rs b) l) (omega (arith, h.within)));
}

pub holder_first : (rs : List Ring) (q : Point) (k : ℕ) → NoneEncloses rs k q → encloses_at rs k q ≡ true → IsHolder rs (k + 1) q k
holder_first rs q k h t = record {
  within = omega arith;
  enclosing = t;
  first = below_more (λ (j : ℕ). encloses_at rs j q ≡ true → is_before (ring_at rs j) (ring_at rs k) ≡ false) k
      (λ (j : ℕ) (l : j < k) (r : encloses_at rs j q ≡ true). absurd (both_ways (encloses_at rs j q) (h j l) r))
      (λ (r : encloses_at rs k q ≡ true). later_not rs k k (same (area rs k)) (omega arith));
}
  where
    same : (a : ℤ) → a ≤ℤ a
    same a = omega (arith, ints)

pub holder_less : (rs : List Ring) (q : Point) (k b : ℕ) → IsHolder rs k q b → encloses_at rs k q ≡ true → int_lt (area rs k) (area rs b) ≡ true → IsHolder rs (k + 1) q k
holder_less rs q k b h t less = record {
  within = omega arith;
  enclosing = t;
  first = below_more (λ (j : ℕ). encloses_at rs j q ≡ true → is_before (ring_at rs j) (ring_at rs k) ≡ false) k
      (λ (j : ℕ) (l : j < k) (r : encloses_at rs j q ≡ true).
      before_not rs j k (chain (area rs k) (area rs b) (area rs j) (test_less (area rs k) (area rs b) less) (not_before_area rs j b (h.first j l r))))
      (λ (r : encloses_at rs k q ≡ true). later_not rs k k (same (area rs k)) (omega arith));
}
  where
    same : (a : ℤ) → a ≤ℤ a
    same a = omega (arith, ints)

    chain : (a b c : ℤ) → a <ℤ b → b ≤ℤ c → a <ℤ c
    chain a b c h k = omega (arith, ints)

-- ---- tests over all rings
any_none_from : (p : Placed → Bool) (n : ℕ) (rs : List Ring) → ((k : ℕ) → k < length rs → p (n + k, get_or rs k ([], (pos 0, pos 0))) ≡ false) → list_any p (enumerate_from n rs) ≡ false
any_none_from p n [] h = refl
any_none_from p n (r ∷ rs) h =
    or_from (p (n, r)) (list_any p (enumerate_from (n + 1) rs))
    (subst (λ (m : ℕ). p (m, r) ≡ false) (omega arith) (h zero (omega arith)))
    (any_none_from p (n + 1) rs (λ (k : ℕ) (l : k < length rs). subst (λ (m : ℕ). p (m, get_or rs k ([], (pos 0, pos 0))) ≡ false) (omega arith) (h (suc k) (omega arith))))

pub any_none : (p : Placed → Bool) (rs : List Ring) → ((k : ℕ) → k < length rs → p (ring_at rs k) ≡ false) → list_any p (placed rs) ≡ false
any_none p rs h =
    any_none_from p 0 rs (λ (k : ℕ) (l : k < length rs). subst (λ (m : ℕ). p (m, get_or rs k ([], (pos 0, pos 0))) ≡ false) (omega arith) (h k l))

any_one_from : (p : Placed → Bool) (n : ℕ) (rs : List Ring) (k : ℕ) → k < length rs → p (n + k, get_or rs k ([], (pos 0, pos 0))) ≡ true → list_any p (enumerate_from n rs) ≡ true
any_one_from p n [] k l h = absurd (omega arith)
any_one_from p n (r ∷ rs) zero l h =
    ap (λ (b : Bool). b || list_any p (enumerate_from (n + 1) rs)) (subst (λ (m : ℕ). p (m, r) ≡ true) (omega arith) h)
any_one_from p n (r ∷ rs) (suc k) l h =
    or_right (p (n, r)) (list_any p (enumerate_from (n + 1) rs)) (any_one_from p (n + 1) rs k (omega arith) (subst (λ (m : ℕ). p (m, get_or rs k ([], (pos 0, pos 0))) ≡ true) (omega arith) h))

pub any_one : (p : Placed → Bool) (rs : List Ring) (k : ℕ) → k < length rs → p (ring_at rs k) ≡ true → list_any p (placed rs) ≡ true
any_one p rs k l h = any_one_from p 0 rs k l (subst (λ (m : ℕ). p (m, get_or rs k ([], (pos 0, pos 0))) ≡ true) (omega arith) h)

-- ---- where a ring belongs
pub home_positive : (rs : List Ring) (i : ℕ) → is_positive (ring_at rs i) ≡ true → IsHome rs i i
home_positive rs i h = heads (ap (λ (b : Bool). b || not (list_any (λ (k : Placed). encloses k (ring_at rs i)) (placed rs))) h) refl

pub home_alone : (rs : List Ring) (i : ℕ) → NoneEncloses rs (length rs) (ring_at rs i).1.1 → IsHome rs i i
home_alone rs i h =
    heads (or_right (is_positive (ring_at rs i)) (not (list_any (λ (k : Placed). encloses k (ring_at rs i)) (placed rs)))
    (ap not (any_none (λ (k : Placed). encloses k (ring_at rs i)) rs h))) refl

pub home_held : (rs : List Ring) (i b : ℕ) → is_positive (ring_at rs i) ≡ false → IsHolder rs (length rs) (ring_at rs i).1.1 b → IsHome rs i b
home_held rs i b flat h =
    stands
    (λ j. flat j || not (any_one (λ (k : Placed). encloses k (ring_at rs i)) rs b h.within h.enclosing j))
    (λ (e : b ≡ i). both_ways (is_positive (ring_at rs i)) flat
    (subst (λ (k : ℕ). is_positive (ring_at rs k) ≡ true) e (and_parts (is_positive (ring_at rs b)) (holds 2 (ring_at rs i).1.1 (ring_at rs b).1.0) h.enclosing).0))
    one
  where
    one : (k : ℕ) → k < length rs → stands_with (placed rs) (ring_at rs k) (ring_at rs i) ≡ nat_eq k b
    one k l =
        ⊎_elim
        (λ (t : nat_eq k b ≡ true).
        subst (λ (m : ℕ). stands_with (placed rs) (ring_at rs m) (ring_at rs i) ≡ true) (sym (eqb-true k b t))
        (λ j. h.enclosing j && not (any_none (λ (m : Placed). encloses m (ring_at rs i) && is_before m (ring_at rs b)) rs not_first j))
        ∙ sym t)
        (λ (f : nat_eq k b ≡ false).
        by_round (encloses_at rs k (ring_at rs i).1.1) refl (λ (e : k ≡ b). both_ways (nat_eq k b) f (eq-eqb k b e)) ∙ sym f)
        (cases_Bool (nat_eq k b))
      where
        not_first : (m : ℕ) → m < length rs → (encloses (ring_at rs m) (ring_at rs i) && is_before (ring_at rs m) (ring_at rs b)) ≡ false
        not_first m lm = by (encloses (ring_at rs m) (ring_at rs i)) refl
          where
            by : (r : Bool) → encloses (ring_at rs m) (ring_at rs i) ≡ r → (r && is_before (ring_at rs m) (ring_at rs b)) ≡ false
            by true t = h.first m lm t
            by false t = refl

        by_round : (r : Bool) → encloses (ring_at rs k) (ring_at rs i) ≡ r → (k ≡ b → ⊥) → (r && not (list_any (λ (m : Placed). encloses m (ring_at rs i) && is_before m (ring_at rs k)) (placed rs))) ≡ false
        by_round true t differ =
            ap not (any_one (λ (m : Placed). encloses m (ring_at rs i) && is_before m (ring_at rs k)) rs b h.within (λ j. h.enclosing j && one_before rs k b differ (h.first k l t) j))
        by_round false t differ = refl

-- ---- members of a shape
abbrev pub is_member : List Ring → ℕ → Placed → Bool
is_member rs h r = not (is_head (placed rs) r) && stands_with (placed rs) (ring_at rs h) r

pub member_test : (rs : List Ring) (i b h : ℕ) → IsHome rs i b → h < length rs → is_member rs h (ring_at rs i) ≡ (nat_eq b h && not (nat_eq i h))
member_test rs i b h (heads t e) low =
    (λ j. not (t j) && stands_with (placed rs) (ring_at rs h) (ring_at rs i))
    ∙ sym ((λ j. nat_eq (e j) h && not (nat_eq i h)) ∙ and-not_self (nat_eq i h))
member_test rs i b h (stands f differ one) low =
    (λ j. not (f j) && one h low j)
    ∙ by (nat_eq b h) refl
  where
    swap : nat_eq h b ≡ nat_eq b h
    swap =
        ⊎_elim
        (λ (t : nat_eq b h ≡ true). eq-eqb h b (sym (eqb-true b h t)) ∙ sym t)
        (λ (n : nat_eq b h ≡ false).
        ⊎_elim (λ (t : nat_eq h b ≡ true). absurd (both_ways (nat_eq b h) n (eq-eqb b h (sym (eqb-true h b t))))) (λ (m : nat_eq h b ≡ false). m ∙ sym n) (cases_Bool (nat_eq h b)))
        (cases_Bool (nat_eq b h))

    by : (x : Bool) → nat_eq b h ≡ x → nat_eq h b ≡ (x && not (nat_eq i h))
    by true t =
        swap ∙ (t ∙ sym (ap not
        (⊎_elim (λ (s : nat_eq i h ≡ true). absurd (differ (eqb-true b h t ∙ sym (eqb-true i h s)))) (λ (s : nat_eq i h ≡ false). s) (cases_Bool (nat_eq i h)))))
    by false t = swap ∙ t

pub head_test : (rs : List Ring) (i b : ℕ) → IsHome rs i b → is_head (placed rs) (ring_at rs i) ≡ nat_eq b i
head_test rs i b (heads t e) = t ∙ sym (eq-eqb b i e)
head_test rs i b (stands f differ one) =
    f ∙ sym (⊎_elim (λ (s : nat_eq b i ≡ true). absurd (differ (eqb-true b i s))) (λ (s : nat_eq b i ≡ false). s) (cases_Bool (nat_eq b i)))

-- ---- the order of rings
abbrev pub ring_vec_cmp : RingVec → RingVec → Ordering
ring_vec_cmp x y = ordering_then (slice_cmp point_cmp x.0.items y.0.items) (point_cmp x.1 y.1)

point_cmp_lt : (p q : Point) → is_lt (point_cmp p q) ≡ point_lt p q
point_cmp_lt p q = then_lt (int_cmp p.0 q.0) (int_cmp p.1 q.1) ∙ (λ i. cmp_lt p.0 q.0 i || (int_eq p.0 q.0 && cmp_lt p.1 q.1 i))

slice_lt : (ps qs : List Point) → is_lt (slice_cmp point_cmp ps qs) ≡ points_lt ps qs
slice_lt [] [] = refl
slice_lt [] (q ∷ qs) = refl
slice_lt (p ∷ ps) [] = refl
slice_lt (p ∷ ps) (q ∷ qs) =
    then_lt (point_cmp p q) (slice_cmp point_cmp ps qs)
    ∙ (λ i. point_cmp_lt p q i || (then_eq (int_cmp p.0 q.0) (int_cmp p.1 q.1) i && slice_lt ps qs i))

ring_vec_lt : (x y : RingVec) → is_lt (ring_vec_cmp x y) ≡ false → points_lt x.0.items y.0.items ≡ false
ring_vec_lt x y h =
    sym (slice_lt x.0.items y.0.items) ∙ first_not_less (slice_cmp point_cmp x.0.items y.0.items) (point_cmp x.1 y.1) h

pub sorted_views : (rs : List RingVec) → IsSorted ring_vec_cmp rs → IsSortedBy (λ (r s : Ring). points_lt r.0 s.0) (rings_of_vecs rs)
sorted_views [] h k d le low = absurd (omega arith)
sorted_views (x ∷ rs) h k d le low =
    let n : k + 1 < length (x ∷ rs) = omega (arith, length-map (x ∷ rs) ring_of_vec) in
    let a : k < length (x ∷ rs) = omega arith in
    (λ i. points_lt (get_or-map ring_of_vec (x ∷ rs) (k + 1) x d n i).0 (get_or-map ring_of_vec (x ∷ rs) k x d a i).0)
    ∙ ring_vec_lt (get_or (x ∷ rs) (k + 1) x) (get_or (x ∷ rs) k x) (h k x le n)
