-- Lemmas over points and lists: walking along edges, each of which is used once.
use Rattle.std.proofs.Common.{◌≡◌, ℕ, ◌+◌, ◌-◌, ◌<◌, ◌≤◌, ◌⊎◌, inl, inr, ⊎_elim, zero, suc, Bool, true, false, cond, ◌&&◌, ◌||◌, List, [], ◌∷◌, ◌++◌, length, get_or, set, replicate, below_more, refl, sym, ◌∙◌, ap, subst, arith}
use Rattle.std.specs.Prelude.{ℤ, pos, ◌+ℤ◌, ◌-ℤ◌, ◌≤ℤ◌, ◌<ℤ◌, int_lt, Option, Some, None, MatchOption, Vec}
use Rattle.std.specs.declared.alloc.Global.{Global}
use Rattle.std.proofs.lemmas.List.{get_or_default}
use Rattle.std.specs.Ordering.{int_eq, int_cmp, ordering_then, is_lt}
use Rattle.std.specs.List.Sorted.{IsSorted}
use Rattle.std.proofs.lemmas.Int.{ints, by_lt_z}
use Rattle.std.proofs.lemmas.Bool.{cases_Bool, both_ways, or_cases, and_parts, false≢true, cases_lt}
use Rattle.std.proofs.lemmas.Bool.Decides.{Decides-int_eq}
use Rattle.std.proofs.lemmas.List.Elements.{All-nil, All-push}
use Rattle.mesh_plane.specs.Plane.{Point, Edge}
use Rattle.mesh_plane.specs.Order.{point_lt}
use Rattle.mesh_plane.specs.Winding.{sum_of, total, route, boundary, same_point, IsBalanced}
use Rattle.mesh_plane.proofs.Whole.{linear}
use Rattle.mesh_plane.proofs.Sums.{sum_of_append, sum_of_flat_map}
use Rattle.mesh_plane.proofs.ClosedLists.{route_append}
use Rattle.mesh_plane.proofs.Balance.{growth, growth_round, growth_of_balanced, balanced_by_growth, route_growth}
use Rattle.mesh_lattice.specs.Split.{same_edge}
use Rattle.mesh_lattice.specs.Boundary.{count}
use Rattle.mesh_lattice.specs.Counted.{bit}
use Rattle.mesh_shapes.specs.Private.Unused.{unused, IsOpen, IsNext, TakesContours}
use Rattle.mesh_shapes.specs.Vectors.{StartsInOrder, HavePoints, contour_edges}
use Rattle.mesh_lattice.proofs.Counts.{bit_least}
use Rattle.mesh_lattice.proofs.SidesBack.{count_more}
use Rattle.mesh_plane.proofs.Comparing.{decides_point}
use Rattle.mesh_plane.proofs.Comparing.{less_test, not_less_test, test_less, edge_cmp, cmp_lt, then_lt, first_not_less}
use Rattle.std.specs.List.Sorted.{IsPartitionedBy}

-- ---- the order of points
-- before another in the order
abbrev pub Before : Point → Point → Type 0
Before p q = (p.0 <ℤ q.0) ⊎ ((p.0 ≡ q.0) × (p.1 <ℤ q.1))

pub before_of : (p q : Point) → point_lt p q ≡ true → Before p q
before_of p q h =
    ⊎_elim (λ (x : int_lt p.0 q.0 ≡ true). inl (test_less p.0 q.0 x))
    (λ (x : (int_eq p.0 q.0 && int_lt p.1 q.1) ≡ true).
    let parts = and_parts (int_eq p.0 q.0) (int_lt p.1 q.1) x in
    inr ((Decides-int_eq p.0 q.0).0 parts.0, test_less p.1 q.1 parts.1))
    (or_cases (int_lt p.0 q.0) (int_eq p.0 q.0 && int_lt p.1 q.1) h)

pub of_before : (p q : Point) → Before p q → point_lt p q ≡ true
of_before p q (inl h) = λ i. less_test p.0 q.0 h i || (int_eq p.0 q.0 && int_lt p.1 q.1)
of_before p q (inr h) =
    (λ i. not_less_test p.0 q.0 (same p.0 q.0 h.0) i || ((Decides-int_eq p.0 q.0).1 h.0 i && less_test p.1 q.1 h.1 i))
  where
    same : (a b : ℤ) → a ≡ b → b ≤ℤ a
    same a b e = omega (arith, ints)

pub not_before : (p q : Point) → (Before p q → ⊥) → point_lt p q ≡ false
not_before p q h = ⊎_elim (λ (t : point_lt p q ≡ true). absurd (h (before_of p q t))) (λ (f : point_lt p q ≡ false). f) (cases_Bool (point_lt p q))

-- of two points one is before the other, or they are one
pub three_ways : (p q : Point) → (Before p q ⊎ Before q p) ⊎ (p ≡ q)
three_ways p q =
    by_lt_z p.0 q.0 (λ (x : p.0 <ℤ q.0). inl (inl (inl x)))
    (λ (x : q.0 ≤ℤ p.0).
    by_lt_z q.0 p.0 (λ (y : q.0 <ℤ p.0). inl (inr (inl y)))
    (λ (y : p.0 ≤ℤ q.0).
    let e : p.0 ≡ q.0 = both p.0 q.0 x y in
    by_lt_z p.1 q.1 (λ (z : p.1 <ℤ q.1). inl (inl (inr (e, z))))
    (λ (z : q.1 ≤ℤ p.1).
    by_lt_z q.1 p.1 (λ (w : q.1 <ℤ p.1). inl (inr (inr (sym e, w))))
    (λ (w : p.1 ≤ℤ q.1). let f : p.1 ≡ q.1 = both p.1 q.1 z w in inr (λ i. (e i, f i))))))
  where
    both : (a b : ℤ) → b ≤ℤ a → a ≤ℤ b → a ≡ b
    both a b h k = omega (arith, ints)

pub before_trans : (p q r : Point) → Before p q → Before q r → Before p r
before_trans p q r (inl a) (inl b) = inl (omega (arith, ints))
before_trans p q r (inl a) (inr b) = inl (omega (arith, ints, b.0))
before_trans p q r (inr a) (inl b) = inl (omega (arith, ints, a.0))
before_trans p q r (inr a) (inr b) = inr (omega (arith, ints, a.0, b.0), omega (arith, ints, a.1, b.1))

pub before_not_self : (p : Point) → Before p p → ⊥
before_not_self p (inl a) = omega (arith, ints)
before_not_self p (inr a) = omega (arith, ints, a.1)

-- no more than `b`, which is before `c`
pub upto_before : (a b c : Point) → point_lt b a ≡ false → point_lt b c ≡ true → point_lt a c ≡ true
upto_before a b c h k =
    of_before a c
    (⊎_elim
    (λ (o : Before a b ⊎ Before b a).
    ⊎_elim (λ (x : Before a b). before_trans a b c x (before_of b c k)) (λ (x : Before b a). absurd (both_ways (point_lt b a) h (of_before b a x))) o)
    (λ (e : a ≡ b). subst (λ (p : Point). Before p c) (sym e) (before_of b c k))
    (three_ways a b))

-- no less than `a`, which is no less than `c`
pub from_after : (a b c : Point) → point_lt b a ≡ false → point_lt a c ≡ false → point_lt b c ≡ false
from_after a b c h k =
    not_before b c (λ (x : Before b c).
    both_ways (point_lt a c) k
    (of_before a c
    (⊎_elim
    (λ (o : Before a b ⊎ Before b a).
    ⊎_elim (λ (y : Before a b). before_trans a b c y x) (λ (y : Before b a). absurd (both_ways (point_lt b a) h (of_before b a y))) o)
    (λ (e : a ≡ b). subst (λ (p : Point). Before p c) (sym e) x)
    (three_ways a b))))

pub neither_before : (a b : Point) → point_lt a b ≡ false → point_lt b a ≡ false → a ≡ b
neither_before a b h k =
    ⊎_elim
    (λ (o : Before a b ⊎ Before b a).
    ⊎_elim (λ (x : Before a b). absurd (both_ways (point_lt a b) h (of_before a b x))) (λ (x : Before b a). absurd (both_ways (point_lt b a) k (of_before b a x))) o)
    (λ (e : a ≡ b). e)
    (three_ways a b)

pub lt_self : (a : Point) → point_lt a a ≡ false
lt_self a = not_before a a (before_not_self a)

-- ---- what a sort of edges gives
pub adjacent_starts : (x y : Edge) → is_lt (edge_cmp x y) ≡ false → point_lt x.0 y.0 ≡ false
adjacent_starts x y h =
    sym ((then_lt (int_cmp x.0.0 y.0.0) (int_cmp x.0.1 y.0.1)) ∙ λ i. cmp_lt x.0.0 y.0.0 i || (int_eq x.0.0 y.0.0 && cmp_lt x.0.1 y.0.1 i))
    ∙ first_not_less (ordering_then (int_cmp x.0.0 y.0.0) (int_cmp x.0.1 y.0.1)) (ordering_then (int_cmp x.1.0 y.1.0) (int_cmp x.1.1 y.1.1)) h

chain_starts : (es : List Edge) → ((k : ℕ) (d : Edge) → k + 1 < length es → point_lt (get_or es (k + 1) d).0 (get_or es k d).0 ≡ false) →
    (i n : ℕ) (d : Edge) → i + n < length es → point_lt (get_or es (i + n) d).0 (get_or es i d).0 ≡ false
chain_starts es next i zero d low = subst (λ (m : ℕ). point_lt (get_or es m d).0 (get_or es i d).0 ≡ false) (omega arith) (lt_self (get_or es i d).0)
chain_starts es next i (suc n) d low =
    let before : point_lt (get_or es (i + n) d).0 (get_or es i d).0 ≡ false = chain_starts es next i n d (omega arith) in
    let step : point_lt (get_or es (i + n + 1) d).0 (get_or es (i + n) d).0 ≡ false = next (i + n) d (omega arith) in
    let e : i + n + 1 ≡ i + suc n = omega arith in
    subst (λ (m : ℕ). point_lt (get_or es m d).0 (get_or es i d).0 ≡ false) e
    (from_after (get_or es (i + n) d).0 (get_or es (i + n + 1) d).0 (get_or es i d).0 step before)

pub sorted_starts : (es : List Edge) → IsSorted edge_cmp es → StartsInOrder es
sorted_starts es h i j d le low =
    let e : i + (j - i) ≡ j = omega arith in
    subst (λ (m : ℕ). point_lt (get_or es m d).0 (get_or es i d).0 ≡ false) e
    (chain_starts es (λ (k : ℕ) (d : Edge) (l : k + 1 < length es). adjacent_starts (get_or es (k + 1) d) (get_or es k d) (h k d (omega arith) l)) i (j - i) d (omega arith))

-- ---- used and unused
pub unused_set : (es : List Edge) (bs : List Bool) (k : ℕ) (d : Edge) → k < length es → get_or bs k true ≡ false → (g : Edge → ℤ) →
    sum_of g (unused es bs) ≡ g (get_or es k d) +ℤ sum_of g (unused es (set bs k true))
unused_set [] bs k d low h g = absurd (omega arith)
unused_set (e ∷ es) [] k d low h g = absurd (false≢true (sym h))
unused_set (e ∷ es) (b ∷ bs) zero d low h g = ap (λ (x : Bool). sum_of g (cond x (unused es bs) (e ∷ unused es bs))) h
unused_set (e ∷ es) (b ∷ bs) (suc k) d low h g = by b (unused_set es bs k d (omega arith) h g)
  where
    by : (x : Bool) → sum_of g (unused es bs) ≡ g (get_or es k d) +ℤ sum_of g (unused es (set bs k true)) →
        sum_of g (cond x (unused es bs) (e ∷ unused es bs)) ≡ g (get_or es k d) +ℤ sum_of g (cond x (unused es (set bs k true)) (e ∷ unused es (set bs k true)))
    by true f = f
    by false f = omega (arith, linear, f)

-- no unused edge starts at a point where all that start there are used
pub unused_starts : (es : List Edge) (bs : List Bool) (at : Point) (d : Edge) →
    ((k : ℕ) → k < length es → (get_or es k d).0 ≡ at → get_or bs k true ≡ true) → length bs ≡ length es →
    sum_of (λ (e : Edge). bit (same_point at e.0)) (unused es bs) ≡ pos 0
unused_starts [] bs at d h len = refl
unused_starts (e ∷ es) [] at d h len = absurd (omega arith)
unused_starts (e ∷ es) (b ∷ bs) at d h len =
    by b refl (unused_starts es bs at d (λ (k : ℕ) (l : k < length es) (s : (get_or es k d).0 ≡ at). h (suc k) (omega arith) s) (omega arith))
  where
    by : (x : Bool) → b ≡ x → sum_of (λ (e : Edge). bit (same_point at e.0)) (unused es bs) ≡ pos 0 →
        sum_of (λ (e : Edge). bit (same_point at e.0)) (cond x (unused es bs) (e ∷ unused es bs)) ≡ pos 0
    by true t f = f
    by false t f =
        ⊎_elim
        (λ (s : same_point at e.0 ≡ true). absurd (both_ways b t (h zero (omega arith) (sym ((decides_point at e.0).0 s)))))
        (λ (n : same_point at e.0 ≡ false). omega (arith, linear, ap bit n, f))
        (cases_Bool (same_point at e.0))

pub unused_none : (es : List Edge) (bs : List Bool) → length bs ≡ length es → ((k : ℕ) → k < length es → get_or bs k true ≡ true) → unused es bs ≡ []
unused_none [] bs len h = refl
unused_none (e ∷ es) [] len h = absurd (omega arith)
unused_none (e ∷ es) (b ∷ bs) len h =
    (λ i. cond (h zero (omega arith) i) (unused es bs) (e ∷ unused es bs)) ∙ unused_none es bs (omega arith) (λ (k : ℕ) (l : k < length es). h (suc k) (omega arith))

pub unused_all : (es : List Edge) (n : ℕ) → unused es (replicate n false) ≡ es
unused_all [] n = refl
unused_all (e ∷ es) zero = ap (λ (l : List Edge). e ∷ l) (unused_nil es)
  where
    unused_nil : (es : List Edge) → unused es [] ≡ es
    unused_nil [] = refl
    unused_nil (e ∷ es) = ap (λ (l : List Edge). e ∷ l) (unused_nil es)
unused_all (e ∷ es) (suc n) = ap (λ (l : List Edge). e ∷ l) (unused_all es n)

-- how many edges are left
pub unused_length : (es : List Edge) (bs : List Bool) (k : ℕ) → k < length es → get_or bs k true ≡ false →
    length (unused es bs) ≡ length (unused es (set bs k true)) + 1
unused_length [] bs k low h = absurd (omega arith)
unused_length (e ∷ es) [] k low h = absurd (false≢true (sym h))
unused_length (e ∷ es) (b ∷ bs) zero low h = ap (λ (x : Bool). length (cond x (unused es bs) (e ∷ unused es bs))) h ∙ omega arith
unused_length (e ∷ es) (b ∷ bs) (suc k) low h = by b (unused_length es bs k (omega arith) h)
  where
    by : (x : Bool) → length (unused es bs) ≡ length (unused es (set bs k true)) + 1 →
        length (cond x (unused es bs) (e ∷ unused es bs)) ≡ length (cond x (unused es (set bs k true)) (e ∷ unused es (set bs k true))) + 1
    by true f = f
    by false f = omega arith

-- ---- balance along a trace

-- one more step of a trace
pub route_more : (g : Edge → ℤ) (a : Point) (xs : List Point) (y z : Point) → sum_of g (route a (xs ++ y ∷ []) z) ≡ sum_of g (route a xs y) +ℤ g (y, z)
route_more g a xs y z = ap (sum_of g) (route_append a xs y [] z) ∙ (sum_of_append g (route a xs y) ((y, z) ∷ []) ∙ omega (arith, linear))

-- what is left of a balanced list without a closed trace is balanced
pub left_balanced : (es : List Edge) (contour : List Point) (left : List Edge) → IsBalanced es →
    ((g : Edge → ℤ) → sum_of g es ≡ sum_of g (boundary contour) +ℤ sum_of g left) → IsBalanced left
left_balanced es contour left balanced same =
    balanced_by_growth left (λ (g : Point → ℤ).
    omega (arith, linear, same (λ (e : Edge). growth g e.0 e.1), growth_round g contour, growth_of_balanced es balanced g))

-- a trace that is not back at its start finds an edge to go on
pub not_stuck : (es : List Edge) (p : Point) (xs : List Point) (at : Point) (left : List Edge) → IsBalanced es → same_point at p ≡ false →
    ((g : Edge → ℤ) → sum_of g es ≡ sum_of g (route p xs at) +ℤ sum_of g left) →
    sum_of (λ (e : Edge). bit (same_point at e.0)) left ≡ pos 0 → ⊥
not_stuck es p xs at left balanced apart same none =
    omega (
      arith,
      linear,
      same (λ (e : Edge). growth mark e.0 e.1),
      route_growth mark p xs at,
      growth_of_balanced es balanced mark,
      ends left,
      ap bit apart,
      ap bit ((decides_point at at).1 refl),
      least left,
      none,
    )
  where
    mark : Point → ℤ
    mark v = bit (same_point at v)

    ends : (l : List Edge) → total (growth mark) l ≡ sum_of (λ (e : Edge). mark e.1) l -ℤ sum_of (λ (e : Edge). mark e.0) l
    ends [] = refl
    ends (e ∷ es) = omega (arith, linear, ends es)

    least : (l : List Edge) → pos 0 ≤ℤ sum_of (λ (e : Edge). mark e.1) l
    least [] = omega (arith, ints)
    least (e ∷ es) = omega (arith, linear, least es, bit_least (same_point at e.1))

-- equal sums give equal counts
pub count_sum : (e : Edge) (es : List Edge) → pos (count e es) ≡ sum_of (λ (d : Edge). bit (same_edge e d)) es
count_sum e [] = refl
count_sum e (d ∷ es) = omega (arith, linear, count_more e d es, count_sum e es)

pub counts_same : (e : Edge) (xs ys : List Edge) → ((g : Edge → ℤ) → sum_of g xs ≡ sum_of g ys) → count e xs ≡ count e ys
counts_same e xs ys h = omega (arith, ints, count_sum e xs, count_sum e ys, h (λ (d : Edge). bit (same_edge e d)))

-- ---- looking edges up by their start
-- edges in order are parted at a point: those that start before it come first
pub parted_at : (es : List Edge) (at : Point) → StartsInOrder es → IsPartitionedBy (λ (e : Edge). point_lt e.0 at) es
parted_at es at ordered i j d le low h = upto_before (get_or es i d).0 (get_or es j d).0 at (ordered i j d le low) h

-- none before the first that does not start at a lesser point
pub none_before : (es : List Edge) (used : List Bool) (first : ℕ) (at : Point) (d : Edge) (n : ℕ) →
    ((k : ℕ) (d : Edge) → k < n → point_lt (get_or es k d).0 at ≡ true) → (j : ℕ) → j < n → IsNext es used first at j → ⊥
none_before es used first at d n before j l h =
    both_ways (point_lt at at) (lt_self at) (subst (λ (p : Point). point_lt p at ≡ true) (h.starts d) (before j d l))

-- none from one on that starts past the point
pub none_after : (es : List Edge) (used : List Bool) (first : ℕ) (at : Point) (d₀ : Edge) (k : ℕ) → StartsInOrder es → k < length es →
    ((d : Edge) → point_lt (get_or es k d).0 at ≡ false) → same_point (get_or es k d₀).0 at ≡ false →
    ((j : ℕ) → j < k → IsNext es used first at j → ⊥) → (j : ℕ) → IsNext es used first at j → ⊥
none_after es used first at d₀ k ordered low after apart before j h =
    by_order (λ (l : j < k). before j l h)
    (λ (l : k ≤ j).
    let upto : point_lt at (get_or es k d₀).0 ≡ false =
    subst (λ (p : Point). point_lt p (get_or es k d₀).0 ≡ false) (h.starts d₀) (ordered k j d₀ l h.within) in
    both_ways (same_point (get_or es k d₀).0 at) apart ((decides_point (get_or es k d₀).0 at).1 (neither_before (get_or es k d₀).0 at (after d₀) upto)))
  where
    by_order : (j < k → ⊥) → (k ≤ j → ⊥) → ⊥
    by_order f g = ⊎_elim f g (cases_lt j k)

-- one more edge looked at
pub next_step : (es : List Edge) (used : List Bool) (first : ℕ) (at : Point) (best r : Option ℕ) (k : ℕ) → k < length es → ((d : Edge) → (get_or es k d).0 ≡ at) →
    MatchOption best ((j : ℕ) → j < k → IsNext es used first at j → ⊥) (IsNext es used first at) →
    MatchOption r ((best ≡ None) × (IsOpen used first k → ⊥)) (λ (b : ℕ). ((b ≡ k) × IsOpen used first k) ⊎ (best ≡ Some b)) →
    MatchOption r ((j : ℕ) → j < k + 1 → IsNext es used first at j → ⊥) (IsNext es used first at)
next_step es used first at best None k low starts was now =
    λ (j : ℕ) (l : j < k + 1) (h : IsNext es used first at j).
    at_none (subst (λ (o : Option ℕ). MatchOption o ((j : ℕ) → j < k → IsNext es used first at j → ⊥) (IsNext es used first at)) now.0 was) j l h
  where
    at_none : ((j : ℕ) → j < k → IsNext es used first at j → ⊥) → (j : ℕ) → j < k + 1 → IsNext es used first at j → ⊥
    at_none f j l h = below_more (λ (i : ℕ). IsNext es used first at i → ⊥) k f (λ (g : IsNext es used first at k). now.1 g.open') j l h
next_step es used first at best (Some b) k low starts was (inl h) =
    record { within = subst (λ (i : ℕ). i < length es) (sym h.0) low; starts = λ (d : Edge). ap (λ (i : ℕ). (get_or es i d).0) h.0 ∙ starts d; open' = subst (IsOpen used first) (sym h.0) h.1 }
next_step es used first at best (Some b) k low starts was (inr h) =
    subst (λ (o : Option ℕ). MatchOption o ((j : ℕ) → j < k → IsNext es used first at j → ⊥) (IsNext es used first at)) h was

-- ---- a trace under way
-- from the edge `first` the trace has come to `at`: its points so far, and the marks before it and now
pub record IsWalk (es : List Edge) (was now : List Bool) (first : ℕ) (points : List Point) (at : Point) : Type 0 where
  pub start : Point
  pub begins : (d : Edge) → (get_or es first d).0 ≡ start
  pub rest : List Point
  pub points_are : points ≡ start ∷ rest
  pub walked : (g : Edge → ℤ) → sum_of g (unused es was) ≡ sum_of g (route start rest at) +ℤ sum_of g (unused es now)
  pub kept : (k : ℕ) → get_or was k true ≡ true → get_or now k true ≡ true
  pub marked : get_or now first true ≡ true
  pub marks : length now ≡ length es

set_kept : (bs : List Bool) (i k : ℕ) → get_or bs k true ≡ true → get_or (set bs i true) k true ≡ true
set_kept [] i k h = refl
set_kept (b ∷ bs) zero zero h = refl
set_kept (b ∷ bs) zero (suc k) h = h
set_kept (b ∷ bs) (suc i) zero h = h
set_kept (b ∷ bs) (suc i) (suc k) h = set_kept bs i k h

set_marked : (bs : List Bool) (i : ℕ) → get_or (set bs i true) i true ≡ true
set_marked [] i = refl
set_marked (b ∷ bs) zero = refl
set_marked (b ∷ bs) (suc i) = set_marked bs i

set_length : (bs : List Bool) (i : ℕ) → length (set bs i true) ≡ length bs
set_length [] i = refl
set_length (b ∷ bs) zero = refl
set_length (b ∷ bs) (suc i) = ap suc (set_length bs i)

pub walk_init : (es : List Edge) (was : List Bool) (first : ℕ) (d : Edge) (points : List Point) → first < length es → get_or was first true ≡ false → length was ≡ length es →
    points ≡ (get_or es first d).0 ∷ [] → IsWalk es was (set was first true) first points (get_or es first d).1
walk_init es was first d points low new len are = record {
  start = (get_or es first d).0;
  begins = λ (e : Edge). ap (λ (x : Edge). x.0) (get_or_default es first e d low);
  rest = [];
  points_are = are;
  walked = λ (g : Edge → ℤ). unused_set es was first d low new g ∙ omega (arith, linear);
  kept = λ (k : ℕ) (h : get_or was k true ≡ true). set_kept was first k h;
  marked = set_marked was first;
  marks = set_length was first ∙ len;
}

pub walk_has_points : (es : List Edge) (was now : List Bool) (first : ℕ) (points : List Point) (at : Point) → IsWalk es was now first points at → 0 < length points
walk_has_points es was now first points at w = subst (λ (l : List Point). 0 < length l) (sym w.points_are) (omega arith)

pub walk_step : (es : List Edge) (was now : List Bool) (first k : ℕ) (d : Edge) (points points' : List Point) (at : Point) →
    IsWalk es was now first points at → IsNext es now first at k → (k ≡ first → ⊥) → points' ≡ points ++ at ∷ [] →
    IsWalk es was (set now k true) first points' (get_or es k d).1
walk_step es was now first k d points points' at w next other are = record {
  start = w.start;
  begins = w.begins;
  rest = w.rest ++ at ∷ [];
  points_are = are ∙ ap (λ (l : List Point). l ++ at ∷ []) w.points_are;
  walked = λ (g : Edge → ℤ).
      (let edge : g (get_or es k d) ≡ g (at, (get_or es k d).1) = ap (λ (p : Point). g (p, (get_or es k d).1)) (next.starts d) in
      omega (arith, linear, w.walked g, unused_set es now k d next.within new g, route_more g w.start w.rest at (get_or es k d).1, edge));
  kept = λ (j : ℕ) (h : get_or was j true ≡ true). set_kept now k j (w.kept j h);
  marked = set_kept now k first w.marked;
  marks = set_length now k ∙ w.marks;
}
  where
    new : get_or now k true ≡ false
    new = ⊎_elim (λ (h : get_or now k true ≡ false). h) (λ (h : k ≡ first). absurd (other h)) next.open'

pub walk_smaller : (es : List Edge) (now : List Bool) (first k : ℕ) (at : Point) → IsNext es now first at k → (k ≡ first → ⊥) →
    length (unused es (set now k true)) < length (unused es now)
walk_smaller es now first k at next other =
    ⊎_elim (λ (h : get_or now k true ≡ false). omega (arith, unused_length es now k next.within h)) (λ (h : k ≡ first). absurd (other h)) next.open'

-- a trace along balanced edges finds an edge to go on
pub walk_goes_on : (es : List Edge) (was now : List Bool) (first : ℕ) (points : List Point) (at : Point) → first < length es → IsBalanced (unused es was) →
    IsWalk es was now first points at → ((k : ℕ) → IsNext es now first at k → ⊥) → ⊥
walk_goes_on es was now first points at low balanced w none =
    ⊎_elim
    (λ (t : same_point at w.start ≡ true).
    none first (record { within = low; starts = λ (d : Edge). w.begins d ∙ sym ((decides_point at w.start).0 t); open' = inr refl }))
    (λ (f : same_point at w.start ≡ false).
    not_stuck (unused es was) w.start w.rest at (unused es now) balanced f w.walked
    (unused_starts es now at (at, at)
    (λ (k : ℕ) (l : k < length es) (s : (get_or es k (at, at)).0 ≡ at).
    ⊎_elim (λ (h : get_or now k true ≡ true). h)
    (λ (h : get_or now k true ≡ false).
    absurd (none k (record { within = l; starts = λ (d : Edge). ap (λ (x : Edge). x.0) (get_or_default es k d (at, at) l) ∙ s; open' = inl h })))
    (cases_Bool (get_or now k true)))
    w.marks))
    (cases_Bool (same_point at w.start))

-- ---- all contours
contour_more : (g : Edge → ℤ) (old : List (Vec Point Global)) (c : Vec Point Global) → sum_of g (contour_edges (old ++ c ∷ [])) ≡ sum_of g (contour_edges old) +ℤ sum_of g (boundary c.items)
contour_more g old c =
    sum_of_flat_map g (λ (v : Vec Point Global). boundary v.items) (old ++ c ∷ [])
    ∙ (sum_of_append (λ (v : Vec Point Global). sum_of g (boundary v.items)) old (c ∷ [])
    ∙ omega (arith, linear, sum_of_flat_map g (λ (v : Vec Point Global). boundary v.items) old))

pub takes_one : (es : List Edge) (was now : List Bool) (old new : List (Vec Point Global)) (c : Vec Point Global) (first : ℕ) → IsBalanced (unused es was) →
    ((g : Edge → ℤ) → sum_of g (unused es was) ≡ sum_of g (boundary c.items) +ℤ sum_of g (unused es now)) →
    ((k : ℕ) → get_or was k true ≡ true → get_or now k true ≡ true) → get_or now first true ≡ true → 0 < length c.items → new ≡ old ++ c ∷ [] →
    TakesContours es was now old new first
takes_one es was now old new c first balanced closed kept marked has are = record {
  same = λ (g : Edge → ℤ). omega (arith, linear, closed g, contour_more g old c, ap (λ (l : List (Vec Point Global)). sum_of g (contour_edges l)) are);
  balanced = left_balanced (unused es was) c.items (unused es now) balanced closed;
  kept = kept;
  marked = marked;
  have_points = λ (h : HavePoints old). subst HavePoints (sym are) (All-push (λ (v : Vec Point Global). 0 < length v.items) old c h has);
}

-- the contours so far, of the edges before `first` all
pub record TakenTo (es : List Edge) (was now : List Bool) (contours : List (Vec Point Global)) (first : ℕ) : Type 0 where
  pub same : (g : Edge → ℤ) → sum_of g (unused es was) ≡ sum_of g (contour_edges contours) +ℤ sum_of g (unused es now)
  pub balanced : IsBalanced (unused es now)
  pub done : (k : ℕ) → k < first → get_or now k true ≡ true
  pub have_points : HavePoints contours

pub taken_init : (es : List Edge) (was : List Bool) (contours : List (Vec Point Global)) → IsBalanced (unused es was) → contours ≡ [] → TakenTo es was was contours 0
taken_init es was contours balanced none = record {
  same = λ (g : Edge → ℤ). omega (arith, linear, ap (λ (l : List (Vec Point Global)). sum_of g (contour_edges l)) none);
  balanced = balanced;
  done = λ (k : ℕ) (h : k < 0). absurd (omega arith);
  have_points = subst HavePoints (sym none) (All-nil (λ (v : Vec Point Global). 0 < length v.items));
}

pub taken_more : (es : List Edge) (was now next : List Bool) (old new : List (Vec Point Global)) (first : ℕ) → TakenTo es was now old first →
    TakesContours es now next old new first → TakenTo es was next new (first + 1)
taken_more es was now next old new first t s = record {
  same = λ (g : Edge → ℤ). omega (arith, linear, t.same g, s.same g);
  balanced = s.balanced;
  done = below_more (λ (k : ℕ). get_or next k true ≡ true) first (λ (k : ℕ) (h : k < first). s.kept k (t.done k h)) s.marked;
  have_points = s.have_points t.have_points;
}

pub taken_all : (es : List Edge) (was now : List Bool) (contours : List (Vec Point Global)) (n : ℕ) → TakenTo es was now contours n → length es ≤ n → length now ≡ length es →
    (g : Edge → ℤ) → sum_of g (unused es was) ≡ sum_of g (contour_edges contours)
taken_all es was now contours n t all marks g =
    t.same g
    ∙ (ap (λ (l : List Edge). sum_of g (contour_edges contours) +ℤ sum_of g l) (unused_none es now marks (λ (k : ℕ) (h : k < length es). t.done k (omega arith)))
    ∙ omega (arith, linear))

pub same_balanced : (xs ys : List Edge) → ((g : Edge → ℤ) → sum_of g ys ≡ sum_of g xs) → IsBalanced xs → IsBalanced ys
same_balanced xs ys same balanced =
    balanced_by_growth ys (λ (g : Point → ℤ). same (λ (e : Edge). growth g e.0 e.1) ∙ growth_of_balanced xs balanced g)
