-- Lemmas over points and lists: the edges of rings, and what the row of a point tells of the rings round it.
use Rattle.std.proofs.Common.{zero, suc, ◌≡◌, ℕ, ◌+◌, ◌<◌, ◌≤◌, ⊎_elim, Bool, true, false, cond, not, ◌&&◌, List, [], ◌∷◌, ◌++◌, length, get_or, refl, sym, ◌∙◌, ap, subst, arith}
use Rattle.std.specs.Prelude.{ℤ, pos, nat_eq, int_lt}
use Rattle.std.specs.List.{filter, flat_map, enumerate_from}
use Rattle.std.specs.Ordering.{int_eq}
use Rattle.std.proofs.lemmas.Bool.{cases_Bool, eqb-true, eq-eqb}
use Rattle.mesh_plane.specs.Plane.{Point, Edge}
use Rattle.mesh_plane.specs.Winding.{crossing_on, winding, boundary}
use Rattle.mesh_plane.proofs.Whole.{linear}
use Rattle.mesh_plane.proofs.Sums.{sum_of_append}
use Rattle.mesh_lattice.specs.declared.places.Mark.{Mark}
use Rattle.mesh_lattice.specs.Marks.{place}
use Rattle.mesh_shapes.specs.Resolution.{Ring, is_positive}
use Rattle.mesh_shapes.specs.Homes.{ring_at}
use Rattle.mesh_shapes.specs.Private.Grouping.{areas_of}
use Rattle.mesh_shapes.specs.Private.Holders.{PlacedEdge, with_place, ring_edges, placed_edges, Rise, winding_of, IsRowOf}
use Rattle.mesh_lattice.specs.Rows.{reaches_row}
use Rattle.mesh_shapes.specs.Vectors.{RingVec, rings_of_vecs}
use Rattle.mesh_shapes.proofs.Groups.{view_at, positive_at}
use Rattle.mesh_lattice.proofs.RowLists.{row_total}

pub apart_places : (a b : ℕ) → (a ≡ b → ⊥) → nat_eq a b ≡ false
apart_places a b n = ⊎_elim (λ (t : nat_eq a b ≡ true). absurd (n (eqb-true a b t))) (λ (f : nat_eq a b ≡ false). f) (cases_Bool (nat_eq a b))

-- what an edge gives to the winding of the ring at `k`
abbrev pub gives : Point → ℕ → PlacedEdge → ℤ
gives q k e = cond (nat_eq e.1 k) (crossing_on 2 q e.0.0 e.0.1) (pos 0)

pub gives_none : (q : Point) (k : ℕ) (e : PlacedEdge) → (e.1 ≡ k → ⊥) → gives q k e ≡ pos 0
gives_none q k e n = ap (λ (b : Bool). cond b (crossing_on 2 q e.0.0 e.0.1) (pos 0)) (apart_places e.1 k n)

pub gives_own : (q : Point) (k : ℕ) (e : PlacedEdge) → e.1 ≡ k → gives q k e ≡ crossing_on 2 q e.0.0 e.0.1
gives_own q k e same = ap (λ (b : Bool). cond b (crossing_on 2 q e.0.0 e.0.1) (pos 0)) (eq-eqb e.1 k same)

-- the edges of a ring of positive area
pub ring_added : (rs : List RingVec) (areas : List ℤ) (h : ℕ) (r : RingVec) → areas ≡ areas_of (rings_of_vecs rs) → h < length (rings_of_vecs rs) → h < length rs
    → int_lt (pos 0) (get_or areas h (pos 0)) ≡ true → ring_edges (ring_at (rings_of_vecs rs) h) ≡ with_place h (boundary (get_or rs h r).0.items)
ring_added rs areas h r known lv low t =
    λ i. cond ((sym (positive_at (rings_of_vecs rs) areas h known lv) ∙ t) i) (with_place h (boundary (view_at rs h r ([], (pos 0, pos 0)) low i).0)) []

-- ---- places that rise

rise_lower : (low lower end : ℕ) (es : List PlacedEdge) → lower ≤ low → Rise low end es → Rise lower end es
rise_lower low lower end [] h r = tt
rise_lower low lower end (e ∷ es) h r = (omega (arith, r.0), (r.1.0, r.1.1))

rise_filter : (t : PlacedEdge → Bool) (low end : ℕ) (es : List PlacedEdge) → Rise low end es → Rise low end (filter t es)
rise_filter t low end [] r = tt
rise_filter t low end (e ∷ es) r = by (rise_filter t e.1 end es r.1.1) (t e) refl
  where
    by : Rise e.1 end (filter t es) → (b : Bool) → t e ≡ b → Rise low end (cond b (e ∷ filter t es) (filter t es))
    by rest true h = (r.0, (r.1.0, rest))
    by rest false h = rise_lower e.1 low end (filter t es) r.0 rest

-- the edges of rings before the first place are none
pub none_below : (q : Point) (k low end : ℕ) (es : List PlacedEdge) → Rise low end es → k < low → winding_of q k es ≡ pos 0
none_below q k low end [] r h = refl
none_below q k low end (e ∷ es) r h =
    omega (arith, linear, gives_none q k e (λ (s : e.1 ≡ k). absurd (omega (arith, r.0))), none_below q k e.1 end es r.1.1 (omega (arith, r.0)))

rise_with : (n end : ℕ) (es : List Edge) (rest : List PlacedEdge) → n < end → Rise (n + 1) end rest → Rise n end (with_place n es ++ rest)
rise_with n end [] rest low r = rise_lower (n + 1) n end rest (omega arith) r
rise_with n end (e ∷ es) rest low r = (omega arith, (low, rise_with n end es rest low r))

rise_edges : (n end : ℕ) (rs : List Ring) → n + length rs ≤ end → Rise n end (flat_map ring_edges (enumerate_from n rs))
rise_edges n end [] h = tt
rise_edges n end (r ∷ rs) h = by (rise_edges (n + 1) end rs (omega arith)) (is_positive (n, r))
  where
    by : Rise (n + 1) end (flat_map ring_edges (enumerate_from (n + 1) rs)) → (b : Bool)
        → Rise n end (cond b (with_place n (boundary r.0)) [] ++ flat_map ring_edges (enumerate_from (n + 1) rs))
    by rest true = rise_with n end (boundary r.0) (flat_map ring_edges (enumerate_from (n + 1) rs)) (omega arith) rest
    by rest false = rise_lower (n + 1) n end (flat_map ring_edges (enumerate_from (n + 1) rs)) (omega arith) rest

-- ---- the windings that the edges of all rings give

with_winding : (q : Point) (k n : ℕ) (es : List Edge) → n ≡ k → winding_of q k (with_place n es) ≡ winding 2 q es
with_winding q k n [] same = refl
with_winding q k n (e ∷ es) same = omega (arith, linear, gives_own q k (e, n) same, with_winding q k n es same)

with_none : (q : Point) (k n : ℕ) (es : List Edge) → (n ≡ k → ⊥) → winding_of q k (with_place n es) ≡ pos 0
with_none q k n [] apart = refl
with_none q k n (e ∷ es) apart = omega (arith, linear, gives_none q k (e, n) apart, with_none q k n es apart)

-- what the ring's edges give, where its area is positive
abbrev ring_winding : Point → Ring → ℤ
ring_winding q r = cond (is_positive (0, r)) (winding 2 q (boundary r.0)) (pos 0)

own_ring : (q : Point) (k n : ℕ) (r : Ring) → n ≡ k → winding_of q k (ring_edges (n, r)) ≡ ring_winding q r
own_ring q k n r same = by (is_positive (0, r))
  where
    by : (b : Bool) → winding_of q k (cond b (with_place n (boundary r.0)) []) ≡ cond b (winding 2 q (boundary r.0)) (pos 0)
    by true = with_winding q k n (boundary r.0) same
    by false = refl

other_ring : (q : Point) (k n : ℕ) (r : Ring) → (n ≡ k → ⊥) → winding_of q k (ring_edges (n, r)) ≡ pos 0
other_ring q k n r apart = by (is_positive (0, r))
  where
    by : (b : Bool) → winding_of q k (cond b (with_place n (boundary r.0)) []) ≡ pos 0
    by true = with_none q k n (boundary r.0) apart
    by false = refl

ring_sums : (q : Point) (n j : ℕ) (rs : List Ring) → j < length rs →
    winding_of q (n + j) (flat_map ring_edges (enumerate_from n rs)) ≡ ring_winding q (get_or rs j ([], (pos 0, pos 0)))
ring_sums q n j [] h = absurd (omega arith)
ring_sums q n zero (r ∷ rs) h =
    omega (
      arith,
      linear,
      sum_of_append (gives q (n + 0)) (ring_edges (n, r)) (flat_map ring_edges (enumerate_from (n + 1) rs)),
      own_ring q (n + 0) n r (omega arith),
      none_below q (n + 0) (n + 1) ((n + 1) + length rs) (flat_map ring_edges (enumerate_from (n + 1) rs)) (rise_edges (n + 1) ((n + 1) + length rs) rs (omega arith)) (omega arith),
    )
ring_sums q n (suc j) (r ∷ rs) h =
    let e : (n + 1) + j ≡ n + suc j = omega arith in
    let rest : winding_of q (n + suc j) (flat_map ring_edges (enumerate_from (n + 1) rs)) ≡ ring_winding q (get_or rs j ([], (pos 0, pos 0))) =
    subst (λ (k : ℕ). winding_of q k (flat_map ring_edges (enumerate_from (n + 1) rs)) ≡ ring_winding q (get_or rs j ([], (pos 0, pos 0)))) e (ring_sums q (n + 1) j rs (omega arith)) in
    omega (
      arith,
      linear,
      sum_of_append (gives q (n + suc j)) (ring_edges (n, r)) (flat_map ring_edges (enumerate_from (n + 1) rs)),
      other_ring q (n + suc j) n r (λ (s : n ≡ n + suc j). absurd (omega arith)),
      rest,
    )

-- ---- the row of a point

pub row_rises : (rs : List Ring) (ms : List Mark) (row : List PlacedEdge) (q : Point) → row ≡ filter (reaches_row ms (place ms q.1)) (placed_edges rs) → Rise 0 (length rs) row
row_rises rs ms row q is =
    subst (λ (es : List PlacedEdge). Rise 0 (length rs) es) (sym is)
    (rise_filter (reaches_row ms (place ms q.1)) 0 (length rs) (placed_edges rs) (rise_edges 0 (length rs) rs (omega arith)))

pub row_tells : (rs : List Ring) (ms : List Mark) (row : List PlacedEdge) (q : Point) → row ≡ filter (reaches_row ms (place ms q.1)) (placed_edges rs) → IsRowOf rs q row
row_tells rs ms row q is k low = by (is_positive (ring_at rs k)) ∙ ap (λ (w : ℤ). not (int_eq w (pos 0))) (sym sum)
  where
    none : (b : Bool) (w : ℤ) → w ≡ pos 0 → cond b w (pos 0) ≡ pos 0
    none true w h = h
    none false w h = refl

    sum : winding_of q k row ≡ ring_winding q (get_or rs k ([], (pos 0, pos 0)))
    sum =
        let zero_plus : 0 + k ≡ k = omega arith in
        row_total ms (placed_edges rs) row q (gives q k) is (λ e h. none (nat_eq e.1 k) (crossing_on 2 q e.0.0 e.0.1) h)
        ∙ subst (λ (j : ℕ). winding_of q j (placed_edges rs) ≡ ring_winding q (get_or rs k ([], (pos 0, pos 0)))) zero_plus (ring_sums q 0 k rs low)

    by : (b : Bool) → (b && not (int_eq (winding 2 q (boundary (ring_at rs k).1.0)) (pos 0))) ≡ not (int_eq (cond b (winding 2 q (boundary (ring_at rs k).1.0)) (pos 0)) (pos 0))
    by true = refl
    by false = refl
