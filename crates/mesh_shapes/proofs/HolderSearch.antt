-- Lemmas over points and lists: a search along the row of a point for the ring that holds it.
use Rattle.std.proofs.Common.{zero, suc, ◌≡◌, ◌⊎◌, inl, inr, ℕ, ◌+◌, ◌<◌, ◌≤◌, true, false, not, List, [], ◌∷◌, length, drop, get_or, refl, sym, ◌∙◌, ap, subst, arith}
use Rattle.std.specs.Prelude.{ℤ, pos, ◌+ℤ◌, Option, Some, None}
use Rattle.std.specs.Ordering.{int_eq}
use Rattle.std.proofs.Math.Seq.{drop-cons}
use Rattle.std.proofs.lemmas.Bool.{both_ways, cases_lt}
use Rattle.mesh_plane.specs.Plane.{Point}
use Rattle.mesh_plane.specs.Winding.{crossing_on}
use Rattle.mesh_plane.proofs.Whole.{linear}
use Rattle.mesh_shapes.specs.declared.holders.Search.{Search}
use Rattle.mesh_shapes.specs.Resolution.{Ring, is_before}
use Rattle.mesh_shapes.specs.Homes.{ring_at, encloses_at}
use Rattle.mesh_shapes.specs.Private.Holders.{PlacedEdge, Rise, winding_of, IsRowOf, IsSearch}
use Rattle.mesh_shapes.specs.Private.Progress.{IsFound}
use Rattle.mesh_shapes.proofs.HolderRows.{gives_none, gives_own, none_below}

-- ---- the holder among more rings

-- rings that are not round the point change nothing
pub found_on : (rs : List Ring) (q : Point) (best : Option ℕ) (n m : ℕ) → n ≤ m → IsFound rs n q best
    → ((k : ℕ) → n ≤ k → k < m → encloses_at rs k q ≡ false) → IsFound rs m q best
found_on rs q None n m le h none = λ (k : ℕ) (l : k < m). by k l (cases_lt k n)
  where
    by : (k : ℕ) → k < m → (k < n) ⊎ (n ≤ k) → encloses_at rs k q ≡ false
    by k l (inl a) = h k a
    by k l (inr a) = none k a l
found_on rs q (Some b) n m le h none = record {
  within = omega (arith, h.within);
  enclosing = h.enclosing;
  first = λ (k : ℕ) (l : k < m) (t : encloses_at rs k q ≡ true). by k l t (cases_lt k n);
}
  where
    by : (k : ℕ) → k < m → encloses_at rs k q ≡ true → (k < n) ⊎ (n ≤ k) → is_before (ring_at rs k) (ring_at rs b) ≡ false
    by k l t (inl a) = h.first k a t
    by k l t (inr a) = absurd (both_ways (encloses_at rs k q) (none k a l) t)

-- ---- one more edge

abbrev searched : Option ℕ → ℕ → ℤ → Search
searched best place winding = record { best = best; place = place; winding = winding }

-- where a row begins nothing is known
pub search_none : (rs : List Ring) (q : Point) (row : List PlacedEdge) (place end : ℕ) → length rs ≡ end → Rise place end row → place < end → IsRowOf rs q row → IsSearch rs q row row (searched None place (pos 0))
search_none rs q row place end len rise low row_of = record {
  found = λ (k : ℕ) (l : k < place).
      (row_of k (omega arith) ∙ ap (λ (w : ℤ). not (int_eq w (pos 0))) (none_below q k place end row rise l));
  own = omega (arith, linear);
  later = λ k l. refl;
}

-- one more edge of the same ring
pub search_same : (rs : List Ring) (q : Point) (row rest : List PlacedEdge) (e : PlacedEdge) (s : Search) (w : ℤ) → e.1 ≡ s.place → w ≡ s.winding +ℤ crossing_on 2 q e.0.0 e.0.1
    → IsSearch rs q row (e ∷ rest) s → IsSearch rs q row rest (searched s.best e.1 w)
search_same rs q row rest e s w same is known = record {
  found = subst (λ (n : ℕ). IsFound rs n q s.best) (sym same) known.found;
  own = subst (λ (n : ℕ). w +ℤ winding_of q n rest ≡ winding_of q n row) (sym same) (omega (arith, linear, is, known.own, gives_own q s.place e same));
  later = λ (k : ℕ) (l : e.1 < k).
      (let n = known.later k (omega (arith, same)) in omega (arith, linear, n, gives_none q k e (λ (x : e.1 ≡ k). absurd (omega (arith, x)))));
}

-- an edge of a later ring: it is known how often the ring before winds round the point, and those between do not
pub search_next : (rs : List Ring) (q : Point) (row rest : List PlacedEdge) (e : PlacedEdge) (s : Search) (best : Option ℕ) (w : ℤ) (end : ℕ) → length rs ≡ end → s.place < end
    → Rise s.place end (e ∷ rest) → (e.1 ≡ s.place → ⊥) → IsRowOf rs q row → w ≡ crossing_on 2 q e.0.0 e.0.1
    → (encloses_at rs s.place q ≡ not (int_eq s.winding (pos 0)) → IsFound rs s.place q s.best → IsFound rs (s.place + 1) q best)
    → IsSearch rs q row (e ∷ rest) s → IsSearch rs q row rest (searched best e.1 w)
search_next rs q row rest e s best w end len low rise apart row_of is better known =
    let next : s.place < e.1 = later s.place e.1 rise.0 apart in
    let from : Rise e.1 end (e ∷ rest) = (omega arith, (rise.1.0, rise.1.1)) in
    let all : s.winding ≡ winding_of q s.place row = omega (arith, linear, known.own, none_below q s.place e.1 end (e ∷ rest) from next) in
    let round = row_of s.place (omega (arith, len)) ∙ ap (λ (z : ℤ). not (int_eq z (pos 0))) (sym all) in
    record {
      found = found_on rs q best (s.place + 1) e.1 (omega arith) (better round known.found)
          (λ (k : ℕ) (a : s.place + 1 ≤ k) (b : k < e.1).
          (row_of k (omega (arith, len, rise.1.0))
          ∙ ap (λ (z : ℤ). not (int_eq z (pos 0))) (sym (known.later k (omega arith)) ∙ none_below q k e.1 end (e ∷ rest) from b)));
      own = omega (arith, linear, is, known.later e.1 next, gives_own q e.1 e refl);
      later = λ (k : ℕ) (l : e.1 < k).
          (let n = known.later k (omega arith) in omega (arith, linear, n, gives_none q k e (λ (x : e.1 ≡ k). absurd (omega (arith, x)))));
    }
  where
    later : (a b : ℕ) → a ≤ b → (b ≡ a → ⊥) → a < b
    later a b h n = by (cases_lt a b)
      where
        by : (a < b) ⊎ (b ≤ a) → a < b
        by (inl l) = l
        by (inr l) = absurd (n (omega arith))

-- past the last edge
pub search_end : (rs : List Ring) (q : Point) (row : List PlacedEdge) (s : Search) (best : Option ℕ) → s.place < length rs → IsRowOf rs q row
    → (encloses_at rs s.place q ≡ not (int_eq s.winding (pos 0)) → IsFound rs s.place q s.best → IsFound rs (s.place + 1) q best)
    → IsSearch rs q row [] s → IsFound rs (length rs) q best
search_end rs q row s best low row_of better known =
    let all : s.winding ≡ winding_of q s.place row = omega (arith, linear, known.own) in
    let round = row_of s.place low ∙ ap (λ (z : ℤ). not (int_eq z (pos 0))) (sym all) in
    found_on rs q best (s.place + 1) (length rs) (omega arith) (better round known.found)
    (λ (k : ℕ) (a : s.place + 1 ≤ k) (b : k < length rs). (row_of k b ∙ ap (λ (z : ℤ). not (int_eq z (pos 0))) (sym (known.later k (omega arith)))))

-- ---- the loop along a row

-- places rise from the first one
pub rise_first : (low end : ℕ) (row : List PlacedEdge) (d : PlacedEdge) → 0 < length row → Rise low end row → ((get_or row 0 d).1 < end) × Rise (get_or row 0 d).1 end row
rise_first low end [] d some r = absurd (omega arith)
rise_first low end (e ∷ row) d some r = (r.1.0, (omega arith, (r.1.0, r.1.1)))

pub next_edge : (row : List PlacedEdge) (i : ℕ) (d : PlacedEdge) → i < length row → drop i row ≡ get_or row i d ∷ drop (i + 1) row
next_edge row i d h = drop-cons row i d h ∙ (let e : suc i ≡ i + 1 = omega arith in ap (λ (n : ℕ). get_or row i d ∷ drop n row) e)

pub past_edges : (row : List PlacedEdge) (n : ℕ) → length row ≤ n → drop n row ≡ []
past_edges [] zero h = refl
past_edges [] (suc n) h = refl
past_edges (e ∷ row) zero h = absurd (omega arith)
past_edges (e ∷ row) (suc n) h = past_edges row n (omega arith)
