-- Lemmas over lists: places, spans and pieces, one by one.
use Rattle.std.proofs.Common.{◌≡◌, ◌⊎◌, inl, inr, ⊎_elim, ℕ, zero, suc, ◌+◌, ◌-◌, ◌<◌, ◌≤◌, Bool, true, List, [], ◌∷◌, ◌++◌, length, get_or, set, min, append_assoc, add-one, refl, sym, ◌∙◌, ap, subst, arith, length-append}
use Rattle.std.specs.Prelude.{pos, IsTrue}
use Rattle.std.specs.List.{All}
use Rattle.std.proofs.Math.ListN.{get_or-append, length-set}
use Rattle.std.proofs.Math.Seq.{get_or-append_seam}
use Rattle.std.proofs.lemmas.List.{get_or-set_other, get_or-set_same}
use Rattle.std.proofs.lemmas.List.Elements.{All-push}
use Rattle.mesh_plane.specs.Order.{point_lt}
use Rattle.mesh_plane.specs.Plane.{Point, Edge}
use Rattle.mesh_lattice.specs.Split.{occurs}
use Rattle.mesh_lattice.proofs.Ends.{decides_end}
use Rattle.mesh_lattice.proofs.Arithmetic.{below_or_last}
use Rattle.mesh_in_line.specs.declared.spans.Span.{Span}
use Rattle.mesh_in_line.specs.Private.Lines.{backward, no_edge, no_span, onward, span_at, turned, AreFirsts, AreRising, IsEndOfSome, IsPlaced, LeadsTo}
use Rattle.mesh_in_line.proofs.Ordered.{place_at, turned_twice}

-- ---- the edges over places, one more

pub onward_more : (a : ℕ → Point) (from k : ℕ) (old now new : List Edge) (p q : Point) → now ≡ old ++ onward a from k → new ≡ now ++ (p, q) ∷ [] → p ≡ a (from + k) → q ≡ a (from + k + 1)
    → new ≡ old ++ onward a from (k + 1)
onward_more a from k old now new p q h more x y =
    more
    ∙ ((λ i. h i ++ (x i, y i) ∷ [])
    ∙ (append_assoc old (onward a from k) ((a (from + k), a (from + k + 1)) ∷ [])
    ∙ ap (λ (n : ℕ). old ++ onward a from n) (sym (add-one k))))

backward_first : (a : ℕ → Point) (from m : ℕ) → backward a from (suc m) ≡ backward a (from + 1) m ++ (a (from + 1), a from) ∷ []
backward_first a from zero =
    let n : from + 0 ≡ from = omega arith in
    λ i. (a (n i + 1), a (n i)) ∷ []
backward_first a from (suc m) =
    let n : from + suc m ≡ from + 1 + m = omega arith in
    (λ i. (a (n i + 1), a (n i)) ∷ backward_first a from m i)

pub backward_more : (a : ℕ → Point) (to k : ℕ) (old now new : List Edge) (p q : Point) → k < to → now ≡ old ++ backward a (to - k) k → new ≡ now ++ (p, q) ∷ [] → p ≡ a (to - k) → q ≡ a (to - k - 1)
    → new ≡ old ++ backward a (to - (k + 1)) (k + 1)
backward_more a to k old now new p q low h more x y =
    let n : to - k ≡ (to - (k + 1)) + 1 = omega arith in
    let l : to - k - 1 ≡ to - (k + 1) = omega arith in
    more
    ∙ ((λ i. h i ++ (x i, y i) ∷ [])
    ∙ (append_assoc old (backward a (to - k) k) ((a (to - k), a (to - k - 1)) ∷ [])
    ∙ ap (λ (es : List Edge). old ++ es)
    ((λ i. backward a (n i) k ++ (a (n i), a (l i)) ∷ [])
    ∙ (sym (backward_first a (to - (k + 1)) k) ∙ ap (backward a (to - (k + 1))) (sym (add-one k))))))

-- ---- ends

pub end_stands : (level : Bool) (es : List Edge) (e : Edge) (p : Point) → occurs e es ≡ true → (p ≡ e.0) ⊎ (p ≡ e.1) → IsEndOfSome es (turned level (turned level p))
end_stands level es e p o h =
    subst (IsEndOfSome es) (sym (turned_twice level p)) (record { edge = e; listed = o; end = (decides_end p e).1 h })

pub ends_pushed : (level : Bool) (es : List Edge) (e : Edge) (old new : List Point) → occurs e es ≡ true → (new ≡ old) ⊎ (new ≡ (old ++ turned level e.0 ∷ []) ++ turned level e.1 ∷ [])
    → All (λ p. IsEndOfSome es (turned level p)) old → All (λ p. IsEndOfSome es (turned level p)) new
ends_pushed level es e old new o (inl h) all = subst (All (λ p. IsEndOfSome es (turned level p))) (sym h) all
ends_pushed level es e old new o (inr h) all =
    subst (All (λ p. IsEndOfSome es (turned level p))) (sym h)
    (All-push (λ p. IsEndOfSome es (turned level p)) (old ++ turned level e.0 ∷ []) (turned level e.1)
    (All-push (λ p. IsEndOfSome es (turned level p)) old (turned level e.0) all (end_stands level es e e.0 o (inl refl)))
    (end_stands level es e e.1 o (inr refl)))

pub added_all : (P : Point → Type 0) (old new : List Point) (p : Point) → (new ≡ old) ⊎ (new ≡ old ++ p ∷ []) → All P old → P p → All P new
added_all P old new p (inl h) all one = subst (All P) (sym h) all
added_all P old new p (inr h) all one = subst (All P) (sym h) (All-push P old p all one)

-- an end of an edge is at the place that has the same point turned
pub placed_at : (level : Bool) (p q : Point) → q ≡ turned level p → p ≡ turned level q
placed_at level p q h = sym (turned_twice level p) ∙ ap (turned level) (sym h)

-- ---- one more place

pub rising_pushed : (ps : List Point) (p : Point) → AreRising ps → ((k : ℕ) → k + 1 ≡ length ps → IsTrue (point_lt (place_at ps k) p)) → AreRising (ps ++ p ∷ [])
rising_pushed ps p r last = record { rising = by }
  where
    put : {x y v w : Point} → x ≡ v → y ≡ w → IsTrue (point_lt v w) → IsTrue (point_lt x y)
    put {x} {y} {v} {w} e f t = subst (λ (z : Point). IsTrue (point_lt z y)) (sym e) (subst (λ (z : Point). IsTrue (point_lt v z)) (sym f) t)

    by : (k : ℕ) → k + 1 < length (ps ++ p ∷ []) → IsTrue (point_lt (place_at (ps ++ p ∷ []) k) (place_at (ps ++ p ∷ []) (k + 1)))
    by k h =
        ⊎_elim
        (λ (l : k + 1 < length ps).
        put (get_or-append ps (p ∷ []) (pos 0, pos 0) k (omega arith)) (get_or-append ps (p ∷ []) (pos 0, pos 0) (k + 1) l) (r.rising k l))
        (λ (l : k + 1 ≡ length ps).
        put (get_or-append ps (p ∷ []) (pos 0, pos 0) k (omega arith)) (ap (place_at (ps ++ p ∷ [])) l ∙ get_or-append_seam ps p [] (pos 0, pos 0)) (last k l))
        (below_or_last (k + 1) (length ps) (omega (arith, length-append ps (p ∷ []))))

-- ---- one more span

-- where the first edges of a list lie
abbrev pub ArePlacedUpTo : Bool → List Point → List Edge → List Span → ℕ → Type 0
ArePlacedUpTo level ps es spans n = (length spans ≡ n) × ((k : ℕ) → k < n → IsPlaced level ps (get_or es k no_edge) (span_at spans k))

pub placed_pushed : (level : Bool) (ps : List Point) (es : List Edge) (old new : List Span) (n : ℕ) (s : Span) → ArePlacedUpTo level ps es old n → new ≡ old ++ s ∷ [] → IsPlaced level ps (get_or es n no_edge) s
    → ArePlacedUpTo level ps es new (n + 1)
placed_pushed level ps es old new n s h e one = (
  ap length e ∙ (length-append old (s ∷ []) ∙ ap (λ (m : ℕ). m + 1) h.0),
  λ k l.
      subst (λ (v : List Span). IsPlaced level ps (get_or es k no_edge) (span_at v k)) (sym e)
      (⊎_elim
      (λ (b : k < n). subst (IsPlaced level ps (get_or es k no_edge)) (sym (get_or-append old (s ∷ []) no_span k (omega (arith, h.0)))) (h.1 k b))
      (λ (b : k ≡ n).
      subst (λ (j : ℕ). IsPlaced level ps (get_or es j no_edge) (span_at (old ++ s ∷ []) j)) (sym b)
      (subst (IsPlaced level ps (get_or es n no_edge)) (sym (ap (span_at (old ++ s ∷ [])) (sym h.0) ∙ get_or-append_seam old s [] no_span)) one))
      (below_or_last k n (omega arith))),
)

-- ---- the first places, of one edge more

lesser : (a b : ℕ) → ((a ≤ b) × (min a b ≡ a)) ⊎ ((b < a) × (min a b ≡ b))
lesser a b = grind arith

is_or_not : (a b : ℕ) → (a ≡ b) ⊎ (a ≡ b → ⊥)
is_or_not a b = grind arith

pub firsts_lowered : (spans : List Span) (places n : ℕ) (s : Span) (old new : List ℕ) → n < length spans → s ≡ span_at spans n → (s.from < s.to → s.to < places) → AreFirsts spans n places old
    → (s.from < s.to → new ≡ set old s.to (min (get_or old s.to 0) s.from)) → (s.to ≤ s.from → new ≡ old) → AreFirsts spans (n + 1) places new
firsts_lowered spans places n s old new here is within was along beside =
    ⊎_elim (λ (l : s.from < s.to). lowered l) (λ (l : s.to ≤ s.from). left l) (one_of s.from s.to)
  where
    one_of : (a b : ℕ) → (a < b) ⊎ (b ≤ a)
    one_of a b = grind arith

    left : s.to ≤ s.from → AreFirsts spans (n + 1) places new
    left l =
        subst (AreFirsts spans (n + 1) places) (sym (beside l))
        (record {
          many = was.many;
          below = was.below;
          least = λ j b r.
              ⊎_elim (λ (c : j < n). was.least j c r)
              (λ (c : j ≡ n). absurd (omega (arith, ap (λ (v : Span). v.from) is, ap (λ (v : Span). v.to) is, subst (λ (i : ℕ). (span_at spans i).from < (span_at spans i).to) c r)))
              (below_or_last j n (omega arith));
          led = was.led;
        })

    lowered : s.from < s.to → AreFirsts spans (n + 1) places new
    lowered l =
        let to_in : s.to < length old = omega (arith, within l, was.many) in
        let at_to : get_or new s.to 0 ≡ min (get_or old s.to 0) s.from = ap (λ (v : List ℕ). get_or v s.to 0) (along l) ∙ get_or-set_same old s.to (min (get_or old s.to 0) s.from) 0 to_in in
        let other : (k : ℕ) → (k ≡ s.to → ⊥) → get_or new k 0 ≡ get_or old k 0 = λ k h. ap (λ (v : List ℕ). get_or v k 0) (along l) ∙ get_or-set_other old s.to k (min (get_or old s.to 0) s.from) 0 h in
        record {
          many = ap length (along l) ∙ (length-set old s.to (min (get_or old s.to 0) s.from) ∙ was.many);
          below = λ k b.
              ⊎_elim (λ (c : k ≡ s.to). omega (arith, ap (λ (i : ℕ). get_or new i 0) c, at_to, was.below s.to (within l)))
              (λ (c : k ≡ s.to → ⊥). omega (arith, other k c, was.below k b))
              (is_or_not k s.to);
          least = λ j b r.
              ⊎_elim
              (λ (c : j < n).
              ⊎_elim
              (λ (d : (span_at spans j).to ≡ s.to). omega (arith, ap (λ (i : ℕ). get_or new i 0) d, ap (λ (i : ℕ). get_or old i 0) d, at_to, was.least j c r))
              (λ (d : (span_at spans j).to ≡ s.to → ⊥). omega (arith, other (span_at spans j).to d, was.least j c r))
              (is_or_not (span_at spans j).to s.to))
              (λ (c : j ≡ n).
              let own : span_at spans j ≡ s = ap (span_at spans) c ∙ sym is in
              omega (arith, ap (λ (v : Span). get_or new v.to 0) own, ap (λ (v : Span). v.from) own, at_to))
              (below_or_last j n (omega arith));
          led = λ k b r.
              ⊎_elim
              (λ (c : k ≡ s.to).
              ⊎_elim
              (λ (d : (get_or old s.to 0 ≤ s.from) × (min (get_or old s.to 0) s.from ≡ get_or old s.to 0)).
              let same : get_or new k 0 ≡ get_or old k 0 = ap (λ (i : ℕ). get_or new i 0) c ∙ (at_to ∙ (d.1 ∙ ap (λ (i : ℕ). get_or old i 0) (sym c))) in
              subst (λ (i : ℕ). LeadsTo spans i k) (sym same) (was.led k b (omega (arith, same, r))))
              (λ (d : (s.from < get_or old s.to 0) × (min (get_or old s.to 0) s.from ≡ s.from)).
              let same : get_or new k 0 ≡ s.from = ap (λ (i : ℕ). get_or new i 0) c ∙ (at_to ∙ d.1) in
              record { edge = n; within = here; starts = ap (λ (v : Span). v.from) (sym is) ∙ sym same; ends = ap (λ (v : Span). v.to) (sym is) ∙ sym c })
              (lesser (get_or old s.to 0) s.from))
              (λ (c : k ≡ s.to → ⊥). subst (λ (i : ℕ). LeadsTo spans i k) (sym (other k c)) (was.led k b (omega (arith, other k c, r))))
              (is_or_not k s.to);
        }
