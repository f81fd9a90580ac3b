-- Lemmas over points and lists: what all cuts make of each edge, and that they are legal.
use Rattle.std.proofs.Common.{◌≡◌, ◌⊎◌, inl, inr, ⊎_elim, ℕ, zero, suc, ◌+◌, ◌-◌, ◌<◌, ◌≤◌, Bool, true, false, cond, ◌||◌, List, [], ◌∷◌, ◌++◌, length, get_or, take, add-one, sym, ◌∙◌, ap, subst, arith, length-append}
use Rattle.std.proofs.lemmas.List.Elements.{All-append}
use Rattle.std.specs.Prelude.{pos}
use Rattle.std.specs.List.{All}
use Rattle.std.proofs.Math.Seq.{take-suc}
use Rattle.std.proofs.lemmas.Bool.{false_from_ne_true, or_right}
use Rattle.mesh_plane.specs.Plane.{Point, Edge}
use Rattle.mesh_lattice.specs.Split.{after, back, occurs, same_ends, EdgeSplit, IsLegal}
use Rattle.mesh_lattice.proofs.Each.{Each, each_append}
use Rattle.mesh_lattice.proofs.Ends.{decides_ends, ends_self, ends_turned}
use Rattle.mesh_lattice.proofs.KeptBySplits.{after_append}
use Rattle.mesh_in_line.specs.declared.spans.Span.{Span}
use Rattle.mesh_in_line.specs.InLine.{AreCutInLine, IsStraight}
use Rattle.mesh_in_line.specs.Private.Lines.{backward, cuts, cuts_to, no_edge, onward, pieces_of, point_at, span_at, turned, AreFirsts, ArePlaced, AreRising, IsAlong, IsEndOfSome, IsPlaced, IsSpan}
use Rattle.mesh_in_line.proofs.Following.{splittings_go_on}
use Rattle.mesh_in_line.proofs.Legal.{all_legal, cut_back, cut_forth, cuts_beside, first_at, occurs_same, AreFit}
use Rattle.mesh_in_line.proofs.Ordered.{inside_next, place_at, rising_apart, same_line, turned_twice}

-- the edge at a place stands in the list
pub stands_at : (es : List Edge) (k : ℕ) (d : Edge) → k < length es → occurs (get_or es k d) es ≡ true
stands_at [] k d h = absurd (omega arith)
stands_at (e ∷ es) zero d h = λ i. ends_self e i || occurs e es
stands_at (e ∷ es) (suc k) d h = or_right (same_ends (get_or es k d) e) (occurs (get_or es k d) es) (stands_at es k d (omega arith))

-- ---- lines

-- the edges with places, and the first ones of these
pub record AreKnown (level : Bool) (ps : List Point) (es : List Edge) (spans : List Span) (firsts : List ℕ) : Type 0 where
  pub rising : AreRising ps
  pub placed : ArePlaced level ps es spans
  pub first : AreFirsts spans (length spans) (length ps) firsts

pub span_known : (level : Bool) (ps : List Point) (es : List Edge) (spans : List Span) (k : ℕ) → ArePlaced level ps es spans → k < length es → (span_at spans k).from < (span_at spans k).to
    → IsSpan level ps (get_or es k no_edge) (span_at spans k)
span_known level ps es spans k placed h low = by (placed.placed k h)
  where
    by : IsPlaced level ps (get_or es k no_edge) (span_at spans k) → IsSpan level ps (get_or es k no_edge) (span_at spans k)
    by (inl b) = absurd (omega (arith, b.same))
    by (inr s) = s

-- the ends of a span are on one line
span_line : (level : Bool) (ps : List Point) (e : Edge) (s : Span) → IsSpan level ps e s → (place_at ps s.from).0 ≡ (place_at ps s.to).0
span_line level ps e s h = by s.is_back h.ends
  where
    line : (i j : ℕ) → IsAlong level (point_at level ps i, point_at level ps j) → (place_at ps i).0 ≡ (place_at ps j).0
    line i j g =
        sym (ap (λ (p : Point). p.0) (turned_twice level (place_at ps i)))
        ∙ (g ∙ ap (λ (p : Point). p.0) (turned_twice level (place_at ps j)))

    by : (b : Bool) → e ≡ cond b (point_at level ps s.to, point_at level ps s.from) (point_at level ps s.from, point_at level ps s.to) → (place_at ps s.from).0 ≡ (place_at ps s.to).0
    by true x = sym (line s.to s.from (subst (IsAlong level) x h.along))
    by false x = line s.from s.to (subst (IsAlong level) x h.along)

-- a place that cuts lead to, and those from which they do, are on one line
first_line : (level : Bool) (ps : List Point) (es : List Edge) (spans : List Span) (firsts : List ℕ) (k j : ℕ) → AreKnown level ps es spans firsts → k < length ps → first_at firsts k ≤ j → j < k
    → (place_at ps j).0 ≡ (place_at ps k).0
first_line level ps es spans firsts k j known within low high =
    let led = known.first.led k within (omega arith) in
    let span = span_known level ps es spans led.edge known.placed (omega (arith, led.within, known.placed.many)) (omega (arith, led.starts, led.ends)) in
    let line : (place_at ps (first_at firsts k)).0 ≡ (place_at ps k).0 =
    ap (λ (i : ℕ). (place_at ps i).0) (sym led.starts)
    ∙ (span_line level ps (get_or es led.edge no_edge) (span_at spans led.edge) span ∙ ap (λ (i : ℕ). (place_at ps i).0) led.ends) in
    same_line ps known.rising (first_at firsts k) j k low (omega arith) within line

same_along : (level : Bool) (p q : Point) (e : Edge) → IsAlong level (p, q) → same_ends (p, q) e ≡ true → IsAlong level e
same_along level p q e h t =
    ⊎_elim (λ (x : (p, q) ≡ e). subst (IsAlong level) x h)
    (λ (x : (p, q) ≡ back e). sym (subst (IsAlong level) x h))
    ((decides_ends (p, q) e).0 t)

point_along : (level : Bool) (ps : List Point) (i j : ℕ) → (place_at ps i).0 ≡ (place_at ps j).0 → IsAlong level (point_at level ps i, point_at level ps j)
point_along level ps i j h =
    ap (λ (p : Point). p.0) (turned_twice level (place_at ps i))
    ∙ (h ∙ sym (ap (λ (p : Point). p.0) (turned_twice level (place_at ps j))))

-- ---- what an edge becomes

pub span_becomes : (level : Bool) (ps : List Point) (es : List Edge) (spans : List Span) (firsts : List ℕ) (k : ℕ) → AreKnown level ps es spans firsts → k < length es
    → (span_at spans k).from < (span_at spans k).to
    → after (cuts_to (point_at level ps) firsts (length ps)) (get_or es k no_edge ∷ []) ≡ pieces_of level ps (span_at spans k)
span_becomes level ps es spans firsts k known within low = by (span_at spans k).is_back span.ends
  where
    span : IsSpan level ps (get_or es k no_edge) (span_at spans k)
    span = span_known level ps es spans k known.placed within low

    first : first_at firsts (span_at spans k).to ≤ (span_at spans k).from
    first = known.first.least k (omega (arith, within, known.placed.many)) low

    by : (b : Bool) → get_or es k no_edge ≡ cond b (point_at level ps (span_at spans k).to, point_at level ps (span_at spans k).from) (point_at level ps (span_at spans k).from, point_at level ps (span_at spans k).to)
        → after (cuts_to (point_at level ps) firsts (length ps)) (get_or es k no_edge ∷ [])
        ≡ cond b (backward (point_at level ps) (span_at spans k).from ((span_at spans k).to - (span_at spans k).from)) (onward (point_at level ps) (span_at spans k).from ((span_at spans k).to - (span_at spans k).from))
    by true x =
        ap (λ (e : Edge). after (cuts_to (point_at level ps) firsts (length ps)) (e ∷ [])) x
        ∙ cut_back (point_at level ps) firsts (span_at spans k).from (span_at spans k).to (length ps) (rising_apart level ps known.rising) span.within first low
    by false x =
        ap (λ (e : Edge). after (cuts_to (point_at level ps) firsts (length ps)) (e ∷ [])) x
        ∙ cut_forth (point_at level ps) firsts (span_at spans k).from (span_at spans k).to (length ps) (rising_apart level ps known.rising) span.within first low

pub beside_stays : (level : Bool) (ps : List Point) (es : List Edge) (spans : List Span) (firsts : List ℕ) (k : ℕ) → AreKnown level ps es spans firsts → k < length es
    → (span_at spans k).to ≤ (span_at spans k).from
    → after (cuts_to (point_at level ps) firsts (length ps)) (get_or es k no_edge ∷ []) ≡ get_or es k no_edge ∷ []
beside_stays level ps es spans firsts k known within low = by (known.placed.placed k within)
  where
    by : IsPlaced level ps (get_or es k no_edge) (span_at spans k) → after (cuts_to (point_at level ps) firsts (length ps)) (get_or es k no_edge ∷ []) ≡ get_or es k no_edge ∷ []
    by (inr s) = absurd (omega (arith, s.rising))
    by (inl b) =
        cuts_beside (point_at level ps) firsts (length ps) (get_or es k no_edge)
        (λ q j u v w.
        false_from_ne_true (same_ends (point_at level ps j, point_at level ps q) (get_or es k no_edge))
        (λ t. b.beside (same_along level (point_at level ps j) (point_at level ps q) (get_or es k no_edge) (point_along level ps j q (first_line level ps es spans firsts q j known u v w)) t)))

-- those of one edge more
pub pieces_more : (level : Bool) (ps : List Point) (es : List Edge) (spans : List Span) (firsts : List ℕ) (k : ℕ) (now new : List Edge) → AreKnown level ps es spans firsts → k < length es
    → ((span_at spans k).from < (span_at spans k).to → new ≡ now ++ pieces_of level ps (span_at spans k))
    → ((span_at spans k).to ≤ (span_at spans k).from → new ≡ now ++ get_or es k no_edge ∷ [])
    → now ≡ after (cuts_to (point_at level ps) firsts (length ps)) (take k es) → new ≡ after (cuts_to (point_at level ps) firsts (length ps)) (take (k + 1) es)
pieces_more level ps es spans firsts k now new known within along beside h =
    ⊎_elim
    (λ (l : (span_at spans k).from < (span_at spans k).to). along l ∙ ((λ i. h i ++ sym (span_becomes level ps es spans firsts k known within l) i) ∙ joined))
    (λ (l : (span_at spans k).to ≤ (span_at spans k).from). beside l ∙ ((λ i. h i ++ sym (beside_stays level ps es spans firsts k known within l) i) ∙ joined))
    (one_of (span_at spans k).from (span_at spans k).to)
  where
    one_of : (a b : ℕ) → (a < b) ⊎ (b ≤ a)
    one_of a b = grind arith

    joined : after (cuts_to (point_at level ps) firsts (length ps)) (take k es) ++ after (cuts_to (point_at level ps) firsts (length ps)) (get_or es k no_edge ∷ [])
        ≡ after (cuts_to (point_at level ps) firsts (length ps)) (take (k + 1) es)
    joined =
        sym (after_append (cuts_to (point_at level ps) firsts (length ps)) (take k es) (get_or es k no_edge ∷ []))
        ∙ ap (after (cuts_to (point_at level ps) firsts (length ps))) (sym (take-suc es k no_edge within) ∙ ap (λ (n : ℕ). take n es) (sym (add-one k)))

-- ---- all together

fit_of : (level : Bool) (ps : List Point) (es : List Edge) (spans : List Span) (firsts : List ℕ) → AreKnown level ps es spans firsts → All (λ p. IsEndOfSome es (turned level p)) ps
    → AreFit es (point_at level ps) firsts (length ps)
fit_of level ps es spans firsts known ends = record {
  apart = rising_apart level ps known.rising;
  inside = λ k j within low high. inside_next level ps known.rising j k high within (first_line level ps es spans firsts k j known within low (omega arith));
  stands = λ k within low. stands k within low;
  ends = λ j within. ends j (pos 0, pos 0) within;
}
  where
    same : (b : Bool) (p q : Point) (e : Edge) → e ≡ cond b (q, p) (p, q) → same_ends (p, q) e ≡ true
    same true p q e x = ap (same_ends (p, q)) x ∙ (ends_turned (p, q) (p, q) ∙ ends_self (p, q))
    same false p q e x = ap (same_ends (p, q)) x ∙ ends_self (p, q)

    stands : (k : ℕ) → k < length ps → first_at firsts k < k → occurs (point_at level ps (first_at firsts k), point_at level ps k) es ≡ true
    stands k within low =
        let led = known.first.led k within low in
        let here : led.edge < length es = omega (arith, led.within, known.placed.many) in
        let span = span_known level ps es spans led.edge known.placed here (omega (arith, led.starts, led.ends)) in
        let found : occurs (point_at level ps (span_at spans led.edge).from, point_at level ps (span_at spans led.edge).to) es ≡ true =
        occurs_same (point_at level ps (span_at spans led.edge).from, point_at level ps (span_at spans led.edge).to) (get_or es led.edge no_edge) es
        (same (span_at spans led.edge).is_back (point_at level ps (span_at spans led.edge).from) (point_at level ps (span_at spans led.edge).to) (get_or es led.edge no_edge) span.ends)
        ∙ stands_at es led.edge no_edge here in
        (λ i. occurs (point_at level ps (sym led.starts i), point_at level ps (sym led.ends i)) es) ∙ found

-- the cuts are of upright or level edges
straight : (level : Bool) (p q : Point) → IsAlong level (p, q) → IsStraight (p, q)
straight true p q h = inr h
straight false p q h = inl h

all_put : {A : Type 0} (P : A → Type 0) (x : A) (xs : List A) → P x → All P xs → All P (x ∷ xs)
all_put P x xs one all zero d l = one
all_put P x xs one all (suc k) d l = all k d (omega arith)

each_all : {A : Type 0} (P : A → Type 0) (xs : List A) → Each P xs → All P xs
each_all P [] h = λ k d l. absurd (omega arith)
each_all P (x ∷ xs) h = all_put P x xs h.0 (each_all P xs h.1)

cuts_each : (P : EdgeSplit → Type 0) (a : ℕ → Point) (to from m : ℕ) → ((j : ℕ) → from ≤ j → j < from + m → P (record { ends = (a j, a to); at = a (j + 1) })) → Each P (cuts a to from m)
cuts_each P a to from zero h = tt
cuts_each P a to from (suc m) h = (h (from + m) (omega arith) (omega arith), cuts_each P a to from m (λ j l r. h j l (omega arith)))

all_straight : (level : Bool) (ps : List Point) (es : List Edge) (spans : List Span) (firsts : List ℕ) (n : ℕ) → AreKnown level ps es spans firsts → n ≤ length ps
    → Each (λ (s : EdgeSplit). IsStraight s.ends) (cuts_to (point_at level ps) firsts n)
all_straight level ps es spans firsts zero known low = tt
all_straight level ps es spans firsts (suc k) known low =
    each_append (λ (s : EdgeSplit). IsStraight s.ends) (cuts (point_at level ps) k (first_at firsts k) (k - (first_at firsts k + 1))) (cuts_to (point_at level ps) firsts k)
    (cuts_each (λ (s : EdgeSplit). IsStraight s.ends) (point_at level ps) k (first_at firsts k) (k - (first_at firsts k + 1))
    (λ j l r. straight level (point_at level ps j) (point_at level ps k) (point_along level ps j k (first_line level ps es spans firsts k j known (omega arith) l (omega arith)))))
    (all_straight level ps es spans firsts k known (omega arith))

pub cut_of : (level : Bool) (ps : List Point) (es cut : List Edge) (spans : List Span) (firsts : List ℕ) (n : ℕ) → AreRising ps → ArePlaced level ps es spans
    → AreFirsts spans (length spans) (length ps) firsts → All (λ p. IsEndOfSome es (turned level p)) ps → length (cuts_to (point_at level ps) firsts (length firsts)) ≡ n
    → cut ≡ after (cuts_to (point_at level ps) firsts (length ps)) es → AreCutInLine es cut n
cut_of level ps es cut spans firsts n rising placed first ends count made =
    let known : AreKnown level ps es spans firsts = record { rising = rising; placed = placed; first = first } in
    record {
      splits = cuts_to (point_at level ps) firsts (length ps);
      legal = all_legal es (point_at level ps) firsts (length ps) (length ps) (fit_of level ps es spans firsts known ends) (omega arith);
      made = made;
      count = ap (λ (m : ℕ). length (cuts_to (point_at level ps) firsts m)) (sym first.many) ∙ count;
      straight = each_all (λ (s : EdgeSplit). IsStraight s.ends) (cuts_to (point_at level ps) firsts (length ps)) (all_straight level ps es spans firsts (length ps) known (omega arith));
    }

-- ---- twice

pub cut_twice : (given between edges : List Edge) (m n : ℕ) → AreCutInLine given between m → AreCutInLine between edges n → AreCutInLine given edges (m + n)
cut_twice given between edges m n first later =
    let legal : IsLegal (after first.splits given) later.splits = subst (λ (es : List Edge). IsLegal es later.splits) first.made later.legal in
    let on = splittings_go_on given first.splits later.splits first.legal legal in
    record {
      splits = later.splits ++ first.splits;
      legal = on.legal;
      made = later.made ∙ (ap (after later.splits) first.made ∙ sym on.same);
      count = length-append later.splits first.splits ∙ omega (arith, later.count, first.count);
      straight = All-append (λ (s : EdgeSplit). IsStraight s.ends) later.splits first.splits later.straight first.straight;
    }
