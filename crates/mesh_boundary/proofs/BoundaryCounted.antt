-- Lemmas over points and lists: the edges that counted segments give are the boundary of the edges that they count.
use Rattle.std.proofs.Common.{◌≡◌, ℕ, ◌+◌, ◌<◌, inl, inr, ⊎_elim, Bool, true, false, cond, ◌&&◌, not, List, [], ◌∷◌, ◌++◌, length, take, get_or, refl, sym, ◌∙◌, ap, subst, arith}
use Rattle.std.specs.Prelude.{ℤ, pos, neg_ℤ, ◌+ℤ◌, ◌-ℤ◌, ◌*ℤ◌, ◌≤ℤ◌}
use Rattle.std.specs.List.{flat_map}
use Rattle.std.proofs.lemmas.Grind.{common_steps}
use Rattle.std.proofs.lemmas.Int.{ints}
use Rattle.std.proofs.lemmas.Bool.{cases_Bool, both_ways}
use Rattle.std.proofs.lemmas.List.Sums.{sum_by-append}
use Rattle.mesh_plane.specs.Plane.{Point, Edge}
use Rattle.mesh_plane.specs.Winding.{sum_of, same_point, crossing_on, winding}
use Rattle.mesh_plane.proofs.Whole.{linear, add_mul, mul_add, mul_assoc, mul_zero, mul_one}
use Rattle.mesh_lattice.specs.Clean.{IsProper}
use Rattle.mesh_lattice.specs.Split.{back, same_edge, same_ends, occurs}
use Rattle.mesh_lattice.specs.Counted.{Counted, bit, along, net, counted_net, times, IsCountOf}
use Rattle.mesh_lattice.specs.Boundary.{count, IsBoundary, middle, rises, winding_beside, left_winding, right_winding}
use Rattle.mesh_boundary.specs.Private.CountedSides.{counted_winding, sides_by, sides_of, is_parted, boundary_edge}
use Rattle.mesh_boundary.specs.Private.Stars.{IsSegment}
use Rattle.mesh_lattice.proofs.Ends.{decides_edge, decides_ends, ends_self, along_self, not_along}
use Rattle.mesh_lattice.proofs.Counts.{times_least, absent_net, bit_most}
use Rattle.mesh_lattice.proofs.Each.{Each, each_more}
use Rattle.mesh_lattice.proofs.Each.{proper_of}
use Rattle.mesh_lattice.proofs.Keys.{Leans, Distinct, keys, keys_are, grouped, pick, leaning_either, no_sum}
use Rattle.mesh_lattice.proofs.SidesBack.{count_more, sides_back}
use Rattle.mesh_lattice.proofs.SidesBack.{crossing_back}

-- ---- how often a segment stands, and its count
times_grow : (q : Edge) (k : Counted) (ks : List Counted) → times q ks ≤ℤ times q (k ∷ ks)
times_grow q k ks = by (same_ends q k.0)
  where
    by : (b : Bool) → times q ks ≤ℤ (bit b +ℤ times q ks)
    by true = omega (arith, ints)
    by false = omega (arith, ints)

pub stands_each : (ks : List Counted) → Each (λ (k : Counted). pos 1 ≤ℤ times k.0 ks) ks
stands_each [] = tt
stands_each (k ∷ ks) = (
  omega (arith, ints, ap bit (ends_self k.0), times_least k.0 ks),
  each_more (λ (j : Counted). pos 1 ≤ℤ times j.0 ks) (λ (j : Counted). pos 1 ≤ℤ times j.0 (k ∷ ks)) (λ (j : Counted) (h : pos 1 ≤ℤ times j.0 ks). omega (arith, ints, times_grow j.0 k ks)) ks (stands_each ks),
)

-- where no segment stands twice and none is a point, each has its own count
abbrev Own : List Counted → Counted → Type 0
Own ks k = (pos 1 ≤ℤ times k.0 ks) × (counted_net k.0 ks ≡ k.1)

own_later : (k : Counted) (ks : List Counted) → ((q : Edge) → times q (k ∷ ks) ≤ℤ pos 1) → (j : Counted) → Own ks j → Own (k ∷ ks) j
own_later k ks once j h =
    (omega (arith, ints, h.0, times_grow j.0 k ks), by (same_ends j.0 k.0) refl)
  where
    by : (b : Bool) → same_ends j.0 k.0 ≡ b → counted_net j.0 (k ∷ ks) ≡ j.1
    by true t = absurd (omega (arith, ints, ap bit t, h.0, once j.0))
    by false f = omega (arith, linear, ap (λ (z : ℤ). k.1 *ℤ z) (not_along j.0 k.0 f), mul_zero k.1, h.1)

own_each : (ks : List Counted) → ((q : Edge) → times q ks ≤ℤ pos 1) → Each (λ (k : Counted). same_point k.0.0 k.0.1 ≡ false) ks → Each (Own ks) ks
own_each [] once proper = tt
own_each (k ∷ ks) once proper =
    let absent : times k.0 ks ≡ pos 0 = omega (arith, ints, ap bit (ends_self k.0), once k.0, times_least k.0 ks) in
    let own : counted_net k.0 (k ∷ ks) ≡ k.1 =
    omega (arith, linear, ap (λ (z : ℤ). k.1 *ℤ z) (along_self k.0 proper.0), mul_one k.1, absent_net k.0 ks absent) in (
      (omega (arith, ints, ap bit (ends_self k.0), times_least k.0 ks), own),
      each_more (Own ks) (Own (k ∷ ks)) (own_later k ks once) ks
          (own_each ks (λ (q : Edge). less (times q ks) (times q (k ∷ ks)) (times_grow q k ks) (once q)) proper.1),
    )
  where
    less : (a b : ℤ) → a ≤ℤ b → b ≤ℤ pos 1 → a ≤ℤ pos 1
    less a b h k = omega (arith, ints)

-- the segments that count a list's edges are among them
stands_once : (es : List Edge) (ks : List Counted) → IsCountOf es ks → (k : Counted) → pos 1 ≤ℤ times k.0 ks → occurs k.0 es ≡ true
stands_once es ks is k = by (occurs k.0 es) (times k.0 ks) (is.once k.0)
  where
    by : (b : Bool) (n : ℤ) → n ≡ bit b → pos 1 ≤ℤ n → b ≡ true
    by true n e h = refl
    by false n e h = absurd (omega (arith, ints))

counted_stands : (es : List Edge) (ks : List Counted) → IsCountOf es ks → Each (λ (k : Counted). occurs k.0 es ≡ true) ks
counted_stands es ks is =
    each_more (λ (k : Counted). pos 1 ≤ℤ times k.0 ks) (λ (k : Counted). occurs k.0 es ≡ true) (stands_once es ks is) ks (stands_each ks)

-- and each has its net count
pub counted_segments : (es : List Edge) (ks : List Counted) → IsProper es → IsCountOf es ks → Each (IsSegment es) ks
counted_segments es ks proper is =
    each_more (Own ks) (IsSegment es) (λ (k : Counted) (h : Own ks k). record { stands = stands_once es ks is k h.0; net = sym (is.counts k.0) ∙ h.1 }) ks
    (own_each ks (λ (q : Edge). subst (λ (z : ℤ). z ≤ℤ pos 1) (sym (is.once q)) (bit_most (occurs q es))) all_proper)
  where
    all_proper : Each (λ (k : Counted). same_point k.0.0 k.0.1 ≡ false) ks
    all_proper = each_more (λ (k : Counted). occurs k.0 es ≡ true) (λ (k : Counted). same_point k.0.0 k.0.1 ≡ false) (λ (k : Counted) (o : occurs k.0 es ≡ true). proper k.0 o) ks (counted_stands es ks is)

-- ---- a sum over counted segments
counted_split : (f : Edge → ℤ) (k : Counted) (ks : List Counted) (rs : List Edge) →
    sum_of (λ (s : Edge). counted_net s (k ∷ ks) *ℤ f s) rs ≡ (k.1 *ℤ sum_of (λ (s : Edge). along s k.0 *ℤ f s) rs) +ℤ sum_of (λ (s : Edge). counted_net s ks *ℤ f s) rs
counted_split f k ks [] = omega (arith, linear, mul_zero k.1)
counted_split f k ks (s ∷ rs) =
    omega (
      arith,
      linear,
      add_mul (k.1 *ℤ along s k.0) (counted_net s ks) (f s),
      mul_assoc k.1 (along s k.0) (f s),
      mul_add k.1 (along s k.0 *ℤ f s) (sum_of (λ (e : Edge). along e k.0 *ℤ f e) rs),
      counted_split f k ks rs,
    )

counted_grouped : (f : Edge → ℤ) → ((e : Edge) → f (back e) ≡ neg_ℤ (f e)) → (rs : List Edge) → Each Leans rs → Distinct rs →
    (ks : List Counted) → Each (λ (k : Counted). occurs k.0 rs ≡ true) ks →
    sum_of (λ (k : Counted). k.1 *ℤ f k.0) ks ≡ sum_of (λ (s : Edge). counted_net s ks *ℤ f s) rs
counted_grouped f odd rs lean distinct [] cover = sym (no_sum f rs)
counted_grouped f odd rs lean distinct (k ∷ ks) cover =
    omega (
      arith,
      linear,
      counted_split f k ks rs,
      ap (λ (z : ℤ). k.1 *ℤ z) (pick f odd k.0 rs lean distinct cover.0),
      counted_grouped f odd rs lean distinct ks cover.1,
    )

same_nets : (f : Edge → ℤ) (es : List Edge) (ks : List Counted) → ((q : Edge) → counted_net q ks ≡ net q es) → (rs : List Edge) →
    sum_of (λ (s : Edge). counted_net s ks *ℤ f s) rs ≡ sum_of (λ (s : Edge). net s es *ℤ f s) rs
same_nets f es ks h [] = refl
same_nets f es ks h (s ∷ rs) = omega (arith, linear, ap (λ (z : ℤ). z *ℤ f s) (h s), same_nets f es ks h rs)

-- an odd number of an edge has one sum over a list of edges and over the segments that count it
pub counted_sum : (f : Edge → ℤ) → ((e : Edge) → f (back e) ≡ neg_ℤ (f e)) → (es : List Edge) (ks : List Counted) → IsProper es → IsCountOf es ks →
    sum_of (λ (k : Counted). k.1 *ℤ f k.0) ks ≡ sum_of f es
counted_sum f odd es ks proper is =
    let rs : List Edge = keys es in
    let k = keys_are es proper in
    let cover = each_more (λ (k : Counted). occurs k.0 es ≡ true) (λ (k : Counted). occurs k.0 (keys es) ≡ true) (λ (j : Counted) (h : occurs j.0 es ≡ true). k.same j.0 ∙ h) ks (counted_stands es ks is) in
    counted_grouped f odd rs k.leaning k.distinct ks cover
    ∙ (same_nets f es ks is.counts rs
    ∙ sym (grouped f odd rs k.leaning k.distinct es (λ (e : Edge) (o : occurs e es ≡ true). k.same e ∙ o)))

-- counted segments wind round a point as the edges do that they count
pub counted_at : (es : List Edge) (ks : List Counted) → IsProper es → IsCountOf es ks → (q : Point) → counted_winding q ks ≡ winding 2 q es
counted_at es ks proper is q = counted_sum (λ (d : Edge). crossing_on 2 q d.0 d.1) (λ (d : Edge). crossing_back (pos 2) q d) es ks proper is

-- ---- the edges that the segments give
abbrev pub Sided : List Edge → List Counted → Counted → Type 0
Sided es ks k = sides_of ks k ≡ (left_winding es k.0, right_winding es k.0)

pub sided : (es : List Edge) (ks : List Counted) → IsProper es → IsCountOf es ks → (k : Counted) → IsSegment es k → Sided es ks k
sided es ks proper is k own =
    (λ i. sides_by (counted_at es ks proper is (middle k.0) i) (k.0, sym own.net i))
    ∙ by (rises k.0) (winding_beside es k.0) (net k.0 es)
  where
    by : (b : Bool) (w n : ℤ) → ◌≡◌ {A = ℤ × ℤ} (cond b (w +ℤ n, w) (w, w -ℤ n)) (cond b (w +ℤ n) w, cond b w (w -ℤ n))
    by true w n = refl
    by false w n = refl

abbrev pub emitted : (ℤ → Bool) → List Counted → Counted → List Edge
emitted fill ks k = boundary_edge fill (sides_of ks k) k.0

-- the edges that the first segments give, and the next one
pub emitted_more : (fill : ℤ → Bool) (ks : List Counted) (i : ℕ) (d : Counted) (old new : List Edge) (sides : ℤ × ℤ) → i < length ks
    → old ≡ flat_map (emitted fill ks) (take i ks) → sides ≡ sides_of ks (get_or ks i d) → new ≡ old ++ boundary_edge fill sides (get_or ks i d).0
    → new ≡ flat_map (emitted fill ks) (take (i + 1) ks)
emitted_more fill ks i d old new sides h is sided put =
    let given : boundary_edge fill sides (get_or ks i d).0 ≡ emitted fill ks (get_or ks i d) = ap (λ (s : ℤ × ℤ). boundary_edge fill s (get_or ks i d).0) sided in
    let pushed = put ∙ ap (λ (l : List Edge). old ++ l) given in
    grind (arith, common_steps, pushed)

-- whether the edge is of the boundary, where it stands
abbrev parts : List Edge → (ℤ → Bool) → Edge → Bool
parts es fill e = fill (left_winding es e) && not (fill (right_winding es e))

count_one : (e d : Edge) → count e (d ∷ []) ≡ cond (same_edge e d) 1 0
count_one e d = by (same_edge e d) (count e (d ∷ [])) (count_more e d [])
  where
    by : (b : Bool) (n : ℕ) → pos n ≡ bit b +ℤ pos 0 → n ≡ cond b 1 0
    by true n h = omega (arith, ints)
    by false n h = omega (arith, ints)

pub sides_turned : (es : List Edge) (e : Edge) → (e.0 ≡ e.1 → ⊥) → (left_winding es (back e) ≡ right_winding es e) × (right_winding es (back e) ≡ left_winding es e)
sides_turned es e apart =
    ⊎_elim (λ (h : Leans e). sides_back es e h)
    (λ (h : Leans (back e)). let s = sides_back es (back e) h in (sym s.1, sym s.0))
    (leaning_either e apart)

back_differs : (e : Edge) → (e.0 ≡ e.1 → ⊥) → same_edge e (back e) ≡ false
back_differs e apart =
    ⊎_elim (λ (t : same_edge e (back e) ≡ true). absurd (apart (ap (λ (d : Edge). d.0) ((decides_edge e (back e)).0 t)))) (λ (f : same_edge e (back e) ≡ false). f) (cases_Bool (same_edge e (back e)))

self_same : (e : Edge) → same_edge e e ≡ true
self_same e = (decides_edge e e).1 refl

-- counts of what is picked by two tests
picked : (e : Edge) (a b : Bool) (l m : List Edge) → count e l ≡ 1 → count e m ≡ 0 →
    count e (cond (a && not b) l (cond (b && not a) m [])) ≡ cond (a && not b) 1 0
picked e true true l m hl hm = refl
picked e true false l m hl hm = hl
picked e false true l m hl hm = hm
picked e false false l m hl hm = refl

picked_back : (e : Edge) (a b : Bool) (l m : List Edge) → count e l ≡ 1 → count e m ≡ 0 →
    count e (cond (b && not a) m (cond (a && not b) l [])) ≡ cond (a && not b) 1 0
picked_back e true true l m hl hm = refl
picked_back e true false l m hl hm = hl
picked_back e false true l m hl hm = hm
picked_back e false false l m hl hm = refl

picked_none : (e : Edge) (x y : Bool) (l m : List Edge) → count e l ≡ 0 → count e m ≡ 0 → count e (cond x l (cond y m [])) ≡ 0
picked_none e true y l m hl hm = hl
picked_none e false true l m hl hm = hm
picked_none e false false l m hl hm = refl

count_self : (e : Edge) → count e (e ∷ []) ≡ 1
count_self e = count_one e e ∙ ap (λ (b : Bool). cond b 1 0) (self_same e)

count_back : (e : Edge) → (e.0 ≡ e.1 → ⊥) → count e (back e ∷ []) ≡ 0
count_back e apart = count_one e (back e) ∙ ap (λ (b : Bool). cond b 1 0) (back_differs e apart)

count_other : (e d : Edge) → (e ≡ d → ⊥) → count e (d ∷ []) ≡ 0
count_other e d apart =
    count_one e d ∙ ap (λ (b : Bool). cond b 1 0)
    (⊎_elim (λ (t : same_edge e d ≡ true). absurd (apart ((decides_edge e d).0 t))) (λ (f : same_edge e d ≡ false). f) (cases_Bool (same_edge e d)))

own_count : (es : List Edge) (fill : ℤ → Bool) (e : Edge) → (e.0 ≡ e.1 → ⊥) →
    count e (boundary_edge fill (left_winding es e, right_winding es e) e) ≡ cond (parts es fill e) 1 0
own_count es fill e apart = picked e (fill (left_winding es e)) (fill (right_winding es e)) (e ∷ []) (back e ∷ []) (count_self e) (count_back e apart)

turned_count : (es : List Edge) (fill : ℤ → Bool) (e : Edge) → (e.0 ≡ e.1 → ⊥) →
    count e (boundary_edge fill (left_winding es (back e), right_winding es (back e)) (back e)) ≡ cond (parts es fill e) 1 0
turned_count es fill e apart =
    let s = sides_turned es e apart in
    (λ i. count e (cond (fill (s.0 i) && not (fill (s.1 i))) (back e ∷ []) (cond (fill (s.1 i) && not (fill (s.0 i))) (e ∷ []) [])))
    ∙ picked_back e (fill (left_winding es e)) (fill (right_winding es e)) (e ∷ []) (back e ∷ []) (count_self e) (count_back e apart)

-- one segment's share of the count of an edge
emitted_count : (es : List Edge) (ks : List Counted) (fill : ℤ → Bool) → IsProper es → (k : Counted) → occurs k.0 es ≡ true → Sided es ks k → (e : Edge) →
    count e (emitted fill ks k) ≡ cond (same_ends e k.0 && parts es fill e) 1 0
emitted_count es ks fill proper k stands is e =
    ap (λ (s : ℤ × ℤ). count e (boundary_edge fill s k.0)) is
    ∙ ⊎_elim
    (λ (t : same_ends e k.0 ≡ true).
    ⊎_elim
    (λ (x : e ≡ k.0).
    subst (λ (d : Edge). count e (boundary_edge fill (left_winding es d, right_winding es d) d) ≡ cond (parts es fill e) 1 0) x
    (own_count es fill e (subst (λ (d : Edge). d.0 ≡ d.1 → ⊥) (sym x) apart)))
    (λ (x : e ≡ back k.0).
    subst (λ (d : Edge). count e (boundary_edge fill (left_winding es d, right_winding es d) d) ≡ cond (parts es fill e) 1 0) (ap back x)
    (turned_count es fill e (λ (y : e.0 ≡ e.1). apart (sym (ap (λ (d : Edge). d.1) x) ∙ (sym y ∙ ap (λ (d : Edge). d.0) x)))))
    ((decides_ends e k.0).0 t)
    ∙ sym (ap (λ (b : Bool). cond (b && parts es fill e) 1 0) t))
    (λ (f : same_ends e k.0 ≡ false).
    picked_none e (is_parted fill (left_winding es k.0, right_winding es k.0)) (is_parted fill (right_winding es k.0, left_winding es k.0)) (k.0 ∷ []) (back k.0 ∷ [])
    (count_other e k.0 (λ (x : e ≡ k.0). both_ways (same_ends e k.0) f ((decides_ends e k.0).1 (inl x))))
    (count_other e (back k.0) (λ (x : e ≡ back k.0). both_ways (same_ends e k.0) f ((decides_ends e k.0).1 (inr x))))
    ∙ sym (ap (λ (b : Bool). cond (b && parts es fill e) 1 0) f))
    (cases_Bool (same_ends e k.0))
  where
    apart : k.0.0 ≡ k.0.1 → ⊥
    apart = proper_of es proper k.0 stands

count_append : (e : Edge) (xs ys : List Edge) → count e (xs ++ ys) ≡ count e xs + count e ys
count_append e xs ys = sum_by-append (λ (x : Edge). cond (same_edge e x) 1 0) xs ys

emitted_counts : (es : List Edge) (ks all : List Counted) (fill : ℤ → Bool) → IsProper es → Each (λ (k : Counted). occurs k.0 es ≡ true) ks → Each (Sided es all) ks → (e : Edge) →
    pos (count e (flat_map (emitted fill all) ks)) ≡ cond (parts es fill e) (times e ks) (pos 0)
emitted_counts es [] all fill proper stands is e = by (parts es fill e)
  where
    by : (b : Bool) → pos 0 ≡ cond b (pos 0) (pos 0)
    by true = refl
    by false = refl
emitted_counts es (k ∷ ks) all fill proper stands is e =
    by (same_ends e k.0) (parts es fill e) (count e (emitted fill all k)) (count e (flat_map (emitted fill all) ks)) (count e (emitted fill all k ++ flat_map (emitted fill all) ks)) (times e ks)
    (count_append e (emitted fill all k) (flat_map (emitted fill all) ks)) (emitted_count es all fill proper k stands.0 is.0 e) (emitted_counts es ks all fill proper stands.1 is.1 e)
  where
    by : (b p : Bool) (n m l : ℕ) (t : ℤ) → l ≡ n + m → n ≡ cond (b && p) 1 0 → pos m ≡ cond p t (pos 0) → pos l ≡ cond p (bit b +ℤ t) (pos 0)
    by true true n m l t x y z = omega (arith, ints)
    by true false n m l t x y z = omega (arith, ints)
    by false true n m l t x y z = omega (arith, ints)
    by false false n m l t x y z = omega (arith, ints)

-- the edges that counted segments give are the boundary of the edges that they count
pub counted_boundary : (es : List Edge) (ks : List Counted) (fill : ℤ → Bool) → IsCountOf es ks → IsProper es → IsBoundary es fill (flat_map (emitted fill ks) ks)
counted_boundary es ks fill is proper = record { counts = one_each }
  where
    stands : Each (λ (k : Counted). occurs k.0 es ≡ true) ks
    stands = counted_stands es ks is

    all_sided : Each (Sided es ks) ks
    all_sided = each_more (IsSegment es) (Sided es ks) (sided es ks proper is) ks (counted_segments es ks proper is)

    table : (o p : Bool) (n : ℕ) (t : ℤ) → pos n ≡ cond p t (pos 0) → t ≡ bit o → n ≡ cond (o && p) 1 0
    table true true n t h k = omega (arith, ints)
    table true false n t h k = omega (arith, ints)
    table false true n t h k = omega (arith, ints)
    table false false n t h k = omega (arith, ints)

    one_each : (e : Edge) → count e (flat_map (emitted fill ks) ks) ≡ cond (occurs e es && (fill (left_winding es e) && not (fill (right_winding es e)))) 1 0
    one_each e = table (occurs e es) (parts es fill e) (count e (flat_map (emitted fill ks) ks)) (times e ks) (emitted_counts es ks ks fill proper stands all_sided e) (is.once e)
