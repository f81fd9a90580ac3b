-- Lemmas over lists: edges that are their own boundary still are where two of them that run straight on become one.
use Rattle.std.proofs.Common.{◌≡◌, ℕ, ◌<◌, ◌⊎◌, inl, inr, ⊎_elim, Bool, true, false, cond, not, ◌&&◌, ◌||◌, List, [], ◌∷◌, refl, sym, ◌∙◌, ap, subst, arith}
use Rattle.std.specs.Prelude.{ℤ, pos, ◌+ℤ◌, ◌-ℤ◌, ◌≤ℤ◌, ◌<ℤ◌, int_lt}
use Rattle.std.proofs.lemmas.Int.{ints}
use Rattle.std.proofs.lemmas.Bool.{cases_Bool, both_ways, or_right}
use Rattle.mesh_plane.specs.Plane.{Point, Edge}
use Rattle.mesh_plane.specs.Winding.{sum_of, crossing_on, winding, refined, same_point, IsBalanced}
use Rattle.mesh_plane.proofs.Balance.{growth, growth_of_balanced, balanced_by_growth}
use Rattle.mesh_plane.proofs.Comparing.{less_test, points_apart, points_swap}
use Rattle.mesh_plane.proofs.Sums.{sum_least}
use Rattle.mesh_plane.proofs.Triangles.{crossing_on_straight}
use Rattle.mesh_plane.proofs.Whole.{linear, mul_cancel}
use Rattle.mesh_lattice.specs.Boundary.{count, middle, rises, winding_beside, left_winding, right_winding}
use Rattle.mesh_lattice.specs.Clean.{IsClean, IsOn, IsProper, refined_edge}
use Rattle.mesh_lattice.specs.Counted.{bit, along, net}
use Rattle.mesh_lattice.specs.FillRules.{filled}
use Rattle.mesh_lattice.specs.Split.{is_end, same_edge, same_ends, occurs}
use Rattle.mesh_lattice.specs.declared.fill.FillRule.TheVariants.{Positive}
use Rattle.mesh_lattice.proofs.Boxes.{on_back, turn_end, end_box}
use Rattle.mesh_lattice.proofs.Counts.{bit_least}
use Rattle.mesh_lattice.proofs.Ends.{along_self, decides_edge, decides_end, decides_ends, ends_along, ends_sym, not_along, not_ends, end_back}
use Rattle.mesh_lattice.proofs.Keys.{leaning_either, Leans, occurs_back, occurs_head}
use Rattle.mesh_lattice.proofs.SidesBack.{count_more, sides_back}
use Rattle.mesh_regions.specs.SideLaws.{AreSplit}
use Rattle.mesh_regions.proofs.Inside.{inside_winding}
use Rattle.mesh_regions.proofs.BoundaryFill.{net_counts}
use Rattle.mesh_shapes.proofs.Tracing.{counts_same}
use Rattle.mesh_below.specs.Answers.{AreOwnBoundary}
use Rattle.mesh_below.proofs.OwnSides.{edge_net, none_counted}
use Rattle.mesh_below.proofs.Straight.{RunsThrough, runs_refined, on_parts, middle_on, whole_apart, straight_on, part_inside, rise_alike}

-- ---- lists with the same edges

abbrev pub Same : List Edge → List Edge → Type 0
Same es gs = (f : Edge → ℤ) → sum_of f es ≡ sum_of f gs

occurs_sum : (e : Edge) (es : List Edge) → occurs e es ≡ int_lt (pos 0) (sum_of (λ (f : Edge). bit (same_ends e f)) es)
occurs_sum e [] = refl
occurs_sum e (f ∷ fs) =
    by (same_ends e f) (occurs e fs) (sum_of (λ (g : Edge). bit (same_ends e g)) fs) (occurs_sum e fs)
    (sum_least (λ (g : Edge). bit (same_ends e g)) (λ (g : Edge). bit_least (same_ends e g)) fs)
  where
    by : (b c : Bool) (s : ℤ) → c ≡ int_lt (pos 0) s → pos 0 ≤ℤ s → (b || c) ≡ int_lt (pos 0) (bit b +ℤ s)
    by true c s h least = sym (less_test (pos 0) (pos 1 +ℤ s) (omega (arith, linear)))
    by false c s h least = let e : s ≡ pos 0 +ℤ s = omega (arith, linear) in h ∙ ap (int_lt (pos 0)) e

pub same_occurs : (es gs : List Edge) → Same es gs → (e : Edge) → occurs e es ≡ occurs e gs
same_occurs es gs same e = occurs_sum e es ∙ (ap (int_lt (pos 0)) (same (λ (f : Edge). bit (same_ends e f))) ∙ sym (occurs_sum e gs))

pub own_same : (es gs : List Edge) → Same es gs → AreOwnBoundary es → AreOwnBoundary gs
own_same es gs same k = record {
  split = record {
    balanced = balanced_by_growth gs (λ g. sym (same (λ (e : Edge). growth g e.0 e.1)) ∙ growth_of_balanced es k.split.balanced g);
    clean = λ (e f : Edge) (o : occurs e gs ≡ true) (p : occurs f gs ≡ true).
        k.split.clean e f (same_occurs es gs same e ∙ o) (same_occurs es gs same f ∙ p);
    proper = λ (e : Edge) (o : occurs e gs ≡ true). k.split.proper e (same_occurs es gs same e ∙ o);
  };
  bounded = record {
    counts = λ (e : Edge).
        let winds = same (λ (f : Edge). crossing_on 2 (middle e) f.0 f.1) in
        let nets = same (along e) in
        sym (counts_same e es gs same)
        ∙ (k.bounded.counts e
        ∙ (λ i. cond (same_occurs es gs same e i && (filled Positive (cond (rises e) (winds i +ℤ nets i) (winds i)) && not (filled Positive (cond (rises e) (winds i) (winds i -ℤ nets i))))) 1 0));
  };
}

-- ---- two edges become one

-- no edge of the list has an end at the point
abbrev pub IsFreeOf : Point → List Edge → Type 0
IsFreeOf b es = (f : Edge) → occurs f es ≡ true → is_end b f ≡ false

refined_one : (m : ℕ) → 0 < m → (p r : Point) → refined m p ≡ refined m r → p ≡ r
refined_one m some p r e =
    let above : pos 0 <ℤ pos m = omega (arith, ints) in
    let x = mul_cancel (pos m) p.0 r.0 above (ap (λ (q : Point). q.0) e) in
    let y = mul_cancel (pos m) p.1 r.1 above (ap (λ (q : Point). q.1) e) in
    λ i. (x i, y i)

pub either_of : (p q : Bool) → (p || q) ≡ true → (p ≡ true) ⊎ (q ≡ true)
either_of true q h = inl refl
either_of false q h = inr h

edges_apart : (e f : Edge) → (e ≡ f → ⊥) → same_edge e f ≡ false
edges_apart e f differ = ⊎_elim (λ (t : same_edge e f ≡ true). absurd (differ ((decides_edge e f).0 t))) (λ (x : same_edge e f ≡ false). x) (cases_Bool (same_edge e f))

not_edge : (e f : Edge) → same_ends e f ≡ false → same_edge e f ≡ false
not_edge e f h = edges_apart e f (λ (q : e ≡ f). both_ways (same_ends e f) h ((decides_ends e f).1 (inl q)))

module _ (a b c : Point) (rest : List Edge) (through : RunsThrough a b c) (lone : IsFreeOf b rest) (own : AreOwnBoundary ((a, b) ∷ (b, c) ∷ rest)) where
  abbrev Parts : List Edge
  Parts = (a, b) ∷ (b, c) ∷ rest

  abbrev Whole : List Edge
  Whole = (a, c) ∷ rest

  in_parts : (f : Edge) → occurs f rest ≡ true → occurs f Parts ≡ true
  in_parts f o = or_right (same_ends f (a, b)) (occurs f ((b, c) ∷ rest)) (or_right (same_ends f (b, c)) (occurs f rest) o)

  first_stands : occurs (a, b) Parts ≡ true
  first_stands = occurs_head (a, b) ((b, c) ∷ rest)

  second_stands : occurs (b, c) Parts ≡ true
  second_stands = or_right (same_ends (b, c) (a, b)) (occurs (b, c) ((b, c) ∷ rest)) (occurs_head (b, c) rest)

  other_first : (f : Edge) → occurs f rest ≡ true → same_ends f (a, b) ≡ false
  other_first f o = not_ends b f (a, b) (lone f o) ((decides_end b (a, b)).1 (inr refl))

  other_second : (f : Edge) → occurs f rest ≡ true → same_ends f (b, c) ≡ false
  other_second f o = not_ends b f (b, c) (lone f o) ((decides_end b (b, c)).1 (inl refl))

  -- an end of another edge is not the middle point
  not_middle : (m : ℕ) → 0 < m → (f : Edge) → occurs f rest ≡ true → (z : Point) → z ≡ refined m b → is_end z (refined_edge m f) ≡ true → ⊥
  not_middle m some f o z e h =
      both_ways (is_end b f) (lone f o)
      ((decides_end b f).1
      (⊎_elim (λ (x : z ≡ refined m f.0). inl (refined_one m some b f.0 (sym e ∙ x))) (λ (x : z ≡ refined m f.1). inr (refined_one m some b f.1 (sym e ∙ x)))
      ((decides_end z (refined_edge m f)).0 h)))

  whole_shared : (m : ℕ) → 0 < m → (f : Edge) → occurs f rest ≡ true → (z : Point) → IsOn (refined_edge m (a, c)) z → IsOn (refined_edge m f) z →
      (is_end z (refined_edge m (a, c)) ≡ true) × (is_end z (refined_edge m f) ≡ true)
  whole_shared m some f o z on of =
      ⊎_elim
      (λ (h : IsOn (refined_edge m (a, b)) z).
      let s = (own.split.clean (a, b) f first_stands (in_parts f o) (ends_sym (a, b) f ∙ other_first f o) m some).shared z h of in
      ⊎_elim (λ (e : z ≡ refined m a). ((decides_end z (refined_edge m (a, c))).1 (inl e), s.1)) (λ (e : z ≡ refined m b). absurd (not_middle m some f o z e s.1))
      ((decides_end z (refined_edge m (a, b))).0 s.0))
      (λ (h : IsOn (refined_edge m (b, c)) z).
      let s = (own.split.clean (b, c) f second_stands (in_parts f o) (ends_sym (b, c) f ∙ other_second f o) m some).shared z h of in
      ⊎_elim (λ (e : z ≡ refined m b). absurd (not_middle m some f o z e s.1)) (λ (e : z ≡ refined m c). ((decides_end z (refined_edge m (a, c))).1 (inr e), s.1))
      ((decides_end z (refined_edge m (b, c))).0 s.0))
      (on_parts (refined m a) (refined m b) (refined m c) z (runs_refined m some a b c through) on)

  -- whichever way the whole edge is given
  either_shared : (m : ℕ) → 0 < m → (e f : Edge) → same_ends e (a, c) ≡ true → occurs f rest ≡ true → (z : Point) → IsOn (refined_edge m e) z → IsOn (refined_edge m f) z →
      (is_end z (refined_edge m e) ≡ true) × (is_end z (refined_edge m f) ≡ true)
  either_shared m some e f same o =
      ⊎_elim (λ (q : e ≡ (a, c)). subst Shared (sym q) (whole_shared m some f o))
      (λ (q : e ≡ (c, a)).
      subst Shared (sym q) (λ (z : Point) (on : IsOn (refined_edge m (c, a)) z) (of : IsOn (refined_edge m f) z).
      let s = whole_shared m some f o z (on_back (refined_edge m (c, a)) z on) of in (end_back z (refined_edge m (a, c)) ∙ s.0, s.1)))
      ((decides_ends e (a, c)).0 same)
    where
      Shared : Edge → Type 0
      Shared x = (z : Point) → IsOn (refined_edge m x) z → IsOn (refined_edge m f) z → (is_end z (refined_edge m x) ≡ true) × (is_end z (refined_edge m f) ≡ true)

  whole_clean : IsClean Whole
  whole_clean e f o p differ m some = record {
    shared = λ (z : Point) (on : IsOn (refined_edge m e) z) (of : IsOn (refined_edge m f) z).
        ⊎_elim
        (λ (x : same_ends e (a, c) ≡ true).
        ⊎_elim (λ (y : same_ends f (a, c) ≡ true). absurd (both_ways (same_ends e f) differ (ends_along e f (a, c) y ∙ x))) (λ (y : occurs f rest ≡ true). either_shared m some e f x y z on of)
        (either_of (same_ends f (a, c)) (occurs f rest) p))
        (λ (x : occurs e rest ≡ true).
        ⊎_elim (λ (y : same_ends f (a, c) ≡ true). let s = either_shared m some f e y x z of on in (s.1, s.0))
        (λ (y : occurs f rest ≡ true). (own.split.clean e f (in_parts e x) (in_parts f y) differ m some).shared z on of)
        (either_of (same_ends f (a, c)) (occurs f rest) p))
        (either_of (same_ends e (a, c)) (occurs e rest) o);
  }

  whole_ends : same_point a c ≡ false
  whole_ends = points_apart a c (whole_apart a b c through)

  whole_proper : IsProper Whole
  whole_proper e o =
      ⊎_elim
      (λ (x : same_ends e (a, c) ≡ true).
      ⊎_elim (λ (q : e ≡ (a, c)). subst (λ (f : Edge). same_point f.0 f.1 ≡ false) (sym q) whole_ends)
      (λ (q : e ≡ (c, a)). subst (λ (f : Edge). same_point f.0 f.1 ≡ false) (sym q) (points_swap a c ∙ whole_ends)) ((decides_ends e (a, c)).0 x))
      (λ (x : occurs e rest ≡ true). own.split.proper e (in_parts e x))
      (either_of (same_ends e (a, c)) (occurs e rest) o)

  whole_balanced : IsBalanced Whole
  whole_balanced = balanced_by_growth Whole (λ g. omega (arith, linear, growth_of_balanced Parts own.split.balanced g))

  whole_split : AreSplit Whole
  whole_split = record { balanced = whole_balanced; clean = whole_clean; proper = whole_proper }

  pub whole_winds : (m : ℕ) (q : Point) → winding m q Whole ≡ winding m q Parts
  whole_winds m q = omega (arith, linear, crossing_on_straight m q a b c (straight_on a b c through))

  -- ---- their sides

  first_sides : (filled Positive (left_winding Parts (a, b)) ≡ true) × (filled Positive (right_winding Parts (a, b)) ≡ false)
  first_sides =
      by (occurs (a, b) Parts) (filled Positive (left_winding Parts (a, b))) (filled Positive (right_winding Parts (a, b))) (count (a, b) Parts) (own.bounded.counts (a, b))
      (let more = count_more (a, b) (a, b) ((b, c) ∷ rest) in
      let one = ap bit ((decides_edge (a, b) (a, b)).1 refl) in
      omega (arith, ints, more, one))
    where
      by : (o p q : Bool) (n : ℕ) → n ≡ cond (o && (p && not q)) 1 0 → 0 < n → (p ≡ true) × (q ≡ false)
      by true true false n e some = (refl, refl)
      by true true true n e some = absurd (omega (arith, e))
      by true false q n e some = absurd (omega (arith, e))
      by false p q n e some = absurd (omega (arith, e))

  first_net : net (a, b) Parts ≡ pos 1
  first_net =
      edge_net Parts Parts (filled Positive) own.split.proper own.bounded (a, b) first_stands
      ∙ (λ i. bit (first_sides.0 i) -ℤ bit (first_sides.1 i))

  -- no other edge has the ends of the whole
  whole_alone : occurs (a, c) rest ≡ false
  whole_alone = ⊎_elim (λ (o : occurs (a, c) rest ≡ true). absurd (meets o)) (λ (f : occurs (a, c) rest ≡ false). f) (cases_Bool (occurs (a, c) rest))
    where
      meets : occurs (a, c) rest ≡ true → ⊥
      meets o =
          let on = middle_on (refined 1 a) (refined 1 b) (refined 1 c) (runs_refined 1 (omega arith) a b c through) in
          let s = (own.split.clean (a, b) (a, c) first_stands (in_parts (a, c) o) (ends_sym (a, b) (a, c) ∙ other_first (a, c) o) 1 (omega arith)).shared (refined 1 b)
          (record { on_line = turn_end (refined 1 a) (refined 1 b); in_box = end_box (refined 1 a, refined 1 b) }) on in
          not_middle 1 (omega arith) (a, c) o (refined 1 b) refl s.1

  whole_net : net (a, c) Whole ≡ pos 1
  whole_net =
      let none : net (a, c) rest ≡ pos 0 =
      (let first = none_counted (a, c) rest whole_alone in
      let second = none_counted (c, a) rest (occurs_back (a, c) rest ∙ whole_alone) in
      let both = net_counts (a, c) rest in
      omega (arith, ints, first, second, both)) in
      omega (arith, linear, along_self (a, c) whole_ends, none)

  whole_beside : winding_beside Whole (a, c) ≡ winding_beside Parts (a, b)
  whole_beside =
      sym (inside_winding Whole whole_split (a, c) (occurs_head (a, c) rest) 2 (omega arith) (middle (a, b)) (part_inside a b c through))
      ∙ whole_winds 2 (middle (a, b))

  nets : net (a, c) Whole ≡ net (a, b) Parts
  nets = whole_net ∙ sym first_net

  whole_left : filled Positive (left_winding Whole (a, c)) ≡ true
  whole_left =
      (λ i. filled Positive (cond (rise_alike a b c through i) (whole_beside i +ℤ nets i) (whole_beside i))) ∙ first_sides.0

  whole_right : filled Positive (right_winding Whole (a, c)) ≡ false
  whole_right =
      (λ i. filled Positive (cond (rise_alike a b c through i) (whole_beside i) (whole_beside i -ℤ nets i))) ∙ first_sides.1

  abbrev Counted : Edge → Type 0
  Counted e = count e Whole ≡ cond (occurs e Whole && (filled Positive (left_winding Whole e) && not (filled Positive (right_winding Whole e)))) 1 0

  counted_forward : Counted (a, c)
  counted_forward =
      (let more = count_more (a, c) (a, c) rest in
      let one = ap bit ((decides_edge (a, c) (a, c)).1 refl) in
      let none = none_counted (a, c) rest whole_alone in
      omega (arith, ints, more, one, none))
      ∙ sym (λ i. cond (occurs_head (a, c) rest i && (whole_left i && not (whole_right i))) 1 0)

  counted_back : Counted (c, a)
  counted_back =
      none ∙ sym (λ i. cond ((occurs_back (a, c) Whole ∙ occurs_head (a, c) rest) i && (turned i && not (filled Positive (right_winding Whole (c, a))))) 1 0)
    where
      none : count (c, a) Whole ≡ 0
      none =
          let more = count_more (c, a) (a, c) rest in
          let other = ap bit (edges_apart (c, a) (a, c) (λ e. whole_apart a b c through (ap (λ (q : Edge). q.1) e))) in
          let rested = none_counted (c, a) rest (occurs_back (a, c) rest ∙ whole_alone) in
          omega (arith, ints, more, other, rested)

      side : left_winding Whole (c, a) ≡ right_winding Whole (a, c)
      side =
          ⊎_elim (λ (l : Leans (a, c)). (sides_back Whole (a, c) l).0) (λ (l : Leans (c, a)). sym (sides_back Whole (c, a) l).1)
          (leaning_either (a, c) (whole_apart a b c through))

      turned : filled Positive (left_winding Whole (c, a)) ≡ false
      turned = ap (filled Positive) side ∙ whole_right

  counted_other : (e : Edge) → same_ends e (a, c) ≡ false → occurs e rest ≡ true → Counted e
  counted_other e x o =
      same
      ∙ (own.bounded.counts e
      ∙ ((λ i. cond (in_parts e o i && (filled Positive (left i) && not (filled Positive (right i)))) 1 0)
      ∙ sym (λ i. cond (or_right (same_ends e (a, c)) (occurs e rest) o i && (filled Positive (left_winding Whole e) && not (filled Positive (right_winding Whole e)))) 1 0)))
    where
      same : count e Whole ≡ count e Parts
      same =
          let whole = count_more e (a, c) rest in
          let first = count_more e (a, b) ((b, c) ∷ rest) in
          let second = count_more e (b, c) rest in
          let p = ap bit (not_edge e (a, c) x) in
          let q = ap bit (not_edge e (a, b) (other_first e o)) in
          let r = ap bit (not_edge e (b, c) (other_second e o)) in
          omega (arith, ints, whole, first, second, p, q, r)

      winds : winding 2 (middle e) Parts ≡ winding 2 (middle e) Whole
      winds = sym (whole_winds 2 (middle e))

      own_nets : net e Parts ≡ net e Whole
      own_nets = omega (arith, linear, not_along e (a, c) x, not_along e (a, b) (other_first e o), not_along e (b, c) (other_second e o))

      left : left_winding Parts e ≡ left_winding Whole e
      left = λ i. cond (rises e) (winds i +ℤ own_nets i) (winds i)

      right : right_winding Parts e ≡ right_winding Whole e
      right = λ i. cond (rises e) (winds i) (winds i -ℤ own_nets i)

  pub merged : AreOwnBoundary Whole
  merged = record {
    split = whole_split;
    bounded = record { counts = λ (e : Edge). ⊎_elim (as_whole e) (as_other e) (cases_Bool (same_ends e (a, c))) };
  }
    where
      as_whole : (e : Edge) → same_ends e (a, c) ≡ true → Counted e
      as_whole e x = ⊎_elim (λ (q : e ≡ (a, c)). subst Counted (sym q) counted_forward) (λ (q : e ≡ (c, a)). subst Counted (sym q) counted_back) ((decides_ends e (a, c)).0 x)

      as_other : (e : Edge) → same_ends e (a, c) ≡ false → Counted e
      as_other e x =
          ⊎_elim (counted_other e x)
          (λ (f : occurs e rest ≡ false).
          none_counted e Whole (λ i. x i || f i)
          ∙ sym (λ i. cond ((x i || f i) && (filled Positive (left_winding Whole e) && not (filled Positive (right_winding Whole e)))) 1 0))
          (cases_Bool (occurs e rest))
