-- Lemmas over points and lists: rows along a slanted direction.
use Rattle.std.proofs.Common.{◌≡◌, ℕ, ◌<◌, ◌≤◌, ◌^◌, ◌-◌, ◌/◌, ◌⊎◌, inl, inr, Bool, true, false, cond, ◌&&◌, List, [], ◌∷◌, min, map, get_or, refl, ◌∙◌, ap, arith}
use Rattle.std.specs.Prelude.{ℤ, pos, negsuc, neg_ℤ, ◌+ℤ◌, ◌-ℤ◌, ◌*ℤ◌, ◌≤ℤ◌, ◌<ℤ◌, int_le, int_lt, unsigned_abs, Vec}
use Rattle.std.specs.declared.alloc.Global.{Global}
use Rattle.std.specs.List.{filter}
use Rattle.std.proofs.Math.Bool.{and-true, and-false}
use Rattle.std.proofs.lemmas.Int.{ints}
use Rattle.mesh_plane.specs.Plane.{Point, Edge, cross, turn}
use Rattle.mesh_plane.specs.Winding.{sum_of, total, crossing, refined, winding, IsBalanced}
use Rattle.mesh_plane.proofs.Whole.{linear, multiplied, mul_nonpos, mul_nonpos_nonneg, mul_pos, mul_pos_neg, pos_of_mul, times_zero}
use Rattle.mesh_plane.proofs.Crossings.{crossing_low, crossing_high, crossing_up, crossing_down, turn_flip}
use Rattle.mesh_plane.proofs.Comparing.{at_most_test, test_less, test_not_less, test_at_most, test_above}
use Rattle.mesh_plane.proofs.Balance.{growth, growth_of_balanced}
use Rattle.mesh_plane.proofs.Sizes.{div_monotone}
use Rattle.mesh_lattice.specs.declared.places.Mark.{Mark}
use Rattle.mesh_lattice.specs.Counted.{Counted, bit, size, IsCountOf}
use Rattle.mesh_lattice.specs.Marks.{place}
use Rattle.mesh_lattice.specs.Clean.{IsProper}
use Rattle.mesh_lattice.specs.Split.{back}
use Rattle.mesh_lattice.proofs.SidesBack.{crossing_back}
use Rattle.mesh_boundary.specs.Private.CountedSides.{counted_winding}
use Rattle.mesh_lattice.specs.Rows.{reaches_row, AreRows}
use Rattle.mesh_boundary.specs.Private.Slants.{is_between, slanted_crossing, slanted_winding, level_of, leveled}
use Rattle.mesh_boundary.proofs.BoundaryCounted.{counted_sum, counted_at}
use Rattle.mesh_lattice.proofs.RowLists.{off_height, row_is}
use Rattle.mesh_boundary.proofs.RowSums.{filtered_sum}
use Rattle.mesh_boundary.proofs.SidesCode.{size_least}

above_test : (a b : ℤ) → b <ℤ a → int_le a b ≡ false
above_test a b h = by (int_le a b) refl
  where
    by : (t : Bool) → int_le a b ≡ t → t ≡ false
    by true e = absurd (omega (arith, ints, test_at_most a b e))
    by false e = refl

-- ---- one segment

-- the turn of a point from an edge, times the height of a direction, by heights above the point and by sides of the
-- line along the direction
turn_across : (d p r q : Point) →
    d.1 *ℤ turn p r q ≡ (p.1 -ℤ q.1) *ℤ (cross d r -ℤ cross d q) -ℤ (r.1 -ℤ q.1) *ℤ (cross d p -ℤ cross d q)
turn_across d p r q = simp multiplied (omega (arith, linear))

-- an edge that rises past the height of a point, with both ends to the right of the line, has the point on its left;
-- one that falls past it has it on its right
rises_right : (d q p r : Point) → pos 0 <ℤ d.1 → cross d p <ℤ cross d q → cross d r <ℤ cross d q → p.1 ≤ℤ q.1 → q.1 <ℤ r.1 → pos 0 <ℤ turn p r q
rises_right d q p r up a b h k =
    pos_of_mul d.1 (turn p r q) (omega (arith, ints)) (
    omega (
      arith,
      linear,
      turn_across d p r q,
      mul_nonpos (p.1 -ℤ q.1) (cross d r -ℤ cross d q) (omega (arith, ints)) (omega (arith, ints)),
      mul_pos_neg (r.1 -ℤ q.1) (cross d p -ℤ cross d q) (omega (arith, ints)) (omega (arith, ints)),
    )
    )

-- with both ends to its left it is the other way about
rises_left : (d q p r : Point) → pos 0 <ℤ d.1 → cross d q <ℤ cross d p → cross d q <ℤ cross d r → p.1 ≤ℤ q.1 → q.1 <ℤ r.1 → pos 0 <ℤ turn r p q
rises_left d q p r up a b h k =
    pos_of_mul d.1 (turn r p q) (omega (arith, ints)) (
    omega (
      arith,
      linear,
      turn_across d r p q,
      mul_nonpos_nonneg (p.1 -ℤ q.1) (cross d r -ℤ cross d q) (omega (arith, ints)) (omega (arith, ints)),
      mul_pos (r.1 -ℤ q.1) (cross d p -ℤ cross d q) (omega (arith, ints)) (omega (arith, ints)),
    )
    )

pub crossing_right : (d q p r : Point) → pos 0 <ℤ d.1 → cross d p <ℤ cross d q → cross d r <ℤ cross d q →
    crossing q p r ≡ bit (int_lt q.1 r.1) -ℤ bit (int_lt q.1 p.1)
crossing_right d q p r up a b = by (int_lt q.1 p.1) (int_lt q.1 r.1) refl refl
  where
    rising : ((crossing q p r ≡ pos 1) × (pos 0 <ℤ turn p r q)) ⊎ ((crossing q p r ≡ pos 0) × (turn p r q ≤ℤ pos 0)) → pos 0 <ℤ turn p r q → crossing q p r ≡ pos 1
    rising (inl e) h = e.0
    rising (inr e) h = absurd (omega (arith, ints, e.1))

    falling : ((crossing q p r ≡ negsuc 0) × (turn p r q <ℤ pos 0)) ⊎ ((crossing q p r ≡ pos 0) × (pos 0 ≤ℤ turn p r q)) → pos 0 <ℤ turn r p q → crossing q p r ≡ negsuc 0
    falling (inl e) h = e.0
    falling (inr e) h = absurd (omega (arith, linear, e.1, turn_flip p r q))

    by : (u v : Bool) → int_lt q.1 p.1 ≡ u → int_lt q.1 r.1 ≡ v → crossing q p r ≡ bit v -ℤ bit u
    by true true e f = crossing_high p.1 r.1 q.1 (turn p r q) (test_less q.1 p.1 e) (test_less q.1 r.1 f)
    by false false e f = crossing_low p.1 r.1 q.1 (turn p r q) (test_not_less q.1 p.1 e) (test_not_less q.1 r.1 f)
    by false true e f =
        let low = test_not_less q.1 p.1 e in
        let high = test_less q.1 r.1 f in
        rising (crossing_up p.1 r.1 q.1 (turn p r q) low high) (rises_right d q p r up a b low high)
    by true false e f =
        let high = test_less q.1 p.1 e in
        let low = test_not_less q.1 r.1 f in
        falling (crossing_down p.1 r.1 q.1 (turn p r q) high low) (rises_right d q r p up b a low high)

pub crossing_left : (d q p r : Point) → pos 0 <ℤ d.1 → cross d q <ℤ cross d p → cross d q <ℤ cross d r → crossing q p r ≡ pos 0
crossing_left d q p r up a b = by (int_lt q.1 p.1) (int_lt q.1 r.1) refl refl
  where
    rising : ((crossing q p r ≡ pos 1) × (pos 0 <ℤ turn p r q)) ⊎ ((crossing q p r ≡ pos 0) × (turn p r q ≤ℤ pos 0)) → pos 0 <ℤ turn r p q → crossing q p r ≡ pos 0
    rising (inl e) h = absurd (omega (arith, linear, e.1, turn_flip p r q))
    rising (inr e) h = e.0

    falling : ((crossing q p r ≡ negsuc 0) × (turn p r q <ℤ pos 0)) ⊎ ((crossing q p r ≡ pos 0) × (pos 0 ≤ℤ turn p r q)) → pos 0 <ℤ turn p r q → crossing q p r ≡ pos 0
    falling (inl e) h = absurd (omega (arith, ints, e.1))
    falling (inr e) h = e.0

    by : (u v : Bool) → int_lt q.1 p.1 ≡ u → int_lt q.1 r.1 ≡ v → crossing q p r ≡ pos 0
    by true true e f = crossing_high p.1 r.1 q.1 (turn p r q) (test_less q.1 p.1 e) (test_less q.1 r.1 f)
    by false false e f = crossing_low p.1 r.1 q.1 (turn p r q) (test_not_less q.1 p.1 e) (test_not_less q.1 r.1 f)
    by false true e f =
        let low = test_not_less q.1 p.1 e in
        let high = test_less q.1 r.1 f in
        rising (crossing_up p.1 r.1 q.1 (turn p r q) low high) (rises_left d q p r up a b low high)
    by true false e f =
        let high = test_less q.1 p.1 e in
        let low = test_not_less q.1 r.1 f in
        falling (crossing_down p.1 r.1 q.1 (turn p r q) high low) (rises_left d q r p up b a low high)

-- what keeps to one side of the line is not counted
pub beside_line : (d q : Point) (e : Edge) → pos 0 <ℤ d.1
    → ((cross d q <ℤ cross d (refined 2 e.0)) × (cross d q <ℤ cross d (refined 2 e.1))) ⊎ ((cross d (refined 2 e.0) <ℤ cross d q) × (cross d (refined 2 e.1) <ℤ cross d q))
    → slanted_crossing d q e ≡ pos 0
beside_line d q e up (inl h) =
    let p = refined 2 e.0 in
    let r = refined 2 e.1 in
    omega (
      arith,
      linear,
      crossing_left d q p r up h.0 h.1,
      ap bit (left_none d q p h.0),
      ap bit (left_none d q r h.1),
    )
  where
    left_none : (d q p : Point) → cross d q <ℤ cross d p → is_between d q p ≡ false
    left_none d q p k = ap (λ (b : Bool). int_lt q.1 p.1 && b) (above_test (cross d p) (cross d q) k) ∙ and-false (int_lt q.1 p.1)
beside_line d q e up (inr h) =
    let p = refined 2 e.0 in
    let r = refined 2 e.1 in
    omega (
      arith,
      linear,
      crossing_right d q p r up h.0 h.1,
      ap bit (right_all d q p h.0),
      ap bit (right_all d q r h.1),
    )
  where
    right_all : (d q p : Point) → cross d p <ℤ cross d q → is_between d q p ≡ int_lt q.1 p.1
    right_all d q p k = ap (λ (b : Bool). int_lt q.1 p.1 && b) (at_most_test (cross d p) (cross d q) (omega (arith, ints))) ∙ and-true (int_lt q.1 p.1)

-- ---- levels

least_rises : (a b k : ℕ) → a ≤ b → min a k ≤ min b k
least_rises a b k h = omega arith

-- a number of lesser level is less
pub lesser_level : (base : ℤ) (step : ℕ) (y z : ℤ) → 0 < step → level_of base step y <ℤ level_of base step z → y <ℤ z
lesser_level base step y z some h = by (int_le z y) refl
  where
    size : (b w : ℤ) → int_le w b ≡ false → pos (unsigned_abs (w -ℤ b)) ≡ w -ℤ b
    size b w e = omega (arith, ints, test_above w b e)

    levels : (u v : Bool) → int_le y base ≡ u → int_le z base ≡ v → z ≤ℤ y → level_of base step y <ℤ level_of base step z → ⊥
    levels true true e f le low = omega (arith, ints, rw (e, f) at low)
    levels true false e f le low = omega (arith, ints, le, test_at_most y base e, test_above z base f)
    levels false true e f le low = omega (arith, ints, rw (e, f) at low)
    levels false false e f le low =
        let more : unsigned_abs (z -ℤ base) ≤ unsigned_abs (y -ℤ base) = omega (arith, ints, le, size base y e, size base z f) in
        let steps = div_monotone (unsigned_abs (z -ℤ base)) (unsigned_abs (y -ℤ base)) step some more in
        omega (arith, ints, rw (e, f) at low, least_rises (unsigned_abs (z -ℤ base) / step) (unsigned_abs (y -ℤ base) / step) (2 ^ 31 - 1) steps)

    by : (b : Bool) → int_le z y ≡ b → y <ℤ z
    by true e = absurd (levels (int_le y base) (int_le z base) refl refl (test_at_most z y e) h)
    by false e = test_above z y e

-- ---- rows of levels

-- what does not reach the row of a point's level keeps to one side of the line through the point
off_level : (d : Point) (base : ℤ) (step : ℕ) (ms : List Mark) (q : Point) (k : Counted) → pos 0 <ℤ d.1 → 0 < step →
    reaches_row ms (place ms (pos 2 *ℤ level_of base step (cross d q))) (leveled d (level_of base step) k) ≡ false → slanted_crossing d q k.0 ≡ pos 0
off_level d base step ms q k up some off = beside_line d q k.0 up (sides (off_height ms (pos 2 *ℤ level_of base step (cross d q)) (leveled d (level_of base step) k) off))
  where
    halved : (a b : ℤ) → (pos 2 *ℤ a) <ℤ (pos 2 *ℤ b) → a <ℤ b
    halved a b h = omega (arith, ints)

    less : (y z : ℤ) → (pos 2 *ℤ level_of base step y) <ℤ (pos 2 *ℤ level_of base step z) → y <ℤ z
    less y z h = lesser_level base step y z some (halved (level_of base step y) (level_of base step z) h)

    sides : (((pos 2 *ℤ level_of base step (cross d q)) <ℤ (pos 2 *ℤ level_of base step (cross d (refined 2 k.0.0)))) × ((pos 2 *ℤ level_of base step (cross d q)) <ℤ (pos 2 *ℤ level_of base step (cross d (refined 2 k.0.1)))))
        ⊎ (((pos 2 *ℤ level_of base step (cross d (refined 2 k.0.0))) <ℤ (pos 2 *ℤ level_of base step (cross d q))) × ((pos 2 *ℤ level_of base step (cross d (refined 2 k.0.1))) <ℤ (pos 2 *ℤ level_of base step (cross d q))))
        → ((cross d q <ℤ cross d (refined 2 k.0.0)) × (cross d q <ℤ cross d (refined 2 k.0.1))) ⊎ ((cross d (refined 2 k.0.0) <ℤ cross d q) × (cross d (refined 2 k.0.1) <ℤ cross d q))
    sides (inl h) = inl (less (cross d q) (cross d (refined 2 k.0.0)) h.0, less (cross d q) (cross d (refined 2 k.0.1)) h.1)
    sides (inr h) = inr (less (cross d (refined 2 k.0.0)) (cross d q) h.0, less (cross d (refined 2 k.0.1)) (cross d q) h.1)

-- a sum over a list that has been made of another one
sum_mapped : {A B : Type 0} (f : B → ℤ) (g : A → B) (xs : List A) → sum_of f (map g xs) ≡ sum_of (λ (x : A). f (g x)) xs
sum_mapped f g [] = refl
sum_mapped f g (x ∷ xs) = ap (λ (z : ℤ). f (g x) +ℤ z) (sum_mapped f g xs)

-- some listed segments without what is off the row: the sum stays
filtered_slants : (d : Point) (base : ℤ) (step : ℕ) (ms : List Mark) (q : Point) (ks : List Counted) → pos 0 <ℤ d.1 → 0 < step →
    sum_of (λ (e : Edge × Counted). e.1.1 *ℤ slanted_crossing d q e.1.0) (filter (reaches_row ms (place ms (pos 2 *ℤ level_of base step (cross d q)))) (map (leveled d (level_of base step)) ks))
    ≡ slanted_winding d q ks
filtered_slants d base step ms q [] up some = refl
filtered_slants d base step ms q (k ∷ ks) up some =
    by (filtered_slants d base step ms q ks up some) (reaches_row ms (place ms (pos 2 *ℤ level_of base step (cross d q))) (leveled d (level_of base step) k)) refl
  where
    by : sum_of (λ (e : Edge × Counted). e.1.1 *ℤ slanted_crossing d q e.1.0) (filter (reaches_row ms (place ms (pos 2 *ℤ level_of base step (cross d q)))) (map (leveled d (level_of base step)) ks))
        ≡ slanted_winding d q ks → (b : Bool) → reaches_row ms (place ms (pos 2 *ℤ level_of base step (cross d q))) (leveled d (level_of base step) k) ≡ b
        → sum_of (λ (e : Edge × Counted). e.1.1 *ℤ slanted_crossing d q e.1.0)
        (cond b (leveled d (level_of base step) k ∷ filter (reaches_row ms (place ms (pos 2 *ℤ level_of base step (cross d q)))) (map (leveled d (level_of base step)) ks))
        (filter (reaches_row ms (place ms (pos 2 *ℤ level_of base step (cross d q)))) (map (leveled d (level_of base step)) ks)))
        ≡ slanted_winding d q (k ∷ ks)
    by rest true e = ap (λ (z : ℤ). (k.1 *ℤ slanted_crossing d q k.0) +ℤ z) rest
    by rest false e = omega (arith, linear, rest, times_zero k.1 (slanted_crossing d q k.0) (off_level d base step ms q k up some e))

-- the sum over the row of a point is that over all
pub slanted_row : (d : Point) (base : ℤ) (step : ℕ) (ms : List Mark) (lists : List (Vec (Edge × Counted) Global)) (ks : List Counted) (row : List (Edge × Counted)) (q : Point) →
    pos 0 <ℤ d.1 → 0 < step → AreRows ms lists (map (leveled d (level_of base step)) ks)
    → ((v : Vec (Edge × Counted) Global) → row ≡ (get_or lists (place ms (pos 2 *ℤ level_of base step (cross d q))) v).items)
    → sum_of (λ (e : Edge × Counted). e.1.1 *ℤ slanted_crossing d q e.1.0) row ≡ slanted_winding d q ks
slanted_row d base step ms lists ks row q up some rows is =
    ap (sum_of (λ (e : Edge × Counted). e.1.1 *ℤ slanted_crossing d q e.1.0))
    (row_is ms lists (map (leveled d (level_of base step)) ks) row (pos 0, pos 2 *ℤ level_of base step (cross d q)) rows is)
    ∙ filtered_slants d base step ms q ks up some

-- and its sizes are at most those of all
pub slanted_size : (d : Point) (base : ℤ) (step : ℕ) (ms : List Mark) (lists : List (Vec (Edge × Counted) Global)) (ks : List Counted) (row : List (Edge × Counted)) (h : ℤ) →
    AreRows ms lists (map (leveled d (level_of base step)) ks) → ((v : Vec (Edge × Counted) Global) → row ≡ (get_or lists (place ms h) v).items)
    → sum_of (λ (e : Edge × Counted). size e.1) row ≤ℤ sum_of size ks
slanted_size d base step ms lists ks row h rows is =
    omega (
      arith,
      ints,
      ap (sum_of (λ (e : Edge × Counted). size e.1)) (row_is ms lists (map (leveled d (level_of base step)) ks) row (pos 0, h) rows is),
      filtered_sum (λ (e : Edge × Counted). size e.1) (λ e. size_least e.1) (reaches_row ms (place ms h)) (map (leveled d (level_of base step)) ks),
      sum_mapped (λ (e : Edge × Counted). size e.1) (leveled d (level_of base step)) ks,
    )

-- ---- all segments

slanted_back : (d q : Point) (e : Edge) → slanted_crossing d q (back e) ≡ neg_ℤ (slanted_crossing d q e)
slanted_back d q e = omega (arith, linear, crossing_back (pos 2) q e)

-- what is added to crossings adds up to what closed edges gain
slanted_total : (d q : Point) (es : List Edge) →
    sum_of (slanted_crossing d q) es +ℤ total (growth (λ (p : Point). bit (is_between d q (refined 2 p)))) es ≡ winding 2 q es
slanted_total d q [] = refl
slanted_total d q (e ∷ es) = omega (arith, linear, slanted_total d q es)

-- round a point balanced edges wind as often as their segments do by slanted crossings
pub slanted_counts : (es : List Edge) (ks : List Counted) → IsBalanced es → IsProper es → IsCountOf es ks → (d q : Point) → slanted_winding d q ks ≡ counted_winding q ks
slanted_counts es ks balanced proper is d q =
    omega (
      arith,
      linear,
      counted_sum (slanted_crossing d q) (slanted_back d q) es ks proper is,
      slanted_total d q es,
      growth_of_balanced es balanced (λ (p : Point). bit (is_between d q (refined 2 p))),
      counted_at es ks proper is q,
    )
