-- Lemmas over points and lists: the segments have the winding of the given edges at every point in the box of no bent edge.
use Rattle.std.proofs.Common.{◌≡◌, ⊎_elim, Bool, true, false, cond, not, List, [], ◌∷◌, ◌++◌, refl, sym, ◌∙◌, ap, subst, arith}
use Rattle.std.specs.Prelude.{ℤ, pos, ◌+ℤ◌, ◌-ℤ◌, ◌*ℤ◌, ◌≤ℤ◌, ◌<ℤ◌}
use Rattle.std.specs.Ordering.{int_eq}
use Rattle.std.specs.List.{list_any}
use Rattle.std.proofs.lemmas.Int.{ints, by_lt_z}
use Rattle.std.proofs.lemmas.Bool.{cases_Bool, or_parts, or_right}
use Rattle.std.proofs.lemmas.Bool.Decides.{Decides-int_eq}
use Rattle.mesh_plane.specs.Plane.{Point, Edge, turn}
use Rattle.mesh_plane.specs.Winding.{crossing}
use Rattle.mesh_plane.proofs.Whole.{linear, mul_pos, mul_nonneg, mul_pos_neg, mul_nonneg_nonpos, mul_neg_pos, mul_nonpos, mul_nonpos_nonneg, pos_of_mul, neg_of_mul, nonpos_of_mul, nonneg_of_mul, mul_le_mul_left, factor, both_le}
use Rattle.mesh_plane.proofs.Ring.{ring, var, lit, ◌⊖◌, ◌⊗◌}
use Rattle.mesh_plane.proofs.Crossings.{crossing_low, crossing_high, turn_flip}
use Rattle.mesh_plane.proofs.Sums.{total_append}
use Rattle.mesh_lattice.specs.Split.{same_ends, occurs, IsInBox, IsBetween, EdgeSplit, split_by, after, path}
use Rattle.mesh_regions.specs.Regions.{is_bent}
use Rattle.mesh_plane.proofs.PointExprs.{point_var, coordinates, turned, scaled_point_expr}
use Rattle.mesh_regions.proofs.SidesPotential.{above, crosses_west, crosses_east}
use Rattle.mesh_plane.proofs.Grids.{scale, winds}
use Rattle.mesh_lattice.proofs.Keys.{occurs_head}
use Rattle.mesh_lattice.proofs.KeptBySplits.{Boxed, after_append, box_trans, cut_box, after_none}
use Rattle.mesh_lattice.proofs.Boxes.{turn_start, turn_end, start_box, end_box}
use Rattle.mesh_lattice.proofs.Beside.{turn_between}
use Rattle.std.proofs.lemmas.Bool.{not-false}

-- the crossings of edges between points with `P` are differences of a number of the point
pub record Level (m : ℤ) (q : Point) (P : Point → Type 0) : Type 0 where
  pub value : Point → ℤ
  pub is : (v w : Point) → P v → P w → crossing q (scale m v) (scale m w) ≡ value w -ℤ value v

-- ---- on one line

line_identity : (m : ℤ) (p r v w q : Point) →
    (r.1 -ℤ p.1) *ℤ turn (scale m v) (scale m w) q
    ≡ (((m *ℤ w.1) -ℤ (m *ℤ v.1)) *ℤ ((((r.0 -ℤ p.0) *ℤ (q.1 -ℤ (m *ℤ p.1))) -ℤ ((r.1 -ℤ p.1) *ℤ (q.0 -ℤ (m *ℤ p.0)))) -ℤ (m *ℤ turn p r v)))
    -ℤ ((m *ℤ (turn p r w -ℤ turn p r v)) *ℤ (q.1 -ℤ (m *ℤ v.1)))
line_identity m p r v w q =
    ring (coordinates (p ∷ r ∷ v ∷ w ∷ q ∷ []) (m ∷ []))
    ((var 3 ⊖ var 1) ⊗ turned (scaled_point_expr (var 10) (point_var 2)) (scaled_point_expr (var 10) (point_var 3)) (point_var 4))
    ((((var 10 ⊗ var 7) ⊖ (var 10 ⊗ var 5)) ⊗ ((((var 2 ⊖ var 0) ⊗ (var 9 ⊖ (var 10 ⊗ var 1))) ⊖ ((var 3 ⊖ var 1) ⊗ (var 8 ⊖ (var 10 ⊗ var 0)))) ⊖ (var 10 ⊗ turned (point_var 0) (point_var 1) (point_var 2))))
    ⊖ ((var 10 ⊗ (turned (point_var 0) (point_var 1) (point_var 3) ⊖ turned (point_var 0) (point_var 1) (point_var 2))) ⊗ (var 9 ⊖ (var 10 ⊗ var 5))))
    refl

abbrev OnLine : Point → Point → Point → Type 0
OnLine p r v = turn p r v ≡ pos 0

line_turns : (m : ℤ) (p r v w q : Point) → OnLine p r v → OnLine p r w →
    (r.1 -ℤ p.1) *ℤ turn (scale m v) (scale m w) q
    ≡ ((m *ℤ w.1) -ℤ (m *ℤ v.1)) *ℤ (((r.0 -ℤ p.0) *ℤ (q.1 -ℤ (m *ℤ p.1))) -ℤ ((r.1 -ℤ p.1) *ℤ (q.0 -ℤ (m *ℤ p.0))))
line_turns m p r v w q hv hw =
    line_identity m p r v w q
    ∙ ((λ i. (((m *ℤ w.1) -ℤ (m *ℤ v.1)) *ℤ ((((r.0 -ℤ p.0) *ℤ (q.1 -ℤ (m *ℤ p.1))) -ℤ ((r.1 -ℤ p.1) *ℤ (q.0 -ℤ (m *ℤ p.0)))) -ℤ (m *ℤ hv i)))
    -ℤ ((m *ℤ (hw i -ℤ hv i)) *ℤ (q.1 -ℤ (m *ℤ v.1))))
    ∙ ring (m ∷ ((m *ℤ w.1) -ℤ (m *ℤ v.1)) ∷ (((r.0 -ℤ p.0) *ℤ (q.1 -ℤ (m *ℤ p.1))) -ℤ ((r.1 -ℤ p.1) *ℤ (q.0 -ℤ (m *ℤ p.0)))) ∷ (q.1 -ℤ (m *ℤ v.1)) ∷ [])
    ((var 1 ⊗ (var 2 ⊖ (var 0 ⊗ lit (pos 0)))) ⊖ ((var 0 ⊗ (lit (pos 0) ⊖ lit (pos 0))) ⊗ var 3)) (var 1 ⊗ var 2) refl)

-- the line rises
rising_level : (m : ℤ) (p r q : Point) → p.1 <ℤ r.1 → Level m q (OnLine p r)
rising_level m p r q up =
    by_lt_z (pos 0) (((r.0 -ℤ p.0) *ℤ (q.1 -ℤ (m *ℤ p.1))) -ℤ ((r.1 -ℤ p.1) *ℤ (q.0 -ℤ (m *ℤ p.0))))
    (λ (west : pos 0 <ℤ (((r.0 -ℤ p.0) *ℤ (q.1 -ℤ (m *ℤ p.1))) -ℤ ((r.1 -ℤ p.1) *ℤ (q.0 -ℤ (m *ℤ p.0))))). record {
      value = λ (v : Point). above q.1 (m *ℤ v.1);
      is = λ (v w : Point) (hv : OnLine p r v) (hw : OnLine p r w).
          crosses_west (m *ℤ v.1) (m *ℤ w.1) q.1 (turn (scale m v) (scale m w) q)
          (λ (low : (m *ℤ v.1) ≤ℤ q.1) (high : q.1 <ℤ (m *ℤ w.1)).
          pos_of_mul (r.1 -ℤ p.1) (turn (scale m v) (scale m w) q) (omega (arith, linear))
          (subst (λ (z : ℤ). pos 0 <ℤ z) (sym (line_turns m p r v w q hv hw)) (mul_pos ((m *ℤ w.1) -ℤ (m *ℤ v.1)) (line p r q) (omega (arith, linear)) west)))
          (λ (low : (m *ℤ w.1) ≤ℤ q.1) (high : q.1 <ℤ (m *ℤ v.1)).
          neg_of_mul (r.1 -ℤ p.1) (turn (scale m v) (scale m w) q) (omega (arith, linear))
          (subst (λ (z : ℤ). z <ℤ pos 0) (sym (line_turns m p r v w q hv hw)) (mul_neg_pos ((m *ℤ w.1) -ℤ (m *ℤ v.1)) (line p r q) (omega (arith, linear)) west)));
    })
    (λ (east : (((r.0 -ℤ p.0) *ℤ (q.1 -ℤ (m *ℤ p.1))) -ℤ ((r.1 -ℤ p.1) *ℤ (q.0 -ℤ (m *ℤ p.0)))) ≤ℤ pos 0). record {
      value = λ (v : Point). pos 0;
      is = λ (v w : Point) (hv : OnLine p r v) (hw : OnLine p r w).
          crosses_east (m *ℤ v.1) (m *ℤ w.1) q.1 (turn (scale m v) (scale m w) q)
          (λ (low : (m *ℤ v.1) ≤ℤ q.1) (high : q.1 <ℤ (m *ℤ w.1)).
          nonpos_of_mul (r.1 -ℤ p.1) (turn (scale m v) (scale m w) q) (omega (arith, linear))
          (subst (λ (z : ℤ). z ≤ℤ pos 0) (sym (line_turns m p r v w q hv hw)) (mul_nonneg_nonpos ((m *ℤ w.1) -ℤ (m *ℤ v.1)) (line p r q) (omega (arith, linear)) east)))
          (λ (low : (m *ℤ w.1) ≤ℤ q.1) (high : q.1 <ℤ (m *ℤ v.1)).
          nonneg_of_mul (r.1 -ℤ p.1) (turn (scale m v) (scale m w) q) (omega (arith, linear))
          (subst (λ (z : ℤ). pos 0 ≤ℤ z) (sym (line_turns m p r v w q hv hw)) (mul_nonpos ((m *ℤ w.1) -ℤ (m *ℤ v.1)) (line p r q) (omega (arith, linear)) east)));
    })
  where
    line : Point → Point → Point → ℤ
    line p r q = ((r.0 -ℤ p.0) *ℤ (q.1 -ℤ (m *ℤ p.1))) -ℤ ((r.1 -ℤ p.1) *ℤ (q.0 -ℤ (m *ℤ p.0)))

-- the line is level
flat_level : (m : ℤ) (p r q : Point) → (p ≡ r → ⊥) → p.1 ≡ r.1 → Level m q (OnLine p r)
flat_level m p r q differ flat = record {
  value = λ (v : Point). pos 0;
  is = λ (v w : Point) (hv : OnLine p r v) (hw : OnLine p r w).
      (let same : m *ℤ v.1 ≡ m *ℤ w.1 = ap (λ (z : ℤ). m *ℤ z) (height v hv ∙ sym (height w hw)) in
      by_lt_z q.1 (m *ℤ v.1)
      (λ (h : q.1 <ℤ (m *ℤ v.1)). crossing_high (m *ℤ v.1) (m *ℤ w.1) q.1 (turn (scale m v) (scale m w) q) h (omega (arith, linear)))
      (λ (h : (m *ℤ v.1) ≤ℤ q.1). crossing_low (m *ℤ v.1) (m *ℤ w.1) q.1 (turn (scale m v) (scale m w) q) h (omega (arith, linear))));
}
  where
    flat_turn : (v : Point) → turn p (r.0, p.1) v ≡ (r.0 -ℤ p.0) *ℤ (v.1 -ℤ p.1)
    flat_turn v = ring (coordinates (p ∷ r ∷ v ∷ []) []) (turned (point_var 0) (var 2, var 1) (point_var 2)) ((var 2 ⊖ var 0) ⊗ (var 5 ⊖ var 1)) refl

    height : (v : Point) → OnLine p r v → v.1 ≡ p.1
    height v hv =
        ⊎_elim
        (λ (h : r.0 -ℤ p.0 ≡ pos 0). let x : p.0 ≡ r.0 = omega (arith, ints) in absurd (differ (λ i. (x i, flat i))))
        (λ (h : v.1 -ℤ p.1 ≡ pos 0). omega (arith, ints))
        (factor (r.0 -ℤ p.0) (v.1 -ℤ p.1) (sym (flat_turn v) ∙ (ap (λ (z : ℤ). turn p (r.0, z) v) flat ∙ hv)))

level_back : (m : ℤ) (p r q : Point) → Level m q (OnLine r p) → Level m q (OnLine p r)
level_back m p r q l = record {
  value = l.value;
  is = λ (v w : Point) (hv : OnLine p r v) (hw : OnLine p r w). l.is v w (omega (arith, linear, turn_flip p r v)) (omega (arith, linear, turn_flip p r w));
}

-- crossings between points of one line
pub line_level : (m : ℤ) (p r q : Point) → (p ≡ r → ⊥) → Level m q (OnLine p r)
line_level m p r q differ =
    by_lt_z p.1 r.1
    (λ (h : p.1 <ℤ r.1). rising_level m p r q h)
    (λ (h : r.1 ≤ℤ p.1).
    by_lt_z r.1 p.1
    (λ (k : r.1 <ℤ p.1). level_back m p r q (rising_level m r p q k))
    (λ (k : p.1 ≤ℤ r.1). flat_level m p r q differ (both_le p.1 r.1 k h)))

-- ---- in a box that the point lies outside of

pub data Side (a z b : ℤ) : Type 0 where
  within : IsBetween a z b → Side a z b
  under : z <ℤ a → z <ℤ b → Side a z b
  past : a <ℤ z → b <ℤ z → Side a z b

weaker : (a b : ℤ) → a <ℤ b → a ≤ℤ b
weaker a b h = omega (arith, ints)

side_of : (a z b : ℤ) → Side a z b
side_of a z b =
    by_lt_z z a
    (λ (x : z <ℤ a).
    by_lt_z z b
    (λ (y : z <ℤ b). under x y)
    (λ (y : b ≤ℤ z). within (record { up = λ (h : a ≤ℤ b). absurd (no_up a z b x y h); down = λ (h : b ≤ℤ a). (y, weaker z a x) })))
    (λ (x : a ≤ℤ z).
    by_lt_z b z
    (λ (y : b <ℤ z).
    by_lt_z a z
    (λ (w : a <ℤ z). past w y)
    (λ (w : z ≤ℤ a). within (record { up = λ (h : a ≤ℤ b). absurd (no_up' a z b w y h); down = λ (h : b ≤ℤ a). (weaker b z y, w) })))
    (λ (y : z ≤ℤ b). within (record { up = λ (h : a ≤ℤ b). (x, y); down = λ (h : b ≤ℤ a). (turn_le a z b x y h, turn_le' a z b x y h) })))
  where
    no_up : (a z b : ℤ) → z <ℤ a → b ≤ℤ z → a ≤ℤ b → ⊥
    no_up a z b x y h = omega (arith, ints)

    no_up' : (a z b : ℤ) → z ≤ℤ a → b <ℤ z → a ≤ℤ b → ⊥
    no_up' a z b x y h = omega (arith, ints)

    turn_le : (a z b : ℤ) → a ≤ℤ z → z ≤ℤ b → b ≤ℤ a → b ≤ℤ z
    turn_le a z b x y h = omega (arith, ints)

    turn_le' : (a z b : ℤ) → a ≤ℤ z → z ≤ℤ b → b ≤ℤ a → z ≤ℤ a
    turn_le' a z b x y h = omega (arith, ints)

-- what lies between two numbers, multiplied, lies where both do
scaled_under : (m a v b z : ℤ) → pos 0 <ℤ m → IsBetween a v b → z <ℤ (m *ℤ a) → z <ℤ (m *ℤ b) → z <ℤ (m *ℤ v)
scaled_under m a v b z some h x y =
    by_lt_z b a
    (λ (k : b <ℤ a). let l : (m *ℤ b) ≤ℤ (m *ℤ v) = mul_le_mul_left m b v (omega (arith, linear)) (h.down (omega (arith, linear))).0 in omega (arith, linear))
    (λ (k : a ≤ℤ b). let l : (m *ℤ a) ≤ℤ (m *ℤ v) = mul_le_mul_left m a v (omega (arith, linear)) (h.up k).0 in omega (arith, linear))

scaled_past : (m a v b z : ℤ) → pos 0 <ℤ m → IsBetween a v b → (m *ℤ a) <ℤ z → (m *ℤ b) <ℤ z → (m *ℤ v) <ℤ z
scaled_past m a v b z some h x y =
    by_lt_z b a
    (λ (k : b <ℤ a). let l : (m *ℤ v) ≤ℤ (m *ℤ a) = mul_le_mul_left m v a (omega (arith, linear)) (h.down (omega (arith, linear))).1 in omega (arith, linear))
    (λ (k : a ≤ℤ b). let l : (m *ℤ v) ≤ℤ (m *ℤ b) = mul_le_mul_left m v b (omega (arith, linear)) (h.up k).1 in omega (arith, linear))

east_of_point : (v w q : Point) → q.0 <ℤ v.0 → q.0 <ℤ w.0 → crossing q v w ≡ above q.1 w.1 -ℤ above q.1 v.1
east_of_point v w q a b =
    crosses_west v.1 w.1 q.1 (turn v w q)
    (λ (low : v.1 ≤ℤ q.1) (high : q.1 <ℤ w.1).
    omega (arith, linear, turn_between v w q, mul_nonneg (w.0 -ℤ q.0) (q.1 -ℤ v.1) (omega (arith, linear)) (omega (arith, linear)), mul_pos (v.0 -ℤ q.0) (w.1 -ℤ q.1) (omega (arith, linear)) (omega (arith, linear))))
    (λ (low : w.1 ≤ℤ q.1) (high : q.1 <ℤ v.1).
    omega (arith, linear, turn_between v w q, mul_pos_neg (w.0 -ℤ q.0) (q.1 -ℤ v.1) (omega (arith, linear)) (omega (arith, linear)), mul_nonneg_nonpos (v.0 -ℤ q.0) (w.1 -ℤ q.1) (omega (arith, linear)) (omega (arith, linear))))

west_of_point : (v w q : Point) → v.0 <ℤ q.0 → w.0 <ℤ q.0 → crossing q v w ≡ pos 0
west_of_point v w q a b =
    crosses_east v.1 w.1 q.1 (turn v w q)
    (λ (low : v.1 ≤ℤ q.1) (high : q.1 <ℤ w.1).
    omega (arith, linear, turn_between v w q, mul_nonpos_nonneg (w.0 -ℤ q.0) (q.1 -ℤ v.1) (omega (arith, linear)) (omega (arith, linear)), mul_nonpos_nonneg (v.0 -ℤ q.0) (w.1 -ℤ q.1) (omega (arith, linear)) (omega (arith, linear))))
    (λ (low : w.1 ≤ℤ q.1) (high : q.1 <ℤ v.1).
    omega (arith, linear, turn_between v w q, mul_nonpos (w.0 -ℤ q.0) (q.1 -ℤ v.1) (omega (arith, linear)) (omega (arith, linear)), mul_nonpos (v.0 -ℤ q.0) (w.1 -ℤ q.1) (omega (arith, linear)) (omega (arith, linear))))

-- crossings between points of a box that the point lies outside of
pub box_level : (m : ℤ) (e : Edge) (q : Point) → pos 0 <ℤ m → (IsInBox (scale m e.0, scale m e.1) q → ⊥) → Level m q (IsInBox e)
box_level m e q some out = by (side_of (m *ℤ e.0.0) q.0 (m *ℤ e.1.0)) (side_of (m *ℤ e.0.1) q.1 (m *ℤ e.1.1))
  where
    by : Side (m *ℤ e.0.0) q.0 (m *ℤ e.1.0) → Side (m *ℤ e.0.1) q.1 (m *ℤ e.1.1) → Level m q (IsInBox e)
    by x (under a b) = record {
      value = λ (v : Point). pos 0;
      is = λ (v w : Point) (hv : IsInBox e v) (hw : IsInBox e w).
          crossing_high (m *ℤ v.1) (m *ℤ w.1) q.1 (turn (scale m v) (scale m w) q)
          (scaled_under m e.0.1 v.1 e.1.1 q.1 some hv.by_y a b) (scaled_under m e.0.1 w.1 e.1.1 q.1 some hw.by_y a b);
    }
    by x (past a b) = record {
      value = λ (v : Point). pos 0;
      is = λ (v w : Point) (hv : IsInBox e v) (hw : IsInBox e w).
          crossing_low (m *ℤ v.1) (m *ℤ w.1) q.1 (turn (scale m v) (scale m w) q)
          (weaker (m *ℤ v.1) q.1 (scaled_past m e.0.1 v.1 e.1.1 q.1 some hv.by_y a b)) (weaker (m *ℤ w.1) q.1 (scaled_past m e.0.1 w.1 e.1.1 q.1 some hw.by_y a b));
    }
    by (under a b) (within y) = record {
      value = λ (v : Point). above q.1 (m *ℤ v.1);
      is = λ (v w : Point) (hv : IsInBox e v) (hw : IsInBox e w).
          east_of_point (scale m v) (scale m w) q (scaled_under m e.0.0 v.0 e.1.0 q.0 some hv.by_x a b) (scaled_under m e.0.0 w.0 e.1.0 q.0 some hw.by_x a b);
    }
    by (past a b) (within y) = record {
      value = λ (v : Point). pos 0;
      is = λ (v w : Point) (hv : IsInBox e v) (hw : IsInBox e w).
          west_of_point (scale m v) (scale m w) q (scaled_past m e.0.0 v.0 e.1.0 q.0 some hv.by_x a b) (scaled_past m e.0.0 w.0 e.1.0 q.0 some hw.by_x a b);
    }
    by (within x) (within y) = absurd (out (record { by_x = x; by_y = y }))

-- ---- chains of edges

-- edges that lead from one point to another, each ending at a point with `P`
abbrev pub Chain : (Point → Type 0) → Point → List Edge → Point → Type 0
Chain P p [] r = p ≡ r
Chain P p (e ∷ es) r = (p ≡ e.0) × (P e.1 × Chain P e.1 es r)

chain_total : (m : ℤ) (q : Point) (P : Point → Type 0) → (l : Level m q P) → (p r : Point) (es : List Edge) → P p → Chain P p es r →
    winds m q es ≡ l.value r -ℤ l.value p
chain_total m q P l p r [] hp h = zero_of (l.value p) (l.value r) (ap l.value h)
  where
    zero_of : (a b : ℤ) → a ≡ b → pos 0 ≡ b -ℤ a
    zero_of a b e = omega (arith, ints)
chain_total m q P l p r (e ∷ es) hp h =
    let first : P e.0 = subst P h.0 hp in
    let same : l.value p ≡ l.value e.0 = ap l.value h.0 in
    omega (arith, linear, l.is e.0 e.1 first h.1.0, chain_total m q P l e.1 r es h.1.0 h.1.1, same)

-- a chain between points of a level has the winding of the edge from end to end
pub chain_winds : (m : ℤ) (q : Point) (P : Point → Type 0) → Level m q P → (p r : Point) (es : List Edge) → P p → P r → Chain P p es r →
    winds m q es ≡ crossing q (scale m p) (scale m r)
chain_winds m q P l p r es hp hr h = chain_total m q P l p r es hp h ∙ sym (l.is p r hp hr)

-- ---- splits

cut_chain : (k : EdgeSplit) (e : Edge) → IsInBox k.ends k.at → (p r : Point) (es : List Edge) → IsInBox e p → Chain (IsInBox e) p es r → Chain (IsInBox e) p (split_by k es) r
cut_chain k e box p r [] hp h = h
cut_chain k e box p r (f ∷ es) hp h =
    by (same_ends f k.ends) refl (cut_chain k e box f.1 r es h.1.0 h.1.1)
  where
    by : (b : Bool) → same_ends f k.ends ≡ b → Chain (IsInBox e) f.1 (split_by k es) r →
        Chain (IsInBox e) p (cond b ((f.0, k.at) ∷ (k.at, f.1) ∷ []) (f ∷ []) ++ split_by k es) r
    by true t rest =
        let start : IsInBox e f.0 = subst (λ (z : Point). IsInBox e z) h.0 hp in
        (h.0, (box_trans e f k.at start h.1.0 (cut_box k f box t), (refl, (h.1.0, rest))))
    by false t rest = (h.0, (h.1.0, rest))

-- the path of an edge stays in the edge's box
pub path_chain : (ks : List EdgeSplit) (e : Edge) → Boxed ks → Chain (IsInBox e) e.0 (path ks e) e.1
path_chain [] e boxed = (refl, (end_box e, refl))
path_chain (k ∷ ks) e boxed = cut_chain k e boxed.0 e.0 e.1 (path ks e) (start_box e) (path_chain ks e boxed.1)

-- a chain all of whose points lie on a line
straight_chain : (e : Edge) (p r : Point) (es : List Edge) → Chain (IsInBox e) p es r →
    list_any (λ (f : Edge). not (int_eq (turn e.0 e.1 f.1) (pos 0))) es ≡ false → Chain (OnLine e.0 e.1) p es r
straight_chain e p r [] h n = h
straight_chain e p r (f ∷ es) h n =
    let parts = or_parts (not (int_eq (turn e.0 e.1 f.1) (pos 0))) (list_any (λ (f : Edge). not (int_eq (turn e.0 e.1 f.1) (pos 0))) es) n in
    (h.0, ((Decides-int_eq (turn e.0 e.1 f.1) (pos 0)).0 (not-false (int_eq (turn e.0 e.1 f.1) (pos 0)) parts.0), straight_chain e f.1 r es h.1.1 parts.1))

-- the path of an edge has the edge's crossing where it is straight, and at points outside its box
pub path_winds : (ks : List EdgeSplit) (e : Edge) (m : ℤ) (q : Point) → Boxed ks → pos 0 <ℤ m → (e.0 ≡ e.1 → ⊥) →
    (is_bent ks e ≡ true → IsInBox (scale m e.0, scale m e.1) q → ⊥) → winds m q (path ks e) ≡ crossing q (scale m e.0) (scale m e.1)
path_winds ks e m q boxed some differ out =
    ⊎_elim
    (λ (t : is_bent ks e ≡ true).
    chain_winds m q (IsInBox e) (box_level m e q some (out t)) e.0 e.1 (path ks e) (start_box e) (end_box e) (path_chain ks e boxed))
    (λ (f : is_bent ks e ≡ false).
    chain_winds m q (OnLine e.0 e.1) (line_level m e.0 e.1 q differ) e.0 e.1 (path ks e) (turn_start e.0 e.1) (turn_end e.0 e.1) (straight_chain e e.0 e.1 (path ks e) (path_chain ks e boxed) f))
    (cases_Bool (is_bent ks e))

-- the segments have the winding of the given edges at every point in the box of no bent edge
pub after_winds : (ks : List EdgeSplit) (es : List Edge) (m : ℤ) (q : Point) → Boxed ks → pos 0 <ℤ m →
    ((e : Edge) → occurs e es ≡ true → e.0 ≡ e.1 → ⊥) →
    ((e : Edge) → occurs e es ≡ true → is_bent ks e ≡ true → IsInBox (scale m e.0, scale m e.1) q → ⊥) →
    winds m q (after ks es) ≡ winds m q es
after_winds ks [] m q boxed some differ out = nothing ks
  where
    nothing : (ks : List EdgeSplit) → winds m q (after ks []) ≡ pos 0
    nothing [] = refl
    nothing (k ∷ ks) = ap (λ (l : List Edge). winds m q (split_by k l)) (after_none ks)
after_winds ks (e ∷ es) m q boxed some differ out =
    ap (λ (l : List Edge). winds m q l) (after_append ks (e ∷ []) es)
    ∙ (total_append (λ (p r : Point). crossing q (scale m p) (scale m r)) (path ks e) (after ks es)
    ∙ (let first = path_winds ks e m q boxed some (differ e (occurs_head e es)) (out e (occurs_head e es)) in
    let rest = after_winds ks es m q boxed some (λ (d : Edge) (o : occurs d es ≡ true). differ d (or_right (same_ends d e) (occurs d es) o))
    (λ (d : Edge) (o : occurs d es ≡ true). out d (or_right (same_ends d e) (occurs d es) o)) in
    λ i. first i +ℤ rest i))
