-- Lemmas over points and lists: what two edges share that are clear of each other.
use Rattle.std.proofs.Common.{◌≡◌, ◌⊎◌, inl, inr, ⊎_elim, ℕ, ◌<◌, true, false, sym, ◌∙◌, ap, refl, arith, [], ◌∷◌}
use Rattle.std.specs.Prelude.{ℤ, pos, ◌+ℤ◌, ◌-ℤ◌, ◌*ℤ◌, ◌≤ℤ◌, ◌<ℤ◌, neg_ℤ}
use Rattle.std.proofs.lemmas.Bool.{both_ways, cases_Bool}
use Rattle.std.proofs.lemmas.Bool.Decides.{Decides-like, same_from_decides}
use Rattle.std.proofs.lemmas.Int.{ints, by_lt_z}
use Rattle.mesh_plane.specs.Plane.{Point, Edge, turn}
use Rattle.mesh_plane.specs.Winding.{same_point, refined}
use Rattle.mesh_plane.proofs.Whole.{linear, mul_neg, mul_nonneg, mul_nonpos_nonneg, mul_pos, mul_pos_neg, nonneg_of_mul, nonpos_of_mul, mul_lt_mul_left, pos_of_mul, neg_of_mul, factor, lt_of_mul_lt_mul, times_zero}
use Rattle.mesh_plane.proofs.Crossings.{turn_flip}
use Rattle.mesh_plane.proofs.Ring.{ring, var, neg, ◌⊕◌, ◌⊖◌, ◌⊗◌}
use Rattle.mesh_lattice.specs.Clean.{IsOn, refined_edge}
use Rattle.mesh_lattice.specs.Split.{back, same_ends, is_end, IsBetween, IsInside, AreOpposite, IsCrossing}
use Rattle.mesh_lattice.proofs.Boxes.{turns_differ}
use Rattle.mesh_lattice.proofs.Ends.{decides_end, decides_ends, ends_turned, ends_sym, end_back}
use Rattle.mesh_plane.proofs.PointExprs.{point_var, coordinates, turned, scaled_point_expr}
use Rattle.mesh_plane.proofs.Comparing.{decides_point}
use Rattle.mesh_plane.proofs.LineTurns.{along_x, along_y}
use Rattle.mesh_lattice.proofs.Boxes.{between_back, on_back}

-- two edges without a point inside one of them that is the other's end, and without a crossing
pub record ShareNoInside (e f : Edge) : Type 0 where
  pub first_start : IsInside f e.0 → ⊥
  pub first_end : IsInside f e.1 → ⊥
  pub second_start : IsInside e f.0 → ⊥
  pub second_end : IsInside e f.1 → ⊥
  pub crossing : IsCrossing e f → ⊥

-- ---- the numbers

-- two numbers of opposite sign, or both 0
abbrev Ratio : ℤ → ℤ → Type 0
Ratio s t = AreOpposite s t ⊎ ((s ≡ pos 0) × (t ≡ pos 0))

ratio_of : (u v s t : ℤ) → pos 0 <ℤ u → pos 0 <ℤ v → (u *ℤ s) +ℤ (v *ℤ t) ≡ pos 0 → Ratio s t
ratio_of u v s t hu hv e =
    by_lt_z s (pos 0)
    (λ (h : s <ℤ pos 0).
    let p : pos 0 <ℤ (v *ℤ t) = omega (arith, linear, mul_pos_neg u s hu h) in
    inl (inr (h, pos_of_mul v t (omega (arith, linear)) p)))
    (λ (h : pos 0 ≤ℤ s).
    by_lt_z (pos 0) s
    (λ (k : pos 0 <ℤ s).
    let p : (v *ℤ t) <ℤ pos 0 = omega (arith, linear, mul_pos u s hu k) in
    inl (inl (k, neg_of_mul v t (omega (arith, linear)) p)))
    (λ (k : s ≤ℤ pos 0).
    let z : s ≡ pos 0 = omega (arith, linear) in
    let m : u *ℤ s ≡ pos 0 = rw z (omega (arith, ints)) in
    inr (z, ⊎_elim (λ (w : v ≡ pos 0). absurd (omega (arith, linear))) (λ (w : t ≡ pos 0). w) (factor v t (omega (arith, linear))))))

ratio_swap : (s t : ℤ) → Ratio s t → Ratio t s
ratio_swap s t (inl (inl h)) = inl (inr (h.1, h.0))
ratio_swap s t (inl (inr h)) = inl (inl (h.1, h.0))
ratio_swap s t (inr h) = inr (h.1, h.0)

ratio_neg : (s t x y : ℤ) → x ≡ neg_ℤ s → y ≡ neg_ℤ t → Ratio x y → Ratio s t
ratio_neg s t x y a b (inl (inl h)) = inl (inr (omega (arith, linear, h.0), omega (arith, linear, h.1)))
ratio_neg s t x y a b (inl (inr h)) = inl (inl (omega (arith, linear, h.0), omega (arith, linear, h.1)))
ratio_neg s t x y a b (inr h) = inr (omega (arith, linear, h.0), omega (arith, linear, h.1))

opposite_swap : (s t : ℤ) → AreOpposite s t → AreOpposite t s
opposite_swap s t (inl h) = inr (h.1, h.0)
opposite_swap s t (inr h) = inl (h.1, h.0)

opposite_neg : (s t x y : ℤ) → x ≡ neg_ℤ s → y ≡ neg_ℤ t → AreOpposite x y → AreOpposite s t
opposite_neg s t x y a b (inl h) = inr (omega (arith, linear, h.0), omega (arith, linear, h.1))
opposite_neg s t x y a b (inr h) = inl (omega (arith, linear, h.0), omega (arith, linear, h.1))

-- ---- an edge turned over, and the plane with its coordinates exchanged

abbrev pub flip : Point → Point
flip p = (p.1, p.0)

abbrev pub flip_edge : Edge → Edge
flip_edge e = (flip e.0, flip e.1)

turn_exchanged : (p r q : Point) → turn (flip p) (flip r) (flip q) ≡ neg_ℤ (turn p r q)
turn_exchanged p r q =
    ring (coordinates (p ∷ r ∷ q ∷ []) [])
    (((var 3 ⊖ var 1) ⊗ (var 4 ⊖ var 0)) ⊖ ((var 2 ⊖ var 0) ⊗ (var 5 ⊖ var 1)))
    (neg (turned (point_var 0) (point_var 1) (point_var 2)))
    refl

end_flip : (c : Point) (e : Edge) → is_end (flip c) (flip_edge e) ≡ is_end c e
end_flip c e =
    same_from_decides _ _ (decides_end (flip c) (flip_edge e))
    (Decides-like _ (⊎_elim (λ (h : c ≡ e.0). inl (ap flip h)) (λ (h : c ≡ e.1). inr (ap flip h))) (⊎_elim (λ (h : flip c ≡ flip e.0). inl (ap flip h)) (λ (h : flip c ≡ flip e.1). inr (ap flip h))) (decides_end c e))

-- a number that is the opposite of 0
zero_neg : (s x : ℤ) → x ≡ neg_ℤ s → x ≡ pos 0 → s ≡ pos 0
zero_neg s x a h = omega (arith, linear)

inside_back : (e : Edge) (c : Point) → IsInside (back e) c → IsInside e c
inside_back e c h = record {
  on_line = zero_neg (turn e.0 e.1 c) (turn e.1 e.0 c) (turn_flip e.0 e.1 c) h.on_line;
  in_box = record { by_x = between_back e.0.0 c.0 e.1.0 h.in_box.by_x; by_y = between_back e.0.1 c.1 e.1.1 h.in_box.by_y };
  no_end = sym (end_back c e) ∙ h.no_end;
}

inside_flip : (e : Edge) (c : Point) → IsInside (flip_edge e) (flip c) → IsInside e c
inside_flip e c h = record {
  on_line = zero_neg (turn e.0 e.1 c) (turn (flip e.0) (flip e.1) (flip c)) (turn_exchanged e.0 e.1 c) h.on_line;
  in_box = record { by_x = h.in_box.by_y; by_y = h.in_box.by_x };
  no_end = sym (end_flip c e) ∙ h.no_end;
}

is_crossing_back : (e f : Edge) → IsCrossing (back e) f → IsCrossing e f
is_crossing_back e f h = record {
  second_parted = opposite_neg (turn e.0 e.1 f.0) (turn e.0 e.1 f.1) (turn e.1 e.0 f.0) (turn e.1 e.0 f.1) (turn_flip e.0 e.1 f.0) (turn_flip e.0 e.1 f.1) h.second_parted;
  first_parted = opposite_swap (turn f.0 f.1 e.1) (turn f.0 f.1 e.0) h.first_parted;
}

crossing_flip : (e f : Edge) → IsCrossing (flip_edge e) (flip_edge f) → IsCrossing e f
crossing_flip e f h = record {
  second_parted = opposite_neg (turn e.0 e.1 f.0) (turn e.0 e.1 f.1) _ _ (turn_exchanged e.0 e.1 f.0) (turn_exchanged e.0 e.1 f.1) h.second_parted;
  first_parted = opposite_neg (turn f.0 f.1 e.0) (turn f.0 f.1 e.1) _ _ (turn_exchanged f.0 f.1 e.0) (turn_exchanged f.0 f.1 e.1) h.first_parted;
}

pub apart_swap : (e f : Edge) → ShareNoInside e f → ShareNoInside f e
apart_swap e f h = record {
  first_start = h.second_start;
  first_end = h.second_end;
  second_start = h.first_start;
  second_end = h.first_end;
  crossing = λ c. h.crossing (record { second_parted = c.first_parted; first_parted = c.second_parted });
}

pub apart_back : (e f : Edge) → ShareNoInside e f → ShareNoInside (back e) f
apart_back e f h = record {
  first_start = h.first_end;
  first_end = h.first_start;
  second_start = λ i. h.second_start (inside_back e f.0 i);
  second_end = λ i. h.second_end (inside_back e f.1 i);
  crossing = λ c. h.crossing (is_crossing_back e f c);
}

apart_flip : (e f : Edge) → ShareNoInside e f → ShareNoInside (flip_edge e) (flip_edge f)
apart_flip e f h = record {
  first_start = λ i. h.first_start (inside_flip f e.0 i);
  first_end = λ i. h.first_end (inside_flip f e.1 i);
  second_start = λ i. h.second_start (inside_flip e f.0 i);
  second_end = λ i. h.second_end (inside_flip e f.1 i);
  crossing = λ c. h.crossing (crossing_flip e f c);
}

on_flip : (e : Edge) (z : Point) → IsOn e z → IsOn (flip_edge e) (flip z)
on_flip e z h = record {
  on_line = turn_exchanged e.0 e.1 z ∙ omega (arith, linear, h.on_line);
  in_box = record { by_x = h.in_box.by_y; by_y = h.in_box.by_x };
}

ends_flip : (e f : Edge) → same_ends (flip_edge e) (flip_edge f) ≡ true → same_ends e f ≡ true
ends_flip e f h =
    (decides_ends e f).1
    (⊎_elim
    (λ (p : flip_edge e ≡ flip_edge f). inl (ap flip_edge p))
    (λ (p : flip_edge e ≡ back (flip_edge f)). inr (ap flip_edge p))
    ((decides_ends (flip_edge e) (flip_edge f)).0 h))

-- ---- points of an edge that runs to the east

-- a point on the line of an edge and in the column of an end is that end
column_start : (a b c : Point) → a.0 <ℤ b.0 → turn a b c ≡ pos 0 → c.0 ≡ a.0 → c ≡ a
column_start a b c h t e =
    let gap : c.0 -ℤ a.0 ≡ pos 0 = omega (arith, linear) in
    let flat : (b.1 -ℤ a.1) *ℤ (c.0 -ℤ a.0) ≡ pos 0 = rw gap (omega (arith, ints)) in
    let rise : (b.0 -ℤ a.0) *ℤ (c.1 -ℤ a.1) ≡ pos 0 = omega (arith, linear) in
    let y : c.1 ≡ a.1 = ⊎_elim (λ (z : b.0 -ℤ a.0 ≡ pos 0). absurd (omega (arith, linear))) (λ (z : c.1 -ℤ a.1 ≡ pos 0). omega (arith, linear)) (factor (b.0 -ℤ a.0) (c.1 -ℤ a.1) rise) in
    λ i. (e i, y i)

turn_from_end : (a b c : Point) → turn a b c ≡ ((b.0 -ℤ a.0) *ℤ (c.1 -ℤ b.1)) -ℤ ((b.1 -ℤ a.1) *ℤ (c.0 -ℤ b.0))
turn_from_end a b c =
    ring (coordinates (a ∷ b ∷ c ∷ []) []) (turned (point_var 0) (point_var 1) (point_var 2)) (((var 2 ⊖ var 0) ⊗ (var 5 ⊖ var 3)) ⊖ ((var 3 ⊖ var 1) ⊗ (var 4 ⊖ var 2))) refl

column_end : (a b c : Point) → a.0 <ℤ b.0 → turn a b c ≡ pos 0 → c.0 ≡ b.0 → c ≡ b
column_end a b c h t e =
    let gap : c.0 -ℤ b.0 ≡ pos 0 = omega (arith, linear) in
    let flat : (b.1 -ℤ a.1) *ℤ (c.0 -ℤ b.0) ≡ pos 0 = rw gap (omega (arith, ints)) in
    let rise : (b.0 -ℤ a.0) *ℤ (c.1 -ℤ b.1) ≡ pos 0 = omega (arith, linear, turn_from_end a b c) in
    let y : c.1 ≡ b.1 = ⊎_elim (λ (z : b.0 -ℤ a.0 ≡ pos 0). absurd (omega (arith, linear))) (λ (z : c.1 -ℤ b.1 ≡ pos 0). omega (arith, linear)) (factor (b.0 -ℤ a.0) (c.1 -ℤ b.1) rise) in
    λ i. (e i, y i)

-- a point of the edge that is no end lies strictly between the ends' columns
strictly : (e : Edge) (z : Point) → e.0.0 <ℤ e.1.0 → IsOn e z → is_end z e ≡ false → (e.0.0 <ℤ z.0) × (z.0 <ℤ e.1.0)
strictly e z h on inner =
    let range = on.in_box.by_x.up (omega (arith, linear)) in
    let not_start : z.0 ≡ e.0.0 → ⊥ = λ x. both_ways _ inner ((decides_end z e).1 (inl (column_start e.0 e.1 z h on.on_line x))) in
    let not_last : z.0 ≡ e.1.0 → ⊥ = λ x. both_ways _ inner ((decides_end z e).1 (inr (column_end e.0 e.1 z h on.on_line x))) in (
      by_lt_z e.0.0 z.0 (λ (k : e.0.0 <ℤ z.0). k) (λ (k : z.0 ≤ℤ e.0.0). absurd (not_start (omega (arith, linear, range.0)))),
      by_lt_z z.0 e.1.0 (λ (k : z.0 <ℤ e.1.0). k) (λ (k : e.1.0 ≤ℤ z.0). absurd (not_last (omega (arith, linear, range.1)))),
    )

upper_part : (a b c : Point) → turn a b c ≡ pos 0 → (b.0 -ℤ a.0) *ℤ (b.1 -ℤ c.1) ≡ (b.1 -ℤ a.1) *ℤ (b.0 -ℤ c.0)
upper_part a b c t = omega (arith, linear, turn_from_end a b c, opposite_product (b.0 -ℤ a.0) (c.1 -ℤ b.1) (b.1 -ℤ c.1) (omega (arith, linear)), opposite_product (b.1 -ℤ a.1) (c.0 -ℤ b.0) (b.0 -ℤ c.0) (omega (arith, linear)))
  where
    opposite_product : (x y z : ℤ) → z ≡ neg_ℤ y → x *ℤ z ≡ neg_ℤ (x *ℤ y)
    opposite_product x y z e = rw e (mul_neg x y)

between_rows : (a b c : Point) → a.0 <ℤ c.0 → c.0 <ℤ b.0 → turn a b c ≡ pos 0 → IsBetween a.1 c.1 b.1
between_rows a b c l r t =
    let dx : pos 0 <ℤ (b.0 -ℤ a.0) = omega (arith, linear) in
    let lower : (b.0 -ℤ a.0) *ℤ (c.1 -ℤ a.1) ≡ (b.1 -ℤ a.1) *ℤ (c.0 -ℤ a.0) = omega (arith, linear) in
    let upper = upper_part a b c t in
    record {
      up = λ (h : a.1 ≤ℤ b.1).
          let p : pos 0 ≤ℤ ((b.1 -ℤ a.1) *ℤ (c.0 -ℤ a.0)) = mul_nonneg (b.1 -ℤ a.1) (c.0 -ℤ a.0) (omega (arith, linear)) (omega (arith, linear)) in
          let q : pos 0 ≤ℤ ((b.1 -ℤ a.1) *ℤ (b.0 -ℤ c.0)) = mul_nonneg (b.1 -ℤ a.1) (b.0 -ℤ c.0) (omega (arith, linear)) (omega (arith, linear)) in
          let x : pos 0 ≤ℤ (c.1 -ℤ a.1) = nonneg_of_mul (b.0 -ℤ a.0) (c.1 -ℤ a.1) dx (omega (arith, linear)) in
          let y : pos 0 ≤ℤ (b.1 -ℤ c.1) = nonneg_of_mul (b.0 -ℤ a.0) (b.1 -ℤ c.1) dx (omega (arith, linear)) in
          (omega (arith, linear), omega (arith, linear));
      down = λ (h : b.1 ≤ℤ a.1).
          let p : ((b.1 -ℤ a.1) *ℤ (c.0 -ℤ a.0)) ≤ℤ pos 0 = mul_nonpos_nonneg (b.1 -ℤ a.1) (c.0 -ℤ a.0) (omega (arith, linear)) (omega (arith, linear)) in
          let q : ((b.1 -ℤ a.1) *ℤ (b.0 -ℤ c.0)) ≤ℤ pos 0 = mul_nonpos_nonneg (b.1 -ℤ a.1) (b.0 -ℤ c.0) (omega (arith, linear)) (omega (arith, linear)) in
          let x : (c.1 -ℤ a.1) ≤ℤ pos 0 = nonpos_of_mul (b.0 -ℤ a.0) (c.1 -ℤ a.1) dx (omega (arith, linear)) in
          let y : (b.1 -ℤ c.1) ≤ℤ pos 0 = nonpos_of_mul (b.0 -ℤ a.0) (b.1 -ℤ c.1) dx (omega (arith, linear)) in
          (omega (arith, linear), omega (arith, linear));
    }

-- strictly between the columns and on the line: inside
inside_columns : (e : Edge) (c : Point) → e.0.0 <ℤ c.0 → c.0 <ℤ e.1.0 → turn e.0 e.1 c ≡ pos 0 → IsInside e c
inside_columns e c l r t = record {
  on_line = t;
  in_box = record {
    by_x = record { up = λ h. (omega (arith, linear), omega (arith, linear)); down = λ h. absurd (omega (arith, linear)) };
    by_y = between_rows e.0 e.1 c l r t;
  };
  no_end =
      ⊎_elim
      (λ (y : is_end c e ≡ true).
      ⊎_elim
      (λ (p : c ≡ e.0). absurd (differ c.0 e.0.0 (ap (λ (v : Point). v.0) p) l))
      (λ (p : c ≡ e.1). absurd (differ e.1.0 c.0 (sym (ap (λ (v : Point). v.0) p)) r))
      ((decides_end c e).0 y))
      (λ (n : is_end c e ≡ false). n)
      (cases_Bool (is_end c e));
}
  where
    differ : (x y : ℤ) → x ≡ y → y <ℤ x → ⊥
    differ x y e h = omega (arith, linear)

-- ---- edges with a point inside both

part_turn : (m : ℤ) (a b p r z : Point)
    → (m *ℤ (b.0 -ℤ a.0)) *ℤ turn (m *ℤ p.0, m *ℤ p.1) (m *ℤ r.0, m *ℤ r.1) z
    ≡ ((m *ℤ m) *ℤ ((((m *ℤ b.0) -ℤ z.0) *ℤ turn p r a) +ℤ ((z.0 -ℤ (m *ℤ a.0)) *ℤ turn p r b)))
    +ℤ ((m *ℤ (r.0 -ℤ p.0)) *ℤ turn (m *ℤ a.0, m *ℤ a.1) (m *ℤ b.0, m *ℤ b.1) z)
part_turn m a b p r z =
    let k = var 10 in
    let e = turned (scaled_point_expr k (point_var 0)) (scaled_point_expr k (point_var 1)) (point_var 4) in
    let f = turned (scaled_point_expr k (point_var 2)) (scaled_point_expr k (point_var 3)) (point_var 4) in
    ring (coordinates (a ∷ b ∷ p ∷ r ∷ z ∷ []) (m ∷ []))
    ((k ⊗ (var 2 ⊖ var 0)) ⊗ f)
    (((k ⊗ k) ⊗ ((((k ⊗ var 2) ⊖ var 8) ⊗ turned (point_var 2) (point_var 3) (point_var 0)) ⊕ ((var 8 ⊖ (k ⊗ var 0)) ⊗ turned (point_var 2) (point_var 3) (point_var 1)))) ⊕ ((k ⊗ (var 6 ⊖ var 4)) ⊗ e))
    refl

-- the ends of an edge to the east lie on two sides of a line through a point inside it, or both on the line
ratio_east : (m : ℕ) (e f : Edge) (z : Point) → 0 < m → e.0.0 <ℤ e.1.0 → IsOn (refined_edge m e) z → is_end z (refined_edge m e) ≡ false
    → turn (refined m f.0) (refined m f.1) z ≡ pos 0 → Ratio (turn f.0 f.1 e.0) (turn f.0 f.1 e.1)
ratio_east m e f z some east on inner line =
    let k : pos 0 <ℤ pos m = omega (arith, ints) in
    let wide : (pos m *ℤ e.0.0) <ℤ (pos m *ℤ e.1.0) = mul_lt_mul_left (pos m) e.0.0 e.1.0 k east in
    let range = strictly (refined_edge m e) z wide on inner in
    let square : pos 0 <ℤ (pos m *ℤ pos m) = mul_pos (pos m) (pos m) k k in
    let sum = (((pos m *ℤ e.1.0) -ℤ z.0) *ℤ turn f.0 f.1 e.0) +ℤ ((z.0 -ℤ (pos m *ℤ e.0.0)) *ℤ turn f.0 f.1 e.1) in
    let first : (pos m *ℤ (e.1.0 -ℤ e.0.0)) *ℤ turn (refined m f.0) (refined m f.1) z ≡ pos 0 = times_zero (pos m *ℤ (e.1.0 -ℤ e.0.0)) (turn (refined m f.0) (refined m f.1) z) line in
    let second : (pos m *ℤ (f.1.0 -ℤ f.0.0)) *ℤ turn (refined m e.0) (refined m e.1) z ≡ pos 0 = times_zero (pos m *ℤ (f.1.0 -ℤ f.0.0)) (turn (refined m e.0) (refined m e.1) z) on.on_line in
    let product : (pos m *ℤ pos m) *ℤ sum ≡ pos 0 = omega (arith, linear, part_turn (pos m) e.0 e.1 f.0 f.1 z) in
    let none : sum ≡ pos 0 = ⊎_elim (λ (x : pos m *ℤ pos m ≡ pos 0). absurd (omega (arith, linear))) (λ (x : sum ≡ pos 0). x) (factor (pos m *ℤ pos m) sum product) in
    ratio_of ((pos m *ℤ e.1.0) -ℤ z.0) (z.0 -ℤ (pos m *ℤ e.0.0)) (turn f.0 f.1 e.0) (turn f.0 f.1 e.1) (omega (arith, linear, range.1)) (omega (arith, linear, range.0)) none

-- an edge runs to the east, or it does turned over or in the plane with its coordinates exchanged, maybe turned over too
by_direction : (P : Edge → Type 0) → ((e : Edge) → e.0.0 <ℤ e.1.0 → P e) → ((e : Edge) → P (back e) → P e) → ((e : Edge) → e.0.0 ≡ e.1.0 → e.0.1 <ℤ e.1.1 → P e)
    → (e : Edge) → same_point e.0 e.1 ≡ false → P e
by_direction P east turned upright e proper =
    by_lt_z e.0.0 e.1.0
    (λ (h : e.0.0 <ℤ e.1.0). east e h)
    (λ (h : e.1.0 ≤ℤ e.0.0).
    by_lt_z e.1.0 e.0.0
    (λ (k : e.1.0 <ℤ e.0.0). turned e (east (back e) k))
    (λ (k : e.0.0 ≤ℤ e.1.0).
    let same : e.0.0 ≡ e.1.0 = omega (arith, linear) in
    by_lt_z e.0.1 e.1.1
    (λ (l : e.0.1 <ℤ e.1.1). upright e same l)
    (λ (l : e.1.1 ≤ℤ e.0.1).
    by_lt_z e.1.1 e.0.1
    (λ (n : e.1.1 <ℤ e.0.1). turned e (upright (back e) (sym same) n))
    (λ (n : e.0.1 ≤ℤ e.1.1).
    let also : e.0.1 ≡ e.1.1 = omega (arith, linear) in
    absurd (both_ways _ proper ((decides_point e.0 e.1).1 (λ i. (same i, also i))))))))

abbrev HasRatio : ℕ → Edge → Point → Edge → Type 0
HasRatio m f z e = IsOn (refined_edge m e) z → is_end z (refined_edge m e) ≡ false → turn (refined m f.0) (refined m f.1) z ≡ pos 0 → Ratio (turn f.0 f.1 e.0) (turn f.0 f.1 e.1)

ratio : (m : ℕ) (f : Edge) (z : Point) → 0 < m → (e : Edge) → same_point e.0 e.1 ≡ false → HasRatio m f z e
ratio m f z some e proper =
    by_direction (HasRatio m f z)
    (λ (e : Edge) (east : e.0.0 <ℤ e.1.0) on inner line. ratio_east m e f z some east on inner line)
    (λ (e : Edge) (turned : HasRatio m f z (back e)) on inner line.
    ratio_swap (turn f.0 f.1 e.1) (turn f.0 f.1 e.0) (turned (on_back (refined_edge m e) z on) (end_back z (refined_edge m e) ∙ inner) line))
    (λ (e : Edge) (same : e.0.0 ≡ e.1.0) (up : e.0.1 <ℤ e.1.1) on inner line.
    ratio_neg (turn f.0 f.1 e.0) (turn f.0 f.1 e.1) _ _ (turn_exchanged f.0 f.1 e.0) (turn_exchanged f.0 f.1 e.1)
    (ratio_east m (flip_edge e) (flip_edge f) (flip z) some up (on_flip (refined_edge m e) z on) (end_flip z (refined_edge m e) ∙ inner)
    (turn_exchanged (refined m f.0) (refined m f.1) z ∙ omega (arith, linear, line))))
    e proper

-- where both ends of one edge lie on the line of another, the first end of the other lies on the line of the one
one_line : (a b p r : Point) → same_point p r ≡ false → turn p r a ≡ pos 0 → turn p r b ≡ pos 0 → turn a b p ≡ pos 0
one_line a b p r proper s t =
    let gap : turn p r b -ℤ turn p r a ≡ pos 0 = omega (arith, linear) in
    let x : (r.0 -ℤ p.0) *ℤ turn a b p ≡ pos 0 = omega (arith, linear, along_x a b p r, times_zero (a.0 -ℤ p.0) (turn p r b -ℤ turn p r a) gap, times_zero (b.0 -ℤ a.0) (turn p r a) s) in
    let y : (r.1 -ℤ p.1) *ℤ turn a b p ≡ pos 0 = omega (arith, linear, along_y a b p r, times_zero (a.1 -ℤ p.1) (turn p r b -ℤ turn p r a) gap, times_zero (b.1 -ℤ a.1) (turn p r a) s) in
    ⊎_elim
    (λ (u : r.0 -ℤ p.0 ≡ pos 0).
    ⊎_elim
    (λ (v : r.1 -ℤ p.1 ≡ pos 0).
    let c : p.0 ≡ r.0 = omega (arith, linear) in
    let d : p.1 ≡ r.1 = omega (arith, linear) in
    absurd (both_ways _ proper ((decides_point p r).1 (λ i. (c i, d i)))))
    (λ (v : turn a b p ≡ pos 0). v)
    (factor (r.1 -ℤ p.1) (turn a b p) y))
    (λ (u : turn a b p ≡ pos 0). u)
    (factor (r.0 -ℤ p.0) (turn a b p) x)

-- all four turns of two edges are 0
record OnOneLine (e f : Edge) : Type 0 where
  pub first_start : turn f.0 f.1 e.0 ≡ pos 0
  pub first_end : turn f.0 f.1 e.1 ≡ pos 0
  pub second_start : turn e.0 e.1 f.0 ≡ pos 0
  pub second_end : turn e.0 e.1 f.1 ≡ pos 0

line_from_first : (e f : Edge) → same_point f.0 f.1 ≡ false → turn f.0 f.1 e.0 ≡ pos 0 → turn f.0 f.1 e.1 ≡ pos 0 → OnOneLine e f
line_from_first e f proper s t =
    let start = one_line e.0 e.1 f.0 f.1 proper s t in
    record { first_start = s; first_end = t; second_start = start; second_end = omega (arith, linear, turns_differ e.0 e.1 f.0 f.1) }

line_swap : (e f : Edge) → OnOneLine e f → OnOneLine f e
line_swap e f h = record { first_start = h.second_start; first_end = h.second_end; second_start = h.first_start; second_end = h.first_end }

line_back : (e f : Edge) → OnOneLine e f → OnOneLine (back e) f
line_back e f h = record {
  first_start = h.first_end;
  first_end = h.first_start;
  second_start = turn_flip e.0 e.1 f.0 ∙ omega (arith, linear, h.second_start);
  second_end = turn_flip e.0 e.1 f.1 ∙ omega (arith, linear, h.second_end);
}

line_flip : (e f : Edge) → OnOneLine e f → OnOneLine (flip_edge e) (flip_edge f)
line_flip e f h = record {
  first_start = turn_exchanged f.0 f.1 e.0 ∙ omega (arith, linear, h.first_start);
  first_end = turn_exchanged f.0 f.1 e.1 ∙ omega (arith, linear, h.first_end);
  second_start = turn_exchanged e.0 e.1 f.0 ∙ omega (arith, linear, h.second_start);
  second_end = turn_exchanged e.0 e.1 f.1 ∙ omega (arith, linear, h.second_end);
}

-- two edges to the east on one line, apart, with columns in common: the same edge
overlap : (e f : Edge) → e.0.0 <ℤ e.1.0 → f.0.0 <ℤ f.1.0 → OnOneLine e f → ShareNoInside e f → e.0.0 <ℤ f.1.0 → f.0.0 <ℤ e.1.0 → e ≡ f
overlap e f east also line apart l r =
    let a : f.0.0 ≤ℤ e.0.0 =
    by_lt_z e.0.0 f.0.0
    (λ (h : e.0.0 <ℤ f.0.0). absurd (apart.second_start (inside_columns e f.0 h r line.second_start)))
    (λ (h : f.0.0 ≤ℤ e.0.0). h) in
    let b : e.0.0 ≤ℤ f.0.0 =
    by_lt_z f.0.0 e.0.0
    (λ (h : f.0.0 <ℤ e.0.0). absurd (apart.first_start (inside_columns f e.0 h l line.first_start)))
    (λ (h : e.0.0 ≤ℤ f.0.0). h) in
    let start : e.0.0 ≡ f.0.0 = omega (arith, linear) in
    let c : e.1.0 ≤ℤ f.1.0 =
    by_lt_z f.1.0 e.1.0
    (λ (h : f.1.0 <ℤ e.1.0). absurd (apart.second_end (inside_columns e f.1 l h line.second_end)))
    (λ (h : e.1.0 ≤ℤ f.1.0). h) in
    let d : f.1.0 ≤ℤ e.1.0 =
    by_lt_z e.1.0 f.1.0
    (λ (h : e.1.0 <ℤ f.1.0). absurd (apart.first_end (inside_columns f e.1 r h line.first_end)))
    (λ (h : f.1.0 ≤ℤ e.1.0). h) in
    let last : e.1.0 ≡ f.1.0 = omega (arith, linear) in
    let p : e.0 ≡ f.0 = column_start f.0 f.1 e.0 also line.first_start start in
    let q : e.1 ≡ f.1 = column_end f.0 f.1 e.1 also line.first_end last in
    λ i. (p i, q i)

-- a proper edge on the line of an edge to the east is not upright
not_upright : (e f : Edge) → e.0.0 <ℤ e.1.0 → OnOneLine e f → same_point f.0 f.1 ≡ false → f.0.0 ≡ f.1.0 → ⊥
not_upright e f east line proper same =
    let gap : f.0.0 -ℤ f.1.0 ≡ pos 0 = omega (arith, linear) in
    let difference : ((e.1.0 -ℤ e.0.0) *ℤ (f.0.1 -ℤ f.1.1)) -ℤ ((e.1.1 -ℤ e.0.1) *ℤ (f.0.0 -ℤ f.1.0)) ≡ turn e.0 e.1 f.0 -ℤ turn e.0 e.1 f.1 =
    ring (coordinates (e.0 ∷ e.1 ∷ f.0 ∷ f.1 ∷ []) [])
    (((var 2 ⊖ var 0) ⊗ (var 5 ⊖ var 7)) ⊖ ((var 3 ⊖ var 1) ⊗ (var 4 ⊖ var 6)))
    (turned (point_var 0) (point_var 1) (point_var 2) ⊖ turned (point_var 0) (point_var 1) (point_var 3))
    refl in
    let rise : (e.1.0 -ℤ e.0.0) *ℤ (f.0.1 -ℤ f.1.1) ≡ pos 0 = omega (arith, linear, line.second_start, line.second_end, times_zero (e.1.1 -ℤ e.0.1) (f.0.0 -ℤ f.1.0) gap) in
    ⊎_elim
    (λ (z : e.1.0 -ℤ e.0.0 ≡ pos 0). omega (arith, linear))
    (λ (z : f.0.1 -ℤ f.1.1 ≡ pos 0).
    let y : f.0.1 ≡ f.1.1 = omega (arith, linear) in
    both_ways _ proper ((decides_point f.0 f.1).1 (λ i. (same i, y i))))
    (factor (e.1.0 -ℤ e.0.0) (f.0.1 -ℤ f.1.1) rise)

below_of_scaled : (m : ℕ) (a b z : ℤ) → 0 < m → (pos m *ℤ a) <ℤ z → z <ℤ (pos m *ℤ b) → a <ℤ b
below_of_scaled m a b z some l r =
    let k : pos 0 ≤ℤ pos m = omega (arith, ints) in
    lt_of_mul_lt_mul (pos m) a b k (omega (arith, linear))

-- what two edges on one line have in common, with a point inside both: the ends
abbrev HasSameEnds : ℕ → Edge → Point → Edge → Type 0
HasSameEnds m f z e =
    OnOneLine e f → ShareNoInside e f → IsOn (refined_edge m e) z → is_end z (refined_edge m e) ≡ false → IsOn (refined_edge m f) z → is_end z (refined_edge m f) ≡ false → same_ends e f ≡ true

both_east : (m : ℕ) (f : Edge) (z : Point) → 0 < m → (e : Edge) → e.0.0 <ℤ e.1.0 → f.0.0 <ℤ f.1.0 → OnOneLine e f → ShareNoInside e f
    → IsOn (refined_edge m e) z → is_end z (refined_edge m e) ≡ false → IsOn (refined_edge m f) z → is_end z (refined_edge m f) ≡ false → e ≡ f
both_east m f z some e east also line apart on_e inner_e on_f inner_f =
    let k : pos 0 <ℤ pos m = omega (arith, ints) in
    let x = strictly (refined_edge m e) z (mul_lt_mul_left (pos m) e.0.0 e.1.0 k east) on_e inner_e in
    let y = strictly (refined_edge m f) z (mul_lt_mul_left (pos m) f.0.0 f.1.0 k also) on_f inner_f in
    overlap e f east also line apart (below_of_scaled m e.0.0 f.1.0 z.0 some x.0 y.1) (below_of_scaled m f.0.0 e.1.0 z.0 some y.0 x.1)

first_east : (m : ℕ) (f : Edge) (z : Point) → 0 < m → same_point f.0 f.1 ≡ false → (e : Edge) → e.0.0 <ℤ e.1.0 → HasSameEnds m f z e
first_east m f z some proper e east line apart on_e inner_e on_f inner_f =
    by_lt_z f.0.0 f.1.0
    (λ (h : f.0.0 <ℤ f.1.0). (decides_ends e f).1 (inl (both_east m f z some e east h line apart on_e inner_e on_f inner_f)))
    (λ (h : f.1.0 ≤ℤ f.0.0).
    by_lt_z f.1.0 f.0.0
    (λ (k : f.1.0 <ℤ f.0.0).
    (decides_ends e f).1
    (inr
    (both_east m (back f) z some e east k (line_swap (back f) e (line_back f e (line_swap e f line))) (apart_swap (back f) e (apart_back f e (apart_swap e f apart))) on_e inner_e
    (on_back (refined_edge m f) z on_f) (end_back z (refined_edge m f) ∙ inner_f))))
    (λ (k : f.0.0 ≤ℤ f.1.0). absurd (not_upright e f east line proper (omega (arith, linear)))))

on_one_line : (m : ℕ) (f : Edge) (z : Point) → 0 < m → same_point f.0 f.1 ≡ false → (e : Edge) → same_point e.0 e.1 ≡ false → HasSameEnds m f z e
on_one_line m f z some proper e also =
    by_direction (HasSameEnds m f z)
    (first_east m f z some proper)
    (λ (e : Edge) (turned : HasSameEnds m f z (back e)) line apart on_e inner_e on_f inner_f.
    ends_sym e f ∙ sym (ends_turned f e) ∙ ends_sym f (back e)
    ∙ turned (line_back e f line) (apart_back e f apart) (on_back (refined_edge m e) z on_e) (end_back z (refined_edge m e) ∙ inner_e) on_f inner_f)
    (λ (e : Edge) (same : e.0.0 ≡ e.1.0) (up : e.0.1 <ℤ e.1.1) line apart on_e inner_e on_f inner_f.
    ends_flip e f
    (first_east m (flip_edge f) (flip z) some (flip_proper f proper) (flip_edge e) up (line_flip e f line) (apart_flip e f apart)
    (on_flip (refined_edge m e) z on_e) (end_flip z (refined_edge m e) ∙ inner_e) (on_flip (refined_edge m f) z on_f) (end_flip z (refined_edge m f) ∙ inner_f)))
    e also
  where
    flip_proper : (f : Edge) → same_point f.0 f.1 ≡ false → same_point (flip f.0) (flip f.1) ≡ false
    flip_proper f h =
        ⊎_elim
        (λ (t : same_point (flip f.0) (flip f.1) ≡ true). absurd (both_ways _ h ((decides_point f.0 f.1).1 (ap flip ((decides_point (flip f.0) (flip f.1)).0 t)))))
        (λ (n : same_point (flip f.0) (flip f.1) ≡ false). n)
        (cases_Bool (same_point (flip f.0) (flip f.1)))

-- a point inside both of two edges that are apart: they have the same ends
pub inside_both : (m : ℕ) (e f : Edge) (z : Point) → 0 < m → same_point e.0 e.1 ≡ false → same_point f.0 f.1 ≡ false → ShareNoInside e f
    → IsOn (refined_edge m e) z → is_end z (refined_edge m e) ≡ false → IsOn (refined_edge m f) z → is_end z (refined_edge m f) ≡ false → same_ends e f ≡ true
inside_both m e f z some proper also apart on_e inner_e on_f inner_f =
    ⊎_elim
    (λ (s : AreOpposite (turn f.0 f.1 e.0) (turn f.0 f.1 e.1)).
    ⊎_elim
    (λ (t : AreOpposite (turn e.0 e.1 f.0) (turn e.0 e.1 f.1)). absurd (apart.crossing (record { second_parted = t; first_parted = s })))
    (λ (t : (turn e.0 e.1 f.0 ≡ pos 0) × (turn e.0 e.1 f.1 ≡ pos 0)). same (line_swap f e (line_from_first f e proper t.0 t.1)))
    (ratio m e z some f also on_f inner_f on_e.on_line))
    (λ (s : (turn f.0 f.1 e.0 ≡ pos 0) × (turn f.0 f.1 e.1 ≡ pos 0)). same (line_from_first e f also s.0 s.1))
    (ratio m f z some e proper on_e inner_e on_f.on_line)
  where
    same : OnOneLine e f → same_ends e f ≡ true
    same line = on_one_line m f z some also e proper line apart on_e inner_e on_f inner_f
