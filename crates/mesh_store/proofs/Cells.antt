-- Lemmas over points: where two segments meet, both reach the same side of each line.
use Rattle.std.proofs.Common.{◌≡◌, ℕ, ◌⊎◌, ⊎_elim, Bool, true, false, cond, sym, ◌∙◌, subst, refl, arith, [], ◌∷◌}
use Rattle.std.specs.Prelude.{ℤ, pos, ◌+ℤ◌, ◌-ℤ◌, ◌*ℤ◌, ◌≤ℤ◌, ◌<ℤ◌, neg_ℤ, ◌||◌, not, int_lt}
use Rattle.std.proofs.lemmas.Int.{ints}
use Rattle.mesh_plane.specs.Plane.{Point, Edge, turn}
use Rattle.mesh_plane.proofs.Whole.{linear, square_nonneg, mul_nonneg, mul_nonpos, nonneg_of_mul, zero_mul, either_order, square_zero}
use Rattle.mesh_plane.proofs.Ring.{ring, var, neg, ◌⊕◌, ◌⊖◌, ◌⊗◌}
use Rattle.mesh_plane.proofs.PointExprs.{point_var, coordinates, turned}
use Rattle.mesh_lattice.specs.Split.{IsBetween, IsInside, IsCrossing, crossing_at, rounded_quotient, Meets, at_start_of_second, at_end_of_second, at_start_of_first, at_end_of_first, at_crossing}
use Rattle.mesh_lattice.proofs.Boxes.{between_start, between_end, crossing_between, quotient_flip, turns_differ, parted}
use Rattle.mesh_store.specs.declared.tree.Cut.{Cut}
use Rattle.mesh_store.specs.Cells.{Cell, IsAt, height}

-- ---- shares of a range

products_between : (a z b : ℤ) → IsBetween a z b → (pos 0 ≤ℤ ((b -ℤ a) *ℤ (z -ℤ a))) × (pos 0 ≤ℤ ((b -ℤ a) *ℤ (b -ℤ z)))
products_between a z b h =
    ⊎_elim
    (λ (l : a ≤ℤ b).
    let k = h.up l in
    (mul_nonneg (b -ℤ a) (z -ℤ a) (omega (arith, linear, l)) (omega (arith, linear, k.0)), mul_nonneg (b -ℤ a) (b -ℤ z) (omega (arith, linear, l)) (omega (arith, linear, k.1))))
    (λ (l : b ≤ℤ a).
    let k = h.down l in
    (mul_nonpos (b -ℤ a) (z -ℤ a) (omega (arith, linear, l)) (omega (arith, linear, k.1)), mul_nonpos (b -ℤ a) (b -ℤ z) (omega (arith, linear, l)) (omega (arith, linear, k.0))))
    (either_order a b)

rest : (a z b d s : ℤ) → d *ℤ (z -ℤ a) ≡ s *ℤ (b -ℤ a) → d *ℤ (b -ℤ z) ≡ (d -ℤ s) *ℤ (b -ℤ a)
rest a z b d s e =
    let k : (d *ℤ (b -ℤ z)) +ℤ (d *ℤ (z -ℤ a)) ≡ ((d -ℤ s) *ℤ (b -ℤ a)) +ℤ (s *ℤ (b -ℤ a)) =
    ring (a ∷ z ∷ b ∷ d ∷ s ∷ [])
    ((var 3 ⊗ (var 2 ⊖ var 1)) ⊕ (var 3 ⊗ (var 1 ⊖ var 0)))
    (((var 3 ⊖ var 4) ⊗ (var 2 ⊖ var 0)) ⊕ (var 4 ⊗ (var 2 ⊖ var 0)))
    refl in
    omega (arith, linear, k, e)

flipped : (d a z : ℤ) → d *ℤ (z -ℤ a) ≡ neg_ℤ (d *ℤ (a -ℤ z))
flipped d a z = ring (d ∷ a ∷ z ∷ []) (var 0 ⊗ (var 2 ⊖ var 1)) (neg (var 0 ⊗ (var 1 ⊖ var 2))) refl

-- a number that is a share of the way from another one to a third
share_between : (a z b d s : ℤ) → pos 0 <ℤ d → pos 0 ≤ℤ s → s ≤ℤ d → d *ℤ (z -ℤ a) ≡ s *ℤ (b -ℤ a) → IsBetween a z b
share_between a z b d s h l m e =
    let r = rest a z b d s e in
    record {
      up = λ (o : a ≤ℤ b).
          let first : pos 0 ≤ℤ (d *ℤ (z -ℤ a)) = omega (arith, linear, e, mul_nonneg s (b -ℤ a) l (omega (arith, linear, o))) in
          let last : pos 0 ≤ℤ (d *ℤ (b -ℤ z)) = omega (arith, linear, r, mul_nonneg (d -ℤ s) (b -ℤ a) (omega (arith, linear, m)) (omega (arith, linear, o))) in
          (omega (arith, linear, nonneg_of_mul d (z -ℤ a) h first), omega (arith, linear, nonneg_of_mul d (b -ℤ z) h last));
      down = λ (o : b ≤ℤ a).
          let first : pos 0 ≤ℤ (d *ℤ (z -ℤ b)) = omega (arith, linear, r, flipped d b z, flipped (d -ℤ s) a b, mul_nonneg (d -ℤ s) (a -ℤ b) (omega (arith, linear, m)) (omega (arith, linear, o))) in
          let last : pos 0 ≤ℤ (d *ℤ (a -ℤ z)) = omega (arith, linear, e, flipped d a z, flipped s a b, mul_nonneg s (a -ℤ b) l (omega (arith, linear, o))) in
          (omega (arith, linear, nonneg_of_mul d (z -ℤ b) h first), omega (arith, linear, nonneg_of_mul d (a -ℤ z) h last));
    }

-- ---- heights of points inside a segment

same_between : (a z b : ℤ) → b -ℤ a ≡ pos 0 → IsBetween a z b → z ≡ a
same_between a z b e h = let k = h.up (omega (arith, linear, e)) in omega (arith, linear, e, k.0, k.1)

share_of : (v : ℤ × ℤ) (p r q : Point)
    → (((r.0 -ℤ p.0) *ℤ (r.0 -ℤ p.0)) +ℤ ((r.1 -ℤ p.1) *ℤ (r.1 -ℤ p.1))) *ℤ (height v q -ℤ height v p)
    ≡ ((((r.0 -ℤ p.0) *ℤ (q.0 -ℤ p.0)) +ℤ ((r.1 -ℤ p.1) *ℤ (q.1 -ℤ p.1))) *ℤ (height v r -ℤ height v p)) +ℤ (turn p r q *ℤ ((v.1 *ℤ (r.0 -ℤ p.0)) -ℤ (v.0 *ℤ (r.1 -ℤ p.1))))
share_of v p r q =
    let h = λ (i : ℕ). (var 6 ⊗ (point_var i).0) ⊕ (var 7 ⊗ (point_var i).1) in
    let x = (point_var 1).0 ⊖ (point_var 0).0 in
    let y = (point_var 1).1 ⊖ (point_var 0).1 in
    ring (coordinates (p ∷ r ∷ q ∷ []) (v.0 ∷ v.1 ∷ []))
    (((x ⊗ x) ⊕ (y ⊗ y)) ⊗ (h 2 ⊖ h 0))
    ((((x ⊗ ((point_var 2).0 ⊖ (point_var 0).0)) ⊕ (y ⊗ ((point_var 2).1 ⊖ (point_var 0).1))) ⊗ (h 1 ⊖ h 0)) ⊕ (turned (point_var 0) (point_var 1) (point_var 2) ⊗ ((var 7 ⊗ x) ⊖ (var 6 ⊗ y))))
    refl

rest_of : (p r q : Point)
    → (((r.0 -ℤ p.0) *ℤ (r.0 -ℤ p.0)) +ℤ ((r.1 -ℤ p.1) *ℤ (r.1 -ℤ p.1))) -ℤ (((r.0 -ℤ p.0) *ℤ (q.0 -ℤ p.0)) +ℤ ((r.1 -ℤ p.1) *ℤ (q.1 -ℤ p.1)))
    ≡ ((r.0 -ℤ p.0) *ℤ (r.0 -ℤ q.0)) +ℤ ((r.1 -ℤ p.1) *ℤ (r.1 -ℤ q.1))
rest_of p r q =
    let x = (point_var 1).0 ⊖ (point_var 0).0 in
    let y = (point_var 1).1 ⊖ (point_var 0).1 in
    ring (coordinates (p ∷ r ∷ q ∷ []) [])
    (((x ⊗ x) ⊕ (y ⊗ y)) ⊖ ((x ⊗ ((point_var 2).0 ⊖ (point_var 0).0)) ⊕ (y ⊗ ((point_var 2).1 ⊖ (point_var 0).1))))
    ((x ⊗ ((point_var 1).0 ⊖ (point_var 2).0)) ⊕ (y ⊗ ((point_var 1).1 ⊖ (point_var 2).1)))
    refl

inside_between : (v : ℤ × ℤ) (e : Edge) (q : Point) → IsInside e q → IsBetween (height v e.0) (height v q) (height v e.1)
inside_between v e q h =
    let p = e.0 in
    let r = e.1 in
    let d : ℤ = ((r.0 -ℤ p.0) *ℤ (r.0 -ℤ p.0)) +ℤ ((r.1 -ℤ p.1) *ℤ (r.1 -ℤ p.1)) in
    let s : ℤ = ((r.0 -ℤ p.0) *ℤ (q.0 -ℤ p.0)) +ℤ ((r.1 -ℤ p.1) *ℤ (q.1 -ℤ p.1)) in
    let x = products_between p.0 q.0 r.0 h.in_box.by_x in
    let y = products_between p.1 q.1 r.1 h.in_box.by_y in
    ⊎_elim
    (λ (o : pos 1 ≤ℤ d).
    share_between (height v p) (height v q) (height v r) d s (omega (arith, linear, o)) (omega (arith, linear, x.0, y.0)) (omega (arith, linear, rest_of p r q, x.1, y.1))
    (share_of v p r q ∙ alone _ (turn p r q) _ h.on_line))
    (λ (o : d ≤ℤ pos 0).
    let i = square_zero (r.0 -ℤ p.0) (omega (arith, linear, o, square_nonneg (r.1 -ℤ p.1))) in
    let j = square_zero (r.1 -ℤ p.1) (omega (arith, linear, o, square_nonneg (r.0 -ℤ p.0))) in
    let k : height v q ≡ height v p = λ t. height v (same_between p.0 q.0 r.0 i h.in_box.by_x t, same_between p.1 q.1 r.1 j h.in_box.by_y t) in
    subst (λ (z : ℤ). IsBetween (height v p) z (height v r)) (sym k) (between_start (height v p) (height v r)))
    (apart d)
  where
    alone : (a t b : ℤ) → t ≡ pos 0 → a +ℤ (t *ℤ b) ≡ a
    alone a t b e = let z : t *ℤ b ≡ pos 0 = rw e (zero_mul b) in omega (arith, linear, z)

    apart : (d : ℤ) → (pos 1 ≤ℤ d) ⊎ (d ≤ℤ pos 0)
    apart d = grind (arith, ints)

-- ---- the height of a crossing

crossing_height : (v : ℤ × ℤ) (a b p r : Point)
    → (height v a *ℤ (turn p r a -ℤ turn p r b)) +ℤ ((height v b -ℤ height v a) *ℤ turn p r a)
    ≡ neg_ℤ ((height v p *ℤ (turn a b p -ℤ turn a b r)) +ℤ ((height v r -ℤ height v p) *ℤ turn a b p))
crossing_height v a b p r =
    let e = turned (point_var 2) (point_var 3) in
    let f = turned (point_var 0) (point_var 1) in
    let h = λ (i : ℕ). (var 8 ⊗ (point_var i).0) ⊕ (var 9 ⊗ (point_var i).1) in
    ring (coordinates (a ∷ b ∷ p ∷ r ∷ []) (v.0 ∷ v.1 ∷ []))
    ((h 0 ⊗ (e (point_var 0) ⊖ e (point_var 1))) ⊕ ((h 1 ⊖ h 0) ⊗ e (point_var 0)))
    (neg ((h 2 ⊗ (f (point_var 2) ⊖ f (point_var 3))) ⊕ ((h 3 ⊖ h 2) ⊗ f (point_var 2))))
    refl

-- ---- heights that two segments share

record Shared (v : ℤ × ℤ) (e f : Edge) : Type 0 where
  pub height_of : ℤ
  pub first : IsBetween (height v e.0) height_of (height v e.1)
  pub second : IsBetween (height v f.0) height_of (height v f.1)

crossing_shared : (v : ℤ × ℤ) (e f : Edge) → IsCrossing e f → Shared v e f
crossing_shared v e f h =
    let s = turn e.0 e.1 f.0 in
    let t = turn e.0 e.1 f.1 in
    let same : crossing_at (height v e.0) (height v e.1) (turn f.0 f.1 e.0) (turn f.0 f.1 e.0 -ℤ turn f.0 f.1 e.1) ≡ crossing_at (height v f.0) (height v f.1) s (s -ℤ t) =
    (λ i. rounded_quotient (crossing_height v e.0 e.1 f.0 f.1 i) (turns_differ e.0 e.1 f.0 f.1 i))
    ∙ quotient_flip ((height v f.0 *ℤ (s -ℤ t)) +ℤ ((height v f.1 -ℤ height v f.0) *ℤ s)) (s -ℤ t) (parted s t h.second_parted) in
    record {
      height_of = crossing_at (height v e.0) (height v e.1) (turn f.0 f.1 e.0) (turn f.0 f.1 e.0 -ℤ turn f.0 f.1 e.1);
      first = crossing_between (height v e.0) (height v e.1) (turn f.0 f.1 e.0) (turn f.0 f.1 e.1) h.first_parted;
      second = subst (λ (z : ℤ). IsBetween (height v f.0) z (height v f.1)) (sym same) (crossing_between (height v f.0) (height v f.1) s t h.second_parted);
    }

shared : (v : ℤ × ℤ) {e f : Edge} {c : Point} → Meets e f c → Shared v e f
shared v {e} {f} (at_start_of_second h) = record { height_of = height v f.0; first = inside_between v e f.0 h; second = between_start (height v f.0) (height v f.1) }
shared v {e} {f} (at_end_of_second h) = record { height_of = height v f.1; first = inside_between v e f.1 h; second = between_end (height v f.0) (height v f.1) }
shared v {e} {f} (at_start_of_first h) = record { height_of = height v e.0; first = between_start (height v e.0) (height v e.1); second = inside_between v f e.0 h }
shared v {e} {f} (at_end_of_first h) = record { height_of = height v e.1; first = between_end (height v e.0) (height v e.1); second = inside_between v f e.1 h }
shared v {e} {f} (at_crossing h) = crossing_shared v e f h

-- ---- sides of cuts

-- where a number lies on a side of a limit, so does one of two numbers around it
in_range : (a z b at : ℤ) → IsBetween a z b → cond (int_lt z at) (int_lt a at || int_lt b at) (not (int_lt a at) || not (int_lt b at)) ≡ true
in_range a z b at h =
    ⊎_elim
    (λ (l : a ≤ℤ b). ordered a z b at (h.up l).0 (h.up l).1)
    (λ (l : b ≤ℤ a). swapped (int_lt a at) (int_lt b at) (int_lt z at) (ordered b z a at (h.down l).0 (h.down l).1))
    (either_order a b)
  where
    ordered : (a z b at : ℤ) → a ≤ℤ z → z ≤ℤ b → cond (int_lt z at) (int_lt a at || int_lt b at) (not (int_lt a at) || not (int_lt b at)) ≡ true
    ordered a z b at h k = grind (arith, ints)

    swapped : (p q r : Bool) → cond r (q || p) (not q || not p) ≡ true → cond r (p || q) (not p || not q) ≡ true
    swapped true true r h = h
    swapped true false true h = refl
    swapped true false false h = refl
    swapped false true true h = refl
    swapped false true false h = refl
    swapped false false r h = h

-- a cell that two segments reach
pub record Reached (e f : Edge) : Type 0 where
  pub cell : Cell
  pub first : IsAt e cell
  pub second : IsAt f cell

pub cell_met : {e f : Edge} {c : Point} → Meets e f c → Reached e f
cell_met {e} {f} m = record {
  cell = λ (cut : Cut). int_lt (shared cut.across m).height_of cut.at;
  first = λ (cut : Cut). in_range (height cut.across e.0) (shared cut.across m).height_of (height cut.across e.1) cut.at (shared cut.across m).first;
  second = λ (cut : Cut). in_range (height cut.across f.0) (shared cut.across m).height_of (height cut.across f.1) cut.at (shared cut.across m).second;
}
