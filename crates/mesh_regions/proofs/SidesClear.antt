-- Lemmas over points and lists: segments that share only ends keep clear of one another's insides.
use Rattle.std.proofs.Common.{◌≡◌, ℕ, ◌<◌, ◌⊎◌, inl, inr, ⊎_elim, true, false, List, [], ◌∷◌, refl, sym, ap, subst, arith}
use Rattle.std.specs.Prelude.{ℤ, pos, negsuc, neg_ℤ, ◌+ℤ◌, ◌-ℤ◌, ◌*ℤ◌, ◌≤ℤ◌, ◌<ℤ◌}
use Rattle.std.proofs.lemmas.Bool.{cases_Bool}
use Rattle.std.proofs.lemmas.Int.{ints, by_lt_z}
use Rattle.mesh_plane.specs.Plane.{Point, Edge, turn}
use Rattle.mesh_plane.proofs.Whole.{linear, factor, mul_nonneg, mul_nonneg_nonpos, le_of_mul_le_mul}
use Rattle.mesh_plane.proofs.Ring.{ring, var, lit, neg, ◌⊕◌, ◌⊖◌, ◌⊗◌}
use Rattle.mesh_plane.proofs.Crossings.{turn_flip}
use Rattle.mesh_lattice.specs.Clean.{IsOn, refined_edge, IsClean, IsProper}
use Rattle.mesh_lattice.specs.Split.{back, same_ends, occurs, IsBetween}
use Rattle.mesh_lattice.proofs.Ends.{decides_ends, decides_end}
use Rattle.mesh_plane.proofs.PointExprs.{point_var, coordinates, turned, scaled_point_expr}
use Rattle.mesh_plane.proofs.Grids.{scale, part}
use Rattle.mesh_regions.proofs.SidesConstant.{Clear, on_left, on_right, ahead, behind, on_one_line, ClearOf}
use Rattle.mesh_lattice.proofs.Each.{Each}
use Rattle.mesh_lattice.proofs.Each.{each_of, proper_of}
use Rattle.mesh_plane.proofs.LineTurns.{line_turn}
use Rattle.mesh_lattice.proofs.Boxes.{turn_start, turn_end, on_back}

-- ---- a number above 0 is a natural one

pub record Natural (m : ℤ) : Type 0 where
  pub size : ℕ
  pub above_none : 0 < size
  pub same : m ≡ pos size

pub natural : (m : ℤ) → pos 0 <ℤ m → Natural m
natural (pos n) h = record { size = n; above_none = omega (arith, ints); same = refl }
natural (negsuc n) h = absurd (omega (arith, ints))

-- ---- a part of a segment stands on it

between_part : (m t a b : ℤ) → pos 0 <ℤ m → pos 0 ≤ℤ t → t ≤ℤ m → IsBetween (m *ℤ a) ((m *ℤ a) +ℤ (t *ℤ (b -ℤ a))) (m *ℤ b)
between_part m t a b some low high =
    let rest : (m *ℤ b) -ℤ ((m *ℤ a) +ℤ (t *ℤ (b -ℤ a))) ≡ (m -ℤ t) *ℤ (b -ℤ a) =
    ring (m ∷ t ∷ a ∷ b ∷ []) ((var 0 ⊗ var 3) ⊖ ((var 0 ⊗ var 2) ⊕ (var 1 ⊗ (var 3 ⊖ var 2)))) ((var 0 ⊖ var 1) ⊗ (var 3 ⊖ var 2)) refl in
    record {
      up = λ (h : (m *ℤ a) ≤ℤ (m *ℤ b)).
          (let e : a ≤ℤ b = le_of_mul_le_mul m a b some h in
          let x : pos 0 ≤ℤ (t *ℤ (b -ℤ a)) = mul_nonneg t (b -ℤ a) low (omega (arith, linear)) in
          let y : pos 0 ≤ℤ ((m -ℤ t) *ℤ (b -ℤ a)) = mul_nonneg (m -ℤ t) (b -ℤ a) (omega (arith, linear)) (omega (arith, linear)) in
          let u : (m *ℤ a) ≤ℤ ((m *ℤ a) +ℤ (t *ℤ (b -ℤ a))) = omega (arith, linear) in
          let v : ((m *ℤ a) +ℤ (t *ℤ (b -ℤ a))) ≤ℤ (m *ℤ b) = omega (arith, linear) in
          (u, v));
      down = λ (h : (m *ℤ b) ≤ℤ (m *ℤ a)).
          (let e : b ≤ℤ a = le_of_mul_le_mul m b a some h in
          let x : (t *ℤ (b -ℤ a)) ≤ℤ pos 0 = mul_nonneg_nonpos t (b -ℤ a) low (omega (arith, linear)) in
          let y : ((m -ℤ t) *ℤ (b -ℤ a)) ≤ℤ pos 0 = mul_nonneg_nonpos (m -ℤ t) (b -ℤ a) (omega (arith, linear)) (omega (arith, linear)) in
          let u : (m *ℤ b) ≤ℤ ((m *ℤ a) +ℤ (t *ℤ (b -ℤ a))) = omega (arith, linear) in
          let v : ((m *ℤ a) +ℤ (t *ℤ (b -ℤ a))) ≤ℤ (m *ℤ a) = omega (arith, linear) in
          (u, v));
    }

pub on_part : (m t : ℤ) (a b : Point) → pos 0 <ℤ m → pos 0 ≤ℤ t → t ≤ℤ m → IsOn (scale m a, scale m b) (part m t a b)
on_part m t a b some low high = record {
  on_line =
      ring (coordinates (a ∷ b ∷ []) (m ∷ t ∷ []))
      (turned (scaled_point_expr (var 4) (point_var 0)) (scaled_point_expr (var 4) (point_var 1))
      ((var 4 ⊗ var 0) ⊕ (var 5 ⊗ (var 2 ⊖ var 0)), (var 4 ⊗ var 1) ⊕ (var 5 ⊗ (var 3 ⊖ var 1))))
      (lit (pos 0)) refl;
  in_box = record { by_x = between_part m t a.0 b.0 some low high; by_y = between_part m t a.1 b.1 some low high };
}

-- an inner part is an end only where the ends are one point
inner_same : (m t a b : ℤ) → pos 0 <ℤ t → (m *ℤ a) +ℤ (t *ℤ (b -ℤ a)) ≡ m *ℤ a → a ≡ b
inner_same m t a b low e =
    ⊎_elim (λ (h : t ≡ pos 0). absurd (omega (arith, ints))) (λ (h : b -ℤ a ≡ pos 0). omega (arith, ints)) (factor t (b -ℤ a) (omega (arith, linear)))

inner_same_last : (m t a b : ℤ) → t <ℤ m → (m *ℤ a) +ℤ (t *ℤ (b -ℤ a)) ≡ m *ℤ b → a ≡ b
inner_same_last m t a b high e =
    let rest : (m *ℤ b) -ℤ ((m *ℤ a) +ℤ (t *ℤ (b -ℤ a))) ≡ (m -ℤ t) *ℤ (b -ℤ a) =
    ring (m ∷ t ∷ a ∷ b ∷ []) ((var 0 ⊗ var 3) ⊖ ((var 0 ⊗ var 2) ⊕ (var 1 ⊗ (var 3 ⊖ var 2)))) ((var 0 ⊖ var 1) ⊗ (var 3 ⊖ var 2)) refl in
    ⊎_elim (λ (h : m -ℤ t ≡ pos 0). absurd (omega (arith, ints))) (λ (h : b -ℤ a ≡ pos 0). omega (arith, ints)) (factor (m -ℤ t) (b -ℤ a) (omega (arith, linear)))

pub inner_no_end : (m t : ℤ) (a b : Point) → pos 0 <ℤ t → t <ℤ m → (part m t a b ≡ scale m a) ⊎ (part m t a b ≡ scale m b) → a ≡ b
inner_no_end m t a b low high (inl e) =
    let x : a.0 ≡ b.0 = inner_same m t a.0 b.0 low (ap (λ (v : Point). v.0) e) in
    let y : a.1 ≡ b.1 = inner_same m t a.1 b.1 low (ap (λ (v : Point). v.1) e) in
    λ i. (x i, y i)
inner_no_end m t a b low high (inr e) =
    let x : a.0 ≡ b.0 = inner_same_last m t a.0 b.0 high (ap (λ (v : Point). v.0) e) in
    let y : a.1 ≡ b.1 = inner_same_last m t a.1 b.1 high (ap (λ (v : Point). v.1) e) in
    λ i. (x i, y i)

-- ---- identities of the four turns of two edges

pub four_turns : (a b p r : Point) → turn p r a -ℤ turn p r b ≡ turn a b r -ℤ turn a b p
four_turns a b p r =
    ring (coordinates (a ∷ b ∷ p ∷ r ∷ []) [])
    (turned (point_var 2) (point_var 3) (point_var 0) ⊖ turned (point_var 2) (point_var 3) (point_var 1))
    (turned (point_var 0) (point_var 1) (point_var 3) ⊖ turned (point_var 0) (point_var 1) (point_var 2))
    refl

-- where two edges cross, as a part of either
common : (a b p r : Point) →
    part (turn p r a -ℤ turn p r b) (turn p r a) a b ≡ part (turn p r a -ℤ turn p r b) (neg_ℤ (turn a b p)) p r
common a b p r =
    let d = turned (point_var 2) (point_var 3) (point_var 0) ⊖ turned (point_var 2) (point_var 3) (point_var 1) in
    let x : (part (turn p r a -ℤ turn p r b) (turn p r a) a b).0 ≡ (part (turn p r a -ℤ turn p r b) (neg_ℤ (turn a b p)) p r).0 =
    ring (coordinates (a ∷ b ∷ p ∷ r ∷ []) [])
    (((turned (point_var 2) (point_var 3) (point_var 0) ⊖ turned (point_var 2) (point_var 3) (point_var 1)) ⊗ var 0) ⊕ (turned (point_var 2) (point_var 3) (point_var 0) ⊗ (var 2 ⊖ var 0)))
    (((turned (point_var 2) (point_var 3) (point_var 0) ⊖ turned (point_var 2) (point_var 3) (point_var 1)) ⊗ var 4) ⊕ (neg (turned (point_var 0) (point_var 1) (point_var 2)) ⊗ (var 6 ⊖ var 4)))
    refl in
    let y : (part (turn p r a -ℤ turn p r b) (turn p r a) a b).1 ≡ (part (turn p r a -ℤ turn p r b) (neg_ℤ (turn a b p)) p r).1 =
    ring (coordinates (a ∷ b ∷ p ∷ r ∷ []) [])
    (((turned (point_var 2) (point_var 3) (point_var 0) ⊖ turned (point_var 2) (point_var 3) (point_var 1)) ⊗ var 1) ⊕ (turned (point_var 2) (point_var 3) (point_var 0) ⊗ (var 3 ⊖ var 1)))
    (((turned (point_var 2) (point_var 3) (point_var 0) ⊖ turned (point_var 2) (point_var 3) (point_var 1)) ⊗ var 5) ⊕ (neg (turned (point_var 0) (point_var 1) (point_var 2)) ⊗ (var 7 ⊖ var 5)))
    refl in
    λ i. (x i, y i)

-- ---- clear of each other

-- on every grid, a point on both segments is an end of the first
pub record Meeting (a b p r : Point) : Type 0 where
  pub at_end : (m : ℤ) → pos 0 <ℤ m → (z : Point) → IsOn (scale m a, scale m b) z → IsOn (scale m p, scale m r) z
      → (z ≡ scale m a) ⊎ (z ≡ scale m b)

pub meeting_back : (a b p r : Point) → Meeting a b p r → Meeting a b r p
meeting_back a b p r h = record {
  at_end = λ (m : ℤ) (some : pos 0 <ℤ m) (z : Point) (x : IsOn (scale m a, scale m b) z) (y : IsOn (scale m r, scale m p) z).
      h.at_end m some z x (on_back (scale m r, scale m p) z y);
}

clear_back : (a b p r : Point) → Clear a b r p → Clear a b p r
clear_back a b p r (on_left x y) = on_left y x
clear_back a b p r (on_right x y) = on_right y x
clear_back a b p r (ahead x y some) = behind (omega (arith, linear, turn_flip p r a)) (omega (arith, linear, turn_flip p r b)) (omega (arith, linear, turn_flip p r a, turn_flip p r b))
clear_back a b p r (behind x y some) = ahead (omega (arith, linear, turn_flip p r a)) (omega (arith, linear, turn_flip p r b)) (omega (arith, linear, turn_flip p r a, turn_flip p r b))
clear_back a b p r (on_one_line x y u v) = on_one_line y x (omega (arith, linear, turn_flip p r a)) (omega (arith, linear, turn_flip p r b))

no_crossing : (a b p r : Point) → (a ≡ b → ⊥) → Meeting a b p r → pos 0 <ℤ turn p r a → turn p r b <ℤ pos 0 → turn a b p ≤ℤ pos 0 → pos 0 ≤ℤ turn a b r → ⊥
no_crossing a b p r differ meet s3 s4 s1 s2 =
    let d : ℤ = turn p r a -ℤ turn p r b in
    let low : pos 0 <ℤ turn p r a = s3 in
    let high : turn p r a <ℤ d = omega (arith, linear) in
    let some : pos 0 <ℤ d = omega (arith, linear) in
    let second : IsOn (scale d p, scale d r) (part d (turn p r a) a b) =
    subst (λ (z : Point). IsOn (scale d p, scale d r) z) (sym (common a b p r))
    (on_part d (neg_ℤ (turn a b p)) p r some (omega (arith, linear)) (omega (arith, linear, four_turns a b p r))) in
    differ (inner_no_end d (turn p r a) a b low high
    (meet.at_end d some (part d (turn p r a) a b) (on_part d (turn p r a) a b some (omega (arith, linear)) (omega (arith, linear))) second))

clear_crossed : (a b p r : Point) → (a ≡ b → ⊥) → Meeting a b p r → pos 0 <ℤ turn p r a → turn p r b <ℤ pos 0 → Clear a b p r
clear_crossed a b p r differ meet s3 s4 =
    by_lt_z (pos 0) (turn a b p)
    (λ (h : pos 0 <ℤ turn a b p). on_left h (omega (arith, linear, four_turns a b p r)))
    (λ (h : turn a b p ≤ℤ pos 0).
    by_lt_z (turn a b r) (pos 0)
    (λ (k : turn a b r <ℤ pos 0). on_right (omega (arith, linear, four_turns a b p r)) k)
    (λ (k : pos 0 ≤ℤ turn a b r). absurd (no_crossing a b p r differ meet s3 s4 h k)))

clear_line : (a b p r : Point) → (p ≡ r → ⊥) → turn p r a ≡ pos 0 → turn p r b ≡ pos 0 → Clear a b p r
clear_line a b p r apart ea eb =
    let first : turn a b p ≡ pos 0 = line_turn a b p r apart ea eb in
    on_one_line first (omega (arith, linear, four_turns a b p r)) ea eb

pub clear_of : (a b p r : Point) → (a ≡ b → ⊥) → (p ≡ r → ⊥) → Meeting a b p r → Clear a b p r
clear_of a b p r differ apart meet =
    by_lt_z (pos 0) (turn p r a)
    (λ (h : pos 0 <ℤ turn p r a).
    by_lt_z (turn p r b) (pos 0)
    (λ (k : turn p r b <ℤ pos 0). clear_crossed a b p r differ meet h k)
    (λ (k : pos 0 ≤ℤ turn p r b). ahead (omega (arith, linear)) k (omega (arith, linear))))
    (λ (h : turn p r a ≤ℤ pos 0).
    by_lt_z (turn p r a) (pos 0)
    (λ (h' : turn p r a <ℤ pos 0).
    by_lt_z (pos 0) (turn p r b)
    (λ (k : pos 0 <ℤ turn p r b).
    clear_back a b p r
    (clear_crossed a b r p differ (meeting_back a b p r meet) (omega (arith, linear, turn_flip p r a)) (omega (arith, linear, turn_flip p r b))))
    (λ (k : turn p r b ≤ℤ pos 0). behind h k (omega (arith, linear))))
    (λ (h' : pos 0 ≤ℤ turn p r a).
    by_lt_z (pos 0) (turn p r b)
    (λ (k : pos 0 <ℤ turn p r b). ahead h' (omega (arith, linear)) (omega (arith, linear)))
    (λ (k : turn p r b ≤ℤ pos 0).
    by_lt_z (turn p r b) (pos 0)
    (λ (k' : turn p r b <ℤ pos 0). behind h k (omega (arith, linear)))
    (λ (k' : pos 0 ≤ℤ turn p r b). clear_line a b p r apart (omega (arith, linear)) (omega (arith, linear))))))

-- ---- over a clean list

pub meeting_of : (es : List Edge) → IsClean es → (s e : Edge) → occurs s es ≡ true → occurs e es ≡ true → same_ends s e ≡ false → Meeting s.0 s.1 e.0 e.1
meeting_of es clean s e hs he differ = record {
  at_end = λ (m : ℤ) (some : pos 0 <ℤ m) (z : Point) (x : IsOn (scale m s.0, scale m s.1) z) (y : IsOn (scale m e.0, scale m e.1) z).
      (let n = natural m some in
      let on_first : IsOn (refined_edge n.size s) z = subst (λ (k : ℤ). IsOn (scale k s.0, scale k s.1) z) n.same x in
      let on_second : IsOn (refined_edge n.size e) z = subst (λ (k : ℤ). IsOn (scale k e.0, scale k e.1) z) n.same y in
      let ends = (clean s e hs he differ n.size n.above_none).shared z on_first on_second in
      subst (λ (k : ℤ). (z ≡ scale k s.0) ⊎ (z ≡ scale k s.1)) (sym n.same) ((decides_end z (refined_edge n.size s)).0 ends.0));
}

pub clear_pair : (es : List Edge) → IsClean es → IsProper es → (s e : Edge) → occurs s es ≡ true → occurs e es ≡ true → Clear s.0 s.1 e.0 e.1
clear_pair es clean proper s e hs he =
    ⊎_elim
    (λ (t : same_ends s e ≡ true).
    ⊎_elim
    (λ (x : s ≡ e). subst (λ (f : Edge). Clear s.0 s.1 f.0 f.1) x (on_one_line (turn_start s.0 s.1) (turn_end s.0 s.1) (turn_start s.0 s.1) (turn_end s.0 s.1)))
    (λ (x : s ≡ back e).
    subst (λ (f : Edge). Clear f.0 f.1 e.0 e.1) (sym x) (on_one_line (turn_end e.1 e.0) (turn_start e.1 e.0) (turn_end e.0 e.1) (turn_start e.0 e.1)))
    ((decides_ends s e).0 t))
    (λ (f : same_ends s e ≡ false). clear_of s.0 s.1 e.0 e.1 (proper_of es proper s hs) (proper_of es proper e he) (meeting_of es clean s e hs he f))
    (cases_Bool (same_ends s e))

pub clear_all : (es : List Edge) → IsClean es → IsProper es → (s : Edge) → occurs s es ≡ true → Each (ClearOf s.0 s.1) es
clear_all es clean proper s hs = each_of (ClearOf s.0 s.1) es (λ (e : Edge) (he : occurs e es ≡ true). clear_pair es clean proper s e hs he)
