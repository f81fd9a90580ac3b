-- Lemmas over points: the points of an edge are the weighed means of its ends.
use Rattle.std.proofs.Common.{◌≡◌, ⊎_elim, [], ◌∷◌, refl, ◌∙◌, arith}
use Rattle.std.specs.Prelude.{ℤ, pos, negsuc, ◌+ℤ◌, ◌-ℤ◌, ◌*ℤ◌, ◌≤ℤ◌, ◌<ℤ◌}
use Rattle.std.proofs.lemmas.Int.{ints, by_lt_z}
use Rattle.mesh_plane.specs.Plane.{Point, turn}
use Rattle.mesh_plane.proofs.PointExprs.{point_var, coordinates, turned}
use Rattle.mesh_plane.proofs.Ring.{ring, var, ◌⊕◌, ◌⊖◌, ◌⊗◌}
use Rattle.mesh_plane.proofs.Whole.{linear, factor, times_zero, add_mul, mul_le_mul_left, le_of_mul_le_mul}
use Rattle.mesh_lattice.specs.Clean.{IsOn}
use Rattle.mesh_lattice.specs.Split.{IsBetween}

-- `z` is the mean of `a` and `b` by weights that are not below 0, nor both 0
pub record IsMean (a b z : Point) : Type 0 where
  pub first : ℤ
  pub second : ℤ
  pub first_least : pos 0 ≤ℤ first
  pub second_least : pos 0 ≤ℤ second
  pub some : pos 0 <ℤ (first +ℤ second)
  pub by_x : (first +ℤ second) *ℤ z.0 ≡ (first *ℤ a.0) +ℤ (second *ℤ b.0)
  pub by_y : (first +ℤ second) *ℤ z.1 ≡ (first *ℤ a.1) +ℤ (second *ℤ b.1)

-- a number between two others, and the way from the one to the other
record IsOnWay (a z b : ℤ) : Type 0 where
  sign : ℤ
  past : pos 0 ≤ℤ (sign *ℤ (z -ℤ a))
  left : pos 0 ≤ℤ (sign *ℤ (b -ℤ z))
  none : sign *ℤ (z -ℤ a) ≡ pos 0 → z ≡ a

on_way : (a z b : ℤ) → IsBetween a z b → IsOnWay a z b
on_way a z b h =
    by_lt_z b a
    (λ (o : b <ℤ a). let w = h.down (omega (arith, linear)) in record {
      sign = negsuc 0;
      past = omega (arith, ints, w.1);
      left = omega (arith, ints, w.0);
      none = λ (e : negsuc 0 *ℤ (z -ℤ a) ≡ pos 0). omega (arith, ints, e);
    })
    (λ (o : a ≤ℤ b). let w = h.up o in record {
      sign = pos 1;
      past = omega (arith, ints, w.0);
      left = omega (arith, ints, w.1);
      none = λ (e : pos 1 *ℤ (z -ℤ a) ≡ pos 0). omega (arith, ints, e);
    })

mean_x : (a b z : Point) (s t : ℤ) →
    (((s *ℤ (b.0 -ℤ z.0)) +ℤ (t *ℤ (b.1 -ℤ z.1))) +ℤ ((s *ℤ (z.0 -ℤ a.0)) +ℤ (t *ℤ (z.1 -ℤ a.1)))) *ℤ z.0
    ≡ ((((s *ℤ (b.0 -ℤ z.0)) +ℤ (t *ℤ (b.1 -ℤ z.1))) *ℤ a.0) +ℤ (((s *ℤ (z.0 -ℤ a.0)) +ℤ (t *ℤ (z.1 -ℤ a.1))) *ℤ b.0)) -ℤ (t *ℤ turn a b z)
mean_x a b z s t =
    let left = (var 6 ⊗ (var 2 ⊖ var 4)) ⊕ (var 7 ⊗ (var 3 ⊖ var 5)) in
    let past = (var 6 ⊗ (var 4 ⊖ var 0)) ⊕ (var 7 ⊗ (var 5 ⊖ var 1)) in
    ring (coordinates (a ∷ b ∷ z ∷ []) (s ∷ t ∷ []))
    ((left ⊕ past) ⊗ var 4)
    (((left ⊗ var 0) ⊕ (past ⊗ var 2)) ⊖ (var 7 ⊗ turned (point_var 0) (point_var 1) (point_var 2)))
    refl

mean_y : (a b z : Point) (s t : ℤ) →
    (((s *ℤ (b.0 -ℤ z.0)) +ℤ (t *ℤ (b.1 -ℤ z.1))) +ℤ ((s *ℤ (z.0 -ℤ a.0)) +ℤ (t *ℤ (z.1 -ℤ a.1)))) *ℤ z.1
    ≡ ((((s *ℤ (b.0 -ℤ z.0)) +ℤ (t *ℤ (b.1 -ℤ z.1))) *ℤ a.1) +ℤ (((s *ℤ (z.0 -ℤ a.0)) +ℤ (t *ℤ (z.1 -ℤ a.1))) *ℤ b.1)) +ℤ (s *ℤ turn a b z)
mean_y a b z s t =
    let left = (var 6 ⊗ (var 2 ⊖ var 4)) ⊕ (var 7 ⊗ (var 3 ⊖ var 5)) in
    let past = (var 6 ⊗ (var 4 ⊖ var 0)) ⊕ (var 7 ⊗ (var 5 ⊖ var 1)) in
    ring (coordinates (a ∷ b ∷ z ∷ []) (s ∷ t ∷ []))
    ((left ⊕ past) ⊗ var 5)
    (((left ⊗ var 1) ⊕ (past ⊗ var 3)) ⊕ (var 6 ⊗ turned (point_var 0) (point_var 1) (point_var 2)))
    refl

-- a point of an edge is a mean of the ends
pub mean_of_on : (a b z : Point) → IsOn (a, b) z → IsMean a b z
mean_of_on a b z h =
    by_lt_z (pos 0) (first +ℤ second)
    (λ (some : pos 0 <ℤ (first +ℤ second)). record {
      first = first;
      second = second;
      first_least = omega (arith, linear, x.left, y.left);
      second_least = omega (arith, linear, x.past, y.past);
      some = some;
      by_x = omega (arith, linear, mean_x a b z x.sign y.sign, times_zero y.sign (turn a b z) h.on_line);
      by_y = omega (arith, linear, mean_y a b z x.sign y.sign, times_zero x.sign (turn a b z) h.on_line);
    })
    (λ (none : (first +ℤ second) ≤ℤ pos 0).
    let at_x : z.0 ≡ a.0 = x.none (omega (arith, linear, x.left, y.left, x.past, y.past)) in
    let at_y : z.1 ≡ a.1 = y.none (omega (arith, linear, x.left, y.left, x.past, y.past)) in
    record {
      first = pos 1;
      second = pos 0;
      first_least = omega (arith, ints);
      second_least = omega (arith, ints);
      some = omega (arith, ints);
      by_x = omega (arith, ints, at_x);
      by_y = omega (arith, ints, at_y);
    })
  where
    x : IsOnWay a.0 z.0 b.0
    x = on_way a.0 z.0 b.0 h.in_box.by_x

    y : IsOnWay a.1 z.1 b.1
    y = on_way a.1 z.1 b.1 h.in_box.by_y

    first : ℤ
    first = (x.sign *ℤ (b.0 -ℤ z.0)) +ℤ (y.sign *ℤ (b.1 -ℤ z.1))

    second : ℤ
    second = (x.sign *ℤ (z.0 -ℤ a.0)) +ℤ (y.sign *ℤ (z.1 -ℤ a.1))

-- and each mean is a point of the edge
mean_turn : (a b z : Point) (s t : ℤ) →
    (s +ℤ t) *ℤ turn a b z
    ≡ ((b.0 -ℤ a.0) *ℤ (((s +ℤ t) *ℤ z.1) -ℤ ((s *ℤ a.1) +ℤ (t *ℤ b.1)))) -ℤ ((b.1 -ℤ a.1) *ℤ (((s +ℤ t) *ℤ z.0) -ℤ ((s *ℤ a.0) +ℤ (t *ℤ b.0))))
mean_turn a b z s t =
    ring (coordinates (a ∷ b ∷ z ∷ []) (s ∷ t ∷ []))
    ((var 6 ⊕ var 7) ⊗ turned (point_var 0) (point_var 1) (point_var 2))
    (((var 2 ⊖ var 0) ⊗ (((var 6 ⊕ var 7) ⊗ var 5) ⊖ ((var 6 ⊗ var 1) ⊕ (var 7 ⊗ var 3)))) ⊖ ((var 3 ⊖ var 1) ⊗ (((var 6 ⊕ var 7) ⊗ var 4) ⊖ ((var 6 ⊗ var 0) ⊕ (var 7 ⊗ var 2)))))
    refl

-- a mean is at least a number that neither of the two is below, and at most one that neither is above
pub mean_least : (s t l a b z : ℤ) → pos 0 ≤ℤ s → pos 0 ≤ℤ t → pos 0 <ℤ (s +ℤ t) → (s +ℤ t) *ℤ z ≡ (s *ℤ a) +ℤ (t *ℤ b) → l ≤ℤ a → l ≤ℤ b → l ≤ℤ z
mean_least s t l a b z hs ht some e ha hb =
    le_of_mul_le_mul (s +ℤ t) l z some
    (omega (arith, linear, e, add_mul s t l, mul_le_mul_left s l a hs ha, mul_le_mul_left t l b ht hb))

pub mean_most : (s t l a b z : ℤ) → pos 0 ≤ℤ s → pos 0 ≤ℤ t → pos 0 <ℤ (s +ℤ t) → (s +ℤ t) *ℤ z ≡ (s *ℤ a) +ℤ (t *ℤ b) → a ≤ℤ l → b ≤ℤ l → z ≤ℤ l
mean_most s t l a b z hs ht some e ha hb =
    le_of_mul_le_mul (s +ℤ t) z l some
    (omega (arith, linear, e, add_mul s t l, mul_le_mul_left s a l hs ha, mul_le_mul_left t b l ht hb))

pub on_of_mean : (a b z : Point) → IsMean a b z → IsOn (a, b) z
on_of_mean a b z h = record {
  on_line =
      ⊎_elim (λ (e : h.first +ℤ h.second ≡ pos 0). absurd (omega (arith, linear, e, h.some))) (λ (e : turn a b z ≡ pos 0). e)
      (factor (h.first +ℤ h.second) (turn a b z)
      (mean_turn a b z h.first h.second
      ∙ omega (
        arith,
        linear,
        times_zero (b.0 -ℤ a.0) (((h.first +ℤ h.second) *ℤ z.1) -ℤ ((h.first *ℤ a.1) +ℤ (h.second *ℤ b.1))) (omega (arith, linear, h.by_y)),
        times_zero (b.1 -ℤ a.1) (((h.first +ℤ h.second) *ℤ z.0) -ℤ ((h.first *ℤ a.0) +ℤ (h.second *ℤ b.0))) (omega (arith, linear, h.by_x)),
      )));
  in_box = record { by_x = between a.0 b.0 z.0 h.by_x; by_y = between a.1 b.1 z.1 h.by_y };
}
  where
    between : (p r c : ℤ) → (h.first +ℤ h.second) *ℤ c ≡ (h.first *ℤ p) +ℤ (h.second *ℤ r) → IsBetween p c r
    between p r c e = record {
      up = λ (o : p ≤ℤ r). (
        mean_least h.first h.second p p r c h.first_least h.second_least h.some e (omega (arith, linear)) o,
        mean_most h.first h.second r p r c h.first_least h.second_least h.some e o (omega (arith, linear)),
      );
      down = λ (o : r ≤ℤ p). (
        mean_least h.first h.second r p r c h.first_least h.second_least h.some e o (omega (arith, linear)),
        mean_most h.first h.second p p r c h.first_least h.second_least h.some e (omega (arith, linear)) o,
      );
    }
