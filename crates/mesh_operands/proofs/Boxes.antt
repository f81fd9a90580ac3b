-- Lemmas over points and lists: of contours in boxes that lie apart, the one or the other winds round no point.
use Rattle.std.proofs.Common.{◌≡◌, ◌⊎◌, inl, inr, ℕ, ◌<◌, List, [], ◌∷◌, refl, ◌∙◌, arith}
use Rattle.std.specs.Prelude.{ℤ, pos, negsuc, ◌+ℤ◌, ◌*ℤ◌, ◌≤ℤ◌, ◌<ℤ◌, neg_ℤ}
use Rattle.std.specs.List.{All, flat_map}
use Rattle.std.proofs.lemmas.Int.{ints, by_lt_z}
use Rattle.std.proofs.lemmas.List.Elements.{All-weaker}
use Rattle.mesh_plane.specs.Plane.{Point, Edge}
use Rattle.mesh_plane.specs.Winding.{boundary, crossing_on, refined, winding}
use Rattle.mesh_plane.proofs.ClosedLists.{all_left, all_right}
use Rattle.mesh_plane.proofs.HalfPlanes.{along_by, closed_before}
use Rattle.mesh_plane.proofs.Ring.{ring, var, neg, ◌⊕◌, ◌⊗◌}
use Rattle.mesh_plane.proofs.Sums.{total_append}
use Rattle.mesh_plane.proofs.Whole.{linear, mul_le_mul_left, mul_lt_mul_left}
use Rattle.mesh_num.specs.Rectangle.{IsInRectangle}

-- the points of contours
abbrev points_in : List (List Point) → List Point
points_in contours = flat_map (λ contour. contour) contours

-- contours on one side of a line wind round no point beyond it
before_line : (u v : ℤ) (m : ℕ) (q : Point) (contours : List (List Point)) → All (λ (p : Point). along_by u v (refined m p) <ℤ along_by u v q) (points_in contours) →
    winding m q (flat_map boundary contours) ≡ pos 0
before_line u v m q [] before = refl
before_line u v m q (contour ∷ contours) before =
    total_append (crossing_on m q) (boundary contour) (flat_map boundary contours)
    ∙ (λ i. closed_before u v m q contour (all_left (λ (p : Point). along_by u v (refined m p) <ℤ along_by u v q) contour (points_in contours) before) i
    +ℤ before_line u v m q contours (all_right (λ (p : Point). along_by u v (refined m p) <ℤ along_by u v q) contour (points_in contours) before) i)

along_refined : (u v : ℤ) (m : ℕ) (p : Point) → along_by u v (refined m p) ≡ pos m *ℤ along_by u v p
along_refined u v m p =
    ring (pos m ∷ u ∷ v ∷ p.0 ∷ p.1 ∷ []) ((var 1 ⊗ (var 0 ⊗ var 3)) ⊕ (var 2 ⊗ (var 0 ⊗ var 4))) (var 0 ⊗ ((var 1 ⊗ var 3) ⊕ (var 2 ⊗ var 4))) refl

along_back : (u v : ℤ) (p : Point) → along_by (neg_ℤ u) (neg_ℤ v) p ≡ neg_ℤ (along_by u v p)
along_back u v p = ring (u ∷ v ∷ p.0 ∷ p.1 ∷ []) ((neg (var 0) ⊗ var 2) ⊕ (neg (var 1) ⊗ var 3)) (neg ((var 0 ⊗ var 2) ⊕ (var 1 ⊗ var 3))) refl

module _ (m : ℕ) (some : 0 < m) (q : Point) (first second : List (List Point)) where
  -- where a line lies between them
  between : (u v bound : ℤ) → All (λ (p : Point). along_by u v p ≤ℤ bound) (points_in first) → All (λ (p : Point). bound <ℤ along_by u v p) (points_in second) →
      (winding m q (flat_map boundary first) ≡ pos 0) ⊎ (winding m q (flat_map boundary second) ≡ pos 0)
  between u v bound before past =
      by_lt_z (pos m *ℤ bound) (along_by u v q)
      (λ (beyond : (pos m *ℤ bound) <ℤ along_by u v q).
      inl (before_line u v m q first
      (All-weaker (λ (p : Point). along_by u v p ≤ℤ bound) (λ (p : Point). along_by u v (refined m p) <ℤ along_by u v q)
      (λ p low.
      let finer = along_refined u v m p in
      let le = mul_le_mul_left (pos m) (along_by u v p) bound (omega (arith, ints)) low in
      omega (arith, linear, finer, le, beyond)) (points_in first) before)))
      (λ (short : along_by u v q ≤ℤ (pos m *ℤ bound)).
      inr (before_line (neg_ℤ u) (neg_ℤ v) m q second
      (All-weaker (λ (p : Point). bound <ℤ along_by u v p) (λ (p : Point). along_by (neg_ℤ u) (neg_ℤ v) (refined m p) <ℤ along_by (neg_ℤ u) (neg_ℤ v) q)
      (λ p high.
      let finer = along_refined u v m p in
      let back = along_back u v (refined m p) in
      let here = along_back u v q in
      let less = mul_lt_mul_left (pos m) bound (along_by u v p) (omega (arith, ints)) high in
      omega (arith, linear, finer, back, here, less, short)) (points_in second) past)))

  -- in boxes that have no point in common
  pub one_winds_not : (b c : Edge) → All (λ p. IsInRectangle b p) (points_in first) → All (λ p. IsInRectangle c p) (points_in second) →
      ((b.1.0 <ℤ c.0.0) ⊎ (c.1.0 <ℤ b.0.0)) ⊎ ((b.1.1 <ℤ c.0.1) ⊎ (c.1.1 <ℤ b.0.1)) →
      (winding m q (flat_map boundary first) ≡ pos 0) ⊎ (winding m q (flat_map boundary second) ≡ pos 0)
  one_winds_not b c inside other (inl (inl west)) =
      between (pos 1) (pos 0) b.1.0
      (All-weaker (λ p. IsInRectangle b p) (λ (p : Point). along_by (pos 1) (pos 0) p ≤ℤ b.1.0) (λ p i. let e = i.east in omega (arith, ints, e)) (points_in first) inside)
      (All-weaker (λ p. IsInRectangle c p) (λ (p : Point). b.1.0 <ℤ along_by (pos 1) (pos 0) p) (λ p i. let e = i.west in omega (arith, ints, e, west)) (points_in second) other)
  one_winds_not b c inside other (inl (inr east)) =
      between (negsuc 0) (pos 0) (neg_ℤ b.0.0)
      (All-weaker (λ p. IsInRectangle b p) (λ (p : Point). along_by (negsuc 0) (pos 0) p ≤ℤ neg_ℤ b.0.0) (λ p i. let e = i.west in omega (arith, ints, e)) (points_in first) inside)
      (All-weaker (λ p. IsInRectangle c p) (λ (p : Point). neg_ℤ b.0.0 <ℤ along_by (negsuc 0) (pos 0) p) (λ p i. let e = i.east in omega (arith, ints, e, east)) (points_in second) other)
  one_winds_not b c inside other (inr (inl south)) =
      between (pos 0) (pos 1) b.1.1
      (All-weaker (λ p. IsInRectangle b p) (λ (p : Point). along_by (pos 0) (pos 1) p ≤ℤ b.1.1) (λ p i. let e = i.north in omega (arith, ints, e)) (points_in first) inside)
      (All-weaker (λ p. IsInRectangle c p) (λ (p : Point). b.1.1 <ℤ along_by (pos 0) (pos 1) p) (λ p i. let e = i.south in omega (arith, ints, e, south)) (points_in second) other)
  one_winds_not b c inside other (inr (inr north)) =
      between (pos 0) (negsuc 0) (neg_ℤ b.0.1)
      (All-weaker (λ p. IsInRectangle b p) (λ (p : Point). along_by (pos 0) (negsuc 0) p ≤ℤ neg_ℤ b.0.1) (λ p i. let e = i.south in omega (arith, ints, e)) (points_in first) inside)
      (All-weaker (λ p. IsInRectangle c p) (λ (p : Point). neg_ℤ b.0.1 <ℤ along_by (pos 0) (negsuc 0) p) (λ p i. let e = i.north in omega (arith, ints, e, north)) (points_in second) other)
