-- Lemmas over points: pieces that a line parts are clear of each other, and so are two from one point beside each other.
use Rattle.std.proofs.Common.{◌≡◌, ◌⊎◌, inl, inr, [], ◌∷◌, refl, sym, ◌∙◌, ap, arith}
use Rattle.std.specs.Prelude.{ℤ, pos, ◌+ℤ◌, ◌-ℤ◌, ◌*ℤ◌, ◌≤ℤ◌, ◌<ℤ◌, neg_ℤ}
use Rattle.std.proofs.lemmas.Bool.{both_ways}
use Rattle.mesh_plane.specs.Plane.{Point, Edge, turn}
use Rattle.mesh_plane.proofs.Crossings.{turn_flip}
use Rattle.mesh_plane.proofs.HalfPlanes.{along_by}
use Rattle.mesh_plane.proofs.PointExprs.{point_var, coordinates, turned}
use Rattle.mesh_plane.proofs.Ring.{ring, var, neg, ◌⊕◌, ◌⊖◌, ◌⊗◌}
use Rattle.mesh_plane.proofs.Whole.{linear, add_mul, mul_le_mul_left, mul_one, le_of_mul_le_mul}
use Rattle.mesh_lattice.specs.Split.{AreClear, AreOpposite, IsCrossing, IsInside}
use Rattle.mesh_lattice.proofs.Boxes.{turn_start, turn_end}
use Rattle.mesh_lattice.proofs.Ends.{decides_end}
use Rattle.mesh_lattice.proofs.Means.{IsMean, mean_of_on}
use Rattle.mesh_lattice.proofs.Meeting.{clear_of_tests}
use Rattle.mesh_lattice.proofs.Nearness.{mean_along}

-- ---- heights of means

mean_above : (s t a b z m : ℤ) → pos 0 ≤ℤ s → pos 0 ≤ℤ t → pos 0 <ℤ (s +ℤ t) → (s +ℤ t) *ℤ z ≡ (s *ℤ a) +ℤ (t *ℤ b) → m ≤ℤ a → m ≤ℤ b → m ≤ℤ z
mean_above s t a b z m least_s least_t some mean first second =
    le_of_mul_le_mul (s +ℤ t) m z some
    (omega (arith, linear, mean, add_mul s t m, mul_le_mul_left s m a least_s first, mul_le_mul_left t m b least_t second))

mean_below : (s t a b z m : ℤ) → pos 0 ≤ℤ s → pos 0 ≤ℤ t → pos 0 <ℤ (s +ℤ t) → (s +ℤ t) *ℤ z ≡ (s *ℤ a) +ℤ (t *ℤ b) → a ≤ℤ m → b ≤ℤ m → z ≤ℤ m
mean_below s t a b z m least_s least_t some mean first second =
    le_of_mul_le_mul (s +ℤ t) z m some
    (omega (arith, linear, mean, add_mul s t m, mul_le_mul_left s a m least_s first, mul_le_mul_left t b m least_t second))

mean_inside : (e : Edge) (p : Point) → IsInside e p → IsMean e.0 e.1 p
mean_inside e p h = mean_of_on e.0 e.1 p (record { on_line = h.on_line; in_box = record { by_x = h.in_box.by_x; by_y = h.in_box.by_y } })

-- what lies inside an edge goes no less far than its ends
pub inside_above : (u v m : ℤ) (e : Edge) (p : Point) → IsInside e p → m ≤ℤ along_by u v e.0 → m ≤ℤ along_by u v e.1 → m ≤ℤ along_by u v p
inside_above u v m e p h first second =
    let w : IsMean e.0 e.1 p = mean_inside e p h in
    mean_above w.first w.second (along_by u v e.0) (along_by u v e.1) (along_by u v p) m w.first_least w.second_least w.some
    (mean_along u v w.first w.second e.0 e.1 p w.by_x w.by_y) first second

-- and no farther
pub inside_below : (u v m : ℤ) (e : Edge) (p : Point) → IsInside e p → along_by u v e.0 ≤ℤ m → along_by u v e.1 ≤ℤ m → along_by u v p ≤ℤ m
inside_below u v m e p h first second =
    let w : IsMean e.0 e.1 p = mean_inside e p h in
    mean_below w.first w.second (along_by u v e.0) (along_by u v e.1) (along_by u v p) m w.first_least w.second_least w.some
    (mean_along u v w.first w.second e.0 e.1 p w.by_x w.by_y) first second

-- ---- crossings

crossing_height : (u v : ℤ) (a b p r : Point)
    → (along_by u v b *ℤ turn p r a) -ℤ (along_by u v a *ℤ turn p r b)
    ≡ (along_by u v p *ℤ turn a b r) -ℤ (along_by u v r *ℤ turn a b p)
crossing_height u v a b p r =
    let e = turned (point_var 2) (point_var 3) in
    let f = turned (point_var 0) (point_var 1) in
    let h0 = (var 8 ⊗ (point_var 0).0) ⊕ (var 9 ⊗ (point_var 0).1) in
    let h1 = (var 8 ⊗ (point_var 1).0) ⊕ (var 9 ⊗ (point_var 1).1) in
    let h2 = (var 8 ⊗ (point_var 2).0) ⊕ (var 9 ⊗ (point_var 2).1) in
    let h3 = (var 8 ⊗ (point_var 3).0) ⊕ (var 9 ⊗ (point_var 3).1) in
    ring (coordinates (a ∷ b ∷ p ∷ r ∷ []) (u ∷ v ∷ []))
    ((h1 ⊗ e (point_var 0)) ⊖ (h0 ⊗ e (point_var 1)))
    ((h2 ⊗ f (point_var 3)) ⊖ (h3 ⊗ f (point_var 2)))
    refl

pub turns_differ : (a b p r : Point) → turn p r a -ℤ turn p r b ≡ turn a b r -ℤ turn a b p
turns_differ a b p r =
    ring (coordinates (a ∷ b ∷ p ∷ r ∷ []) [])
    (turned (point_var 2) (point_var 3) (point_var 0) ⊖ turned (point_var 2) (point_var 3) (point_var 1))
    (turned (point_var 0) (point_var 1) (point_var 3) ⊖ turned (point_var 0) (point_var 1) (point_var 2))
    refl

-- two numbers from `m + 1` on, weighed, are not two numbers up to `m`, weighed by as much
no_common : (i j s t a b p r m : ℤ) → pos 0 <ℤ i → j <ℤ pos 0 → s <ℤ pos 0 → pos 0 <ℤ t → i -ℤ j ≡ t -ℤ s
    → (b *ℤ i) -ℤ (a *ℤ j) ≡ (p *ℤ t) -ℤ (r *ℤ s) → (m +ℤ pos 1) ≤ℤ a → (m +ℤ pos 1) ≤ℤ b → p ≤ℤ m → r ≤ℤ m → ⊥
no_common i j s t a b p r m hi hj hs ht same weighed first second third fourth =
    let low_b : (i *ℤ (m +ℤ pos 1)) ≤ℤ (i *ℤ b) = mul_le_mul_left i (m +ℤ pos 1) b (omega (arith, linear, hi)) second in
    let low_a : (neg_ℤ j *ℤ (m +ℤ pos 1)) ≤ℤ (neg_ℤ j *ℤ a) = mul_le_mul_left (neg_ℤ j) (m +ℤ pos 1) a (omega (arith, linear, hj)) first in
    let high_p : (t *ℤ p) ≤ℤ (t *ℤ m) = mul_le_mul_left t p m (omega (arith, linear, ht)) third in
    let high_r : (neg_ℤ s *ℤ r) ≤ℤ (neg_ℤ s *ℤ m) = mul_le_mul_left (neg_ℤ s) r m (omega (arith, linear, hs)) fourth in
    let left : (i *ℤ b) +ℤ (neg_ℤ j *ℤ a) ≡ (b *ℤ i) -ℤ (a *ℤ j) =
    ring (i ∷ j ∷ a ∷ b ∷ []) ((var 0 ⊗ var 3) ⊕ (neg (var 1) ⊗ var 2)) ((var 3 ⊗ var 0) ⊖ (var 2 ⊗ var 1)) refl in
    let right : (t *ℤ p) +ℤ (neg_ℤ s *ℤ r) ≡ (p *ℤ t) -ℤ (r *ℤ s) =
    ring (t ∷ s ∷ p ∷ r ∷ []) ((var 0 ⊗ var 2) ⊕ (neg (var 1) ⊗ var 3)) ((var 2 ⊗ var 0) ⊖ (var 3 ⊗ var 1)) refl in
    let lower : (i *ℤ (m +ℤ pos 1)) +ℤ (neg_ℤ j *ℤ (m +ℤ pos 1)) ≡ ((i -ℤ j) *ℤ m) +ℤ (i -ℤ j) = expanded i j m in
    let upper : (t *ℤ m) +ℤ (neg_ℤ s *ℤ m) ≡ (t -ℤ s) *ℤ m =
    ring (t ∷ s ∷ m ∷ []) ((var 0 ⊗ var 2) ⊕ (neg (var 1) ⊗ var 2)) ((var 0 ⊖ var 1) ⊗ var 2) refl in
    let alike : (i -ℤ j) *ℤ m ≡ (t -ℤ s) *ℤ m = ap (λ (z : ℤ). z *ℤ m) same in
    omega (arith, linear, low_b, low_a, high_p, high_r, left, right, lower, upper, alike, weighed, hi, hj)
  where
    expanded : (i j m : ℤ) → (i *ℤ (m +ℤ pos 1)) +ℤ (neg_ℤ j *ℤ (m +ℤ pos 1)) ≡ ((i -ℤ j) *ℤ m) +ℤ (i -ℤ j)
    expanded i j m =
        ring (i ∷ j ∷ m ∷ pos 1 ∷ [])
        ((var 0 ⊗ (var 2 ⊕ var 3)) ⊕ (neg (var 1) ⊗ (var 2 ⊕ var 3)))
        (((var 0 ⊖ var 1) ⊗ var 2) ⊕ ((var 0 ⊖ var 1) ⊗ var 3))
        refl
        ∙ (λ k. ((i -ℤ j) *ℤ m) +ℤ mul_one (i -ℤ j) k)

parted_crossing : (u v m : ℤ) (e f : Edge) → m <ℤ along_by u v e.0 → m <ℤ along_by u v e.1 → along_by u v f.0 ≤ℤ m → along_by u v f.1 ≤ℤ m → IsCrossing e f → ⊥
parted_crossing u v m e f first second third fourth c = by c.second_parted c.first_parted
  where
    low : (z : ℤ) → m <ℤ z → (m +ℤ pos 1) ≤ℤ z
    low z h = omega (arith, linear, h)

    differ : turn f.0 f.1 e.0 -ℤ turn f.0 f.1 e.1 ≡ turn e.0 e.1 f.1 -ℤ turn e.0 e.1 f.0
    differ = turns_differ e.0 e.1 f.0 f.1

    by : AreOpposite (turn e.0 e.1 f.0) (turn e.0 e.1 f.1) → AreOpposite (turn f.0 f.1 e.0) (turn f.0 f.1 e.1) → ⊥
    by (inr s) (inl n) =
        no_common (turn f.0 f.1 e.0) (turn f.0 f.1 e.1) (turn e.0 e.1 f.0) (turn e.0 e.1 f.1) (along_by u v e.0) (along_by u v e.1) (along_by u v f.0) (along_by u v f.1) m
        n.0 n.1 s.0 s.1 differ (crossing_height u v e.0 e.1 f.0 f.1) (low _ first) (low _ second) third fourth
    by (inl s) (inr n) =
        no_common (turn f.0 f.1 e.1) (turn f.0 f.1 e.0) (turn e.1 e.0 f.0) (turn e.1 e.0 f.1) (along_by u v e.1) (along_by u v e.0) (along_by u v f.0) (along_by u v f.1) m
        n.1 n.0 (omega (arith, linear, s.0, turn_flip e.0 e.1 f.0)) (omega (arith, linear, s.1, turn_flip e.0 e.1 f.1)) (turns_differ e.1 e.0 f.0 f.1)
        (crossing_height u v e.1 e.0 f.0 f.1) (low _ second) (low _ first) third fourth
    by (inl s) (inl n) = omega (arith, linear, differ, s.0, s.1, n.0, n.1)
    by (inr s) (inr n) = omega (arith, linear, differ, s.0, s.1, n.0, n.1)

-- a line parts two pieces
pub parted_clear : (u v m : ℤ) (e f : Edge) → m <ℤ along_by u v e.0 → m <ℤ along_by u v e.1 → along_by u v f.0 ≤ℤ m → along_by u v f.1 ≤ℤ m → AreClear e f
parted_clear u v m e f first second third fourth =
    clear_of_tests e f
    (λ h. omega (arith, linear, third, inside_above u v (m +ℤ pos 1) e f.0 h (omega (arith, linear, first)) (omega (arith, linear, second))))
    (λ h. omega (arith, linear, fourth, inside_above u v (m +ℤ pos 1) e f.1 h (omega (arith, linear, first)) (omega (arith, linear, second))))
    (λ h. omega (arith, linear, first, inside_below u v m f e.0 h third fourth))
    (λ h. omega (arith, linear, second, inside_below u v m f e.1 h third fourth))
    (parted_crossing u v m e f first second third fourth)

-- ---- by the line of an edge

-- a turn as a measure
turn_along : (g : Edge) (p : Point) → turn g.0 g.1 p ≡ along_by (neg_ℤ (g.1.1 -ℤ g.0.1)) (g.1.0 -ℤ g.0.0) p -ℤ along_by (neg_ℤ (g.1.1 -ℤ g.0.1)) (g.1.0 -ℤ g.0.0) g.0
turn_along g p =
    ring (coordinates (g.0 ∷ g.1 ∷ p ∷ []) [])
    (turned (point_var 0) (point_var 1) (point_var 2))
    (((neg (var 3 ⊖ var 1) ⊗ var 4) ⊕ ((var 2 ⊖ var 0) ⊗ var 5)) ⊖ ((neg (var 3 ⊖ var 1) ⊗ var 0) ⊕ ((var 2 ⊖ var 0) ⊗ var 1)))
    refl

module _ (g : Edge) (m : ℤ) where
  abbrev u : ℤ
  u = neg_ℤ (g.1.1 -ℤ g.0.1)

  abbrev v : ℤ
  v = g.1.0 -ℤ g.0.0

  abbrev limit : ℤ
  limit = m +ℤ along_by u v g.0

  above : (p : Point) → m <ℤ turn g.0 g.1 p → limit <ℤ along_by u v p
  above p h = omega (arith, linear, h, turn_along g p)

  below : (p : Point) → turn g.0 g.1 p ≤ℤ m → along_by u v p ≤ℤ limit
  below p h = omega (arith, linear, h, turn_along g p)

  -- one lies more than so far to the left of a line, the other not
  pub parted_by_line : (e f : Edge) → m <ℤ turn g.0 g.1 e.0 → m <ℤ turn g.0 g.1 e.1 → turn g.0 g.1 f.0 ≤ℤ m → turn g.0 g.1 f.1 ≤ℤ m → AreClear e f
  parted_by_line e f first second third fourth = parted_clear u v limit e f (above e.0 first) (above e.1 second) (below f.0 third) (below f.1 fourth)

  -- what lies to the left of a line is not inside an edge that does not
  pub beyond_not_inside : (e : Edge) (p : Point) → turn g.0 g.1 e.0 ≤ℤ m → turn g.0 g.1 e.1 ≤ℤ m → m <ℤ turn g.0 g.1 p → IsInside e p → ⊥
  beyond_not_inside e p first second far h = omega (arith, linear, above p far, inside_below u v limit e p h (below e.0 first) (below e.1 second))

-- an end of an edge is not inside it
pub end_not_inside : (e : Edge) (p : Point) → (p ≡ e.0) ⊎ (p ≡ e.1) → IsInside e p → ⊥
end_not_inside e p h i = both_ways _ i.no_end ((decides_end p e).1 h)

not_opposite : (s t : ℤ) → (s ≡ pos 0) ⊎ (t ≡ pos 0) → AreOpposite s t → ⊥
not_opposite s t (inl z) (inl h) = omega (arith, linear, h.0)
not_opposite s t (inl z) (inr h) = omega (arith, linear, h.0)
not_opposite s t (inr z) (inl h) = omega (arith, linear, h.1)
not_opposite s t (inr z) (inr h) = omega (arith, linear, h.1)

-- edges with a common end do not cross
pub joined_cross_not : (e f : Edge) (c : Point) → (c ≡ e.0) ⊎ (c ≡ e.1) → (c ≡ f.0) ⊎ (c ≡ f.1) → IsCrossing e f → ⊥
joined_cross_not e f c (inl a) (inl b) h = not_opposite _ _ (inl (ap (turn e.0 e.1) (sym b ∙ a) ∙ turn_start e.0 e.1)) h.second_parted
joined_cross_not e f c (inr a) (inl b) h = not_opposite _ _ (inl (ap (turn e.0 e.1) (sym b ∙ a) ∙ turn_end e.0 e.1)) h.second_parted
joined_cross_not e f c (inl a) (inr b) h = not_opposite _ _ (inr (ap (turn e.0 e.1) (sym b ∙ a) ∙ turn_start e.0 e.1)) h.second_parted
joined_cross_not e f c (inr a) (inr b) h = not_opposite _ _ (inr (ap (turn e.0 e.1) (sym b ∙ a) ∙ turn_end e.0 e.1)) h.second_parted
