-- Lemmas over points: two segments are parted or have a common point.
use Rattle.std.proofs.Common.{◌≡◌, ℕ, ◌<◌, ◌⊎◌, inl, inr, refl, sym, ◌∙◌, ap, subst, arith, [], ◌∷◌}
use Rattle.std.specs.Prelude.{ℤ, pos, neg_ℤ, ◌+ℤ◌, ◌-ℤ◌, ◌*ℤ◌, ◌≤ℤ◌, ◌<ℤ◌, unsigned_abs}
use Rattle.std.proofs.lemmas.Int.{ints, by_lt_z}
use Rattle.mesh_plane.specs.Plane.{Point, turn}
use Rattle.mesh_plane.specs.Winding.{refined}
use Rattle.mesh_plane.proofs.PointExprs.{point_var, coordinates, turned}
use Rattle.mesh_plane.proofs.Ring.{ring, var, neg, ◌⊕◌, ◌⊖◌, ◌⊗◌}
use Rattle.mesh_plane.proofs.Whole.{linear}
use Rattle.mesh_lattice.specs.Clean.{IsOn}
use Rattle.mesh_lattice.proofs.Means.{on_of_mean}
use Rattle.mesh_regions.proofs.SidesPotential.{Parted, edge_left, edge_right, way_left, way_right, one_line}

-- a common point of the segment from `a` to `b` and that from `p` to `r`, on a finer grid
pub record HaveCommon (a b p r : Point) : Type 0 where
  pub grid : ℕ
  pub positive : 0 < grid
  pub point : Point
  pub first : IsOn (refined grid a, refined grid b) point
  pub second : IsOn (refined grid p, refined grid r) point

abbrev pub weighted : ℤ → ℤ → Point → Point → Point
weighted s t a b = ((s *ℤ a.0) +ℤ (t *ℤ b.0), (s *ℤ a.1) +ℤ (t *ℤ b.1))

pub weighed : (g : ℕ) (s t : ℤ) (a b : Point) → pos 0 ≤ℤ s → pos 0 ≤ℤ t → 0 < g → pos g ≡ s +ℤ t →
    IsOn (refined g a, refined g b) (weighted s t a b)
weighed g s t a b first second some e =
    on_of_mean (refined g a) (refined g b) (weighted s t a b) (record {
      first = s;
      second = t;
      first_least = first;
      second_least = second;
      some = omega (arith, ints);
      by_x = coordinate a.0 b.0;
      by_y = coordinate a.1 b.1;
    })
  where
    coordinate : (x y : ℤ) → (s +ℤ t) *ℤ ((s *ℤ x) +ℤ (t *ℤ y)) ≡ (s *ℤ (pos g *ℤ x)) +ℤ (t *ℤ (pos g *ℤ y))
    coordinate x y =
        ring (s ∷ t ∷ x ∷ y ∷ []) ((var 0 ⊕ var 1) ⊗ ((var 0 ⊗ var 2) ⊕ (var 1 ⊗ var 3))) ((var 0 ⊗ ((var 0 ⊕ var 1) ⊗ var 2)) ⊕ (var 1 ⊗ ((var 0 ⊕ var 1) ⊗ var 3))) refl
        ∙ ap (λ (k : ℤ). (s *ℤ (k *ℤ x)) +ℤ (t *ℤ (k *ℤ y))) (sym e)

common_of : (a b p r : Point) (s t u v k : ℤ) → pos 0 <ℤ k → pos 0 ≤ℤ s → pos 0 ≤ℤ t → pos 0 ≤ℤ u → pos 0 ≤ℤ v → k ≡ s +ℤ t → k ≡ u +ℤ v →
    (u *ℤ p.0) +ℤ (v *ℤ r.0) ≡ (s *ℤ a.0) +ℤ (t *ℤ b.0) → (u *ℤ p.1) +ℤ (v *ℤ r.1) ≡ (s *ℤ a.1) +ℤ (t *ℤ b.1) → HaveCommon a b p r
common_of a b p r s t u v k some hs ht hu hv first second x y = record {
  grid = unsigned_abs k;
  positive = omega (arith, ints);
  point = weighted s t a b;
  first = weighed (unsigned_abs k) s t a b hs ht (omega (arith, ints)) (omega (arith, ints));
  second =
      subst (λ (z : Point). IsOn (refined (unsigned_abs k) p, refined (unsigned_abs k) r) z) same
      (weighed (unsigned_abs k) u v p r hu hv (omega (arith, ints)) (omega (arith, ints)));
}
  where
    same : weighted u v p r ≡ weighted s t a b
    same = λ i. (x i, y i)

pub differ : (a b p r : Point) → turn a b r -ℤ turn a b p ≡ turn p r a -ℤ turn p r b
differ a b p r =
    ring (coordinates (a ∷ b ∷ p ∷ r ∷ []) [])
    (turned (point_var 0) (point_var 1) (point_var 3) ⊖ turned (point_var 0) (point_var 1) (point_var 2))
    (turned (point_var 2) (point_var 3) (point_var 0) ⊖ turned (point_var 2) (point_var 3) (point_var 1))
    refl

-- where the turns rise along the second segment
rising_x : (a b p r : Point) → (turn a b r *ℤ p.0) +ℤ (neg_ℤ (turn a b p) *ℤ r.0) ≡ (neg_ℤ (turn p r b) *ℤ a.0) +ℤ (turn p r a *ℤ b.0)
rising_x a b p r =
    ring (coordinates (a ∷ b ∷ p ∷ r ∷ []) [])
    ((turned (point_var 0) (point_var 1) (point_var 3) ⊗ var 4) ⊕ (neg (turned (point_var 0) (point_var 1) (point_var 2)) ⊗ var 6))
    ((neg (turned (point_var 2) (point_var 3) (point_var 1)) ⊗ var 0) ⊕ (turned (point_var 2) (point_var 3) (point_var 0) ⊗ var 2))
    refl

rising_y : (a b p r : Point) → (turn a b r *ℤ p.1) +ℤ (neg_ℤ (turn a b p) *ℤ r.1) ≡ (neg_ℤ (turn p r b) *ℤ a.1) +ℤ (turn p r a *ℤ b.1)
rising_y a b p r =
    ring (coordinates (a ∷ b ∷ p ∷ r ∷ []) [])
    ((turned (point_var 0) (point_var 1) (point_var 3) ⊗ var 5) ⊕ (neg (turned (point_var 0) (point_var 1) (point_var 2)) ⊗ var 7))
    ((neg (turned (point_var 2) (point_var 3) (point_var 1)) ⊗ var 1) ⊕ (turned (point_var 2) (point_var 3) (point_var 0) ⊗ var 3))
    refl

falling_x : (a b p r : Point) → (neg_ℤ (turn a b r) *ℤ p.0) +ℤ (turn a b p *ℤ r.0) ≡ (turn p r b *ℤ a.0) +ℤ (neg_ℤ (turn p r a) *ℤ b.0)
falling_x a b p r =
    ring (coordinates (a ∷ b ∷ p ∷ r ∷ []) [])
    ((neg (turned (point_var 0) (point_var 1) (point_var 3)) ⊗ var 4) ⊕ (turned (point_var 0) (point_var 1) (point_var 2) ⊗ var 6))
    ((turned (point_var 2) (point_var 3) (point_var 1) ⊗ var 0) ⊕ (neg (turned (point_var 2) (point_var 3) (point_var 0)) ⊗ var 2))
    refl

falling_y : (a b p r : Point) → (neg_ℤ (turn a b r) *ℤ p.1) +ℤ (turn a b p *ℤ r.1) ≡ (turn p r b *ℤ a.1) +ℤ (neg_ℤ (turn p r a) *ℤ b.1)
falling_y a b p r =
    ring (coordinates (a ∷ b ∷ p ∷ r ∷ []) [])
    ((neg (turned (point_var 0) (point_var 1) (point_var 3)) ⊗ var 5) ⊕ (turned (point_var 0) (point_var 1) (point_var 2) ⊗ var 7))
    ((turned (point_var 2) (point_var 3) (point_var 1) ⊗ var 1) ⊕ (neg (turned (point_var 2) (point_var 3) (point_var 0)) ⊗ var 3))
    refl

pub common_rising : (a b p r : Point) → turn a b p ≤ℤ pos 0 → pos 0 ≤ℤ turn a b r → pos 0 ≤ℤ turn p r a → turn p r b ≤ℤ pos 0 → turn a b p <ℤ turn a b r → HaveCommon a b p r
common_rising a b p r hp hr ha hb rise =
    common_of a b p r (neg_ℤ (turn p r b)) (turn p r a) (turn a b r) (neg_ℤ (turn a b p)) (turn a b r -ℤ turn a b p)
    (omega (arith, linear)) (omega (arith, linear)) ha hr (omega (arith, linear)) (omega (arith, linear, differ a b p r)) (omega (arith, linear))
    (rising_x a b p r) (rising_y a b p r)

pub common_falling : (a b p r : Point) → pos 0 ≤ℤ turn a b p → turn a b r ≤ℤ pos 0 → turn p r a ≤ℤ pos 0 → pos 0 ≤ℤ turn p r b → turn a b r <ℤ turn a b p → HaveCommon a b p r
common_falling a b p r hp hr ha hb fall =
    common_of a b p r (turn p r b) (neg_ℤ (turn p r a)) (neg_ℤ (turn a b r)) (turn a b p) (turn a b p -ℤ turn a b r)
    (omega (arith, linear)) hb (omega (arith, linear)) (omega (arith, linear)) hp (omega (arith, linear, differ a b p r)) (omega (arith, linear))
    (falling_x a b p r) (falling_y a b p r)

pub parted_or_common : (a b p r : Point) → Parted a b p r ⊎ HaveCommon a b p r
parted_or_common a b p r =
    by_lt_z (turn a b p) (turn a b r) up (λ (h : turn a b r ≤ℤ turn a b p). by_lt_z (turn a b r) (turn a b p) down (λ (k : turn a b p ≤ℤ turn a b r). level (omega (arith, linear))))
  where
    d : turn a b r -ℤ turn a b p ≡ turn p r a -ℤ turn p r b
    d = differ a b p r

    up : turn a b p <ℤ turn a b r → Parted a b p r ⊎ HaveCommon a b p r
    up rise =
        by_lt_z (pos 0) (turn a b p) (λ h. inl (edge_left h (omega (arith, linear))))
        (λ (hp : turn a b p ≤ℤ pos 0).
        by_lt_z (turn a b r) (pos 0) (λ h. inl (edge_right (omega (arith, linear)) h))
        (λ (hr : pos 0 ≤ℤ turn a b r).
        by_lt_z (pos 0) (turn p r b) (λ h. inl (way_left (omega (arith, linear, d)) h))
        (λ (hb : turn p r b ≤ℤ pos 0).
        by_lt_z (turn p r a) (pos 0) (λ h. inl (way_right h (omega (arith, linear, d))))
        (λ (ha : pos 0 ≤ℤ turn p r a). inr (common_rising a b p r hp hr ha hb rise)))))

    down : turn a b r <ℤ turn a b p → Parted a b p r ⊎ HaveCommon a b p r
    down fall =
        by_lt_z (pos 0) (turn a b r) (λ h. inl (edge_left (omega (arith, linear)) h))
        (λ (hr : turn a b r ≤ℤ pos 0).
        by_lt_z (turn a b p) (pos 0) (λ h. inl (edge_right h (omega (arith, linear))))
        (λ (hp : pos 0 ≤ℤ turn a b p).
        by_lt_z (pos 0) (turn p r a) (λ h. inl (way_left h (omega (arith, linear, d))))
        (λ (ha : turn p r a ≤ℤ pos 0).
        by_lt_z (turn p r b) (pos 0) (λ h. inl (way_right (omega (arith, linear, d)) h))
        (λ (hb : pos 0 ≤ℤ turn p r b). inr (common_falling a b p r hp hr ha hb fall)))))

    level : turn a b p ≡ turn a b r → Parted a b p r ⊎ HaveCommon a b p r
    level e =
        by_lt_z (pos 0) (turn a b p) (λ h. inl (edge_left h (omega (arith, linear))))
        (λ (x : turn a b p ≤ℤ pos 0).
        by_lt_z (turn a b p) (pos 0) (λ h. inl (edge_right h (omega (arith, linear))))
        (λ (y : pos 0 ≤ℤ turn a b p).
        by_lt_z (pos 0) (turn p r a) (λ h. inl (way_left h (omega (arith, linear, d))))
        (λ (u : turn p r a ≤ℤ pos 0).
        by_lt_z (turn p r a) (pos 0) (λ h. inl (way_right h (omega (arith, linear, d))))
        (λ (v : pos 0 ≤ℤ turn p r a).
        inl (one_line (omega (arith, linear)) (omega (arith, linear)) (omega (arith, linear)) (omega (arith, linear, d)))))))
