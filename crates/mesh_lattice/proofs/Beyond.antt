-- Lemmas over points: a point that does not lie near an edge lies beyond a line that all near points lie before.
use Rattle.std.proofs.Common.{◌≡◌, ℕ, ◌*◌, ◌<◌, ◌⊎◌, inl, inr, ⊎_elim, [], ◌∷◌, refl, sym, ◌∙◌, ap, arith}
use Rattle.std.specs.Prelude.{ℤ, pos, negsuc, ◌+ℤ◌, ◌-ℤ◌, ◌*ℤ◌, ◌≤ℤ◌, ◌<ℤ◌, neg_ℤ, unsigned_abs}
use Rattle.std.proofs.lemmas.Int.{ints, by_lt_z}
use Rattle.mesh_plane.specs.Plane.{Point, Edge}
use Rattle.mesh_plane.specs.Winding.{refined}
use Rattle.mesh_plane.proofs.HalfPlanes.{along_by}
use Rattle.mesh_plane.proofs.PointExprs.{coordinates}
use Rattle.mesh_plane.proofs.Ring.{ring, var, lit, neg, ◌⊕◌, ◌⊖◌, ◌⊗◌}
use Rattle.mesh_plane.proofs.Whole.{linear, mul_nonneg, one_mul, zero_mul}
use Rattle.mesh_lattice.specs.Nearness.{IsNearTo}
use Rattle.mesh_lattice.proofs.Nearness.{IsUnit, HasSign, opposite_size, sign_of, past, near_beside, near_along}

unit_back : (s : ℤ) → IsUnit s → IsUnit (neg_ℤ s)
unit_back s (inl e) = inr (ap neg_ℤ e)
unit_back s (inr e) = inl (ap neg_ℤ e)

unit_one : (s : ℤ) → IsUnit s → unsigned_abs s ≡ 1
unit_one s (inl e) = ap unsigned_abs e
unit_one s (inr e) = ap unsigned_abs e

unit_keeps : (s x : ℤ) → IsUnit s → unsigned_abs (s *ℤ x) ≡ unsigned_abs x
unit_keeps s x (inl e) = let f : s *ℤ x ≡ pos 1 *ℤ x = ap (λ (n : ℤ). n *ℤ x) e in omega (arith, ints)
unit_keeps s x (inr e) = let f : s *ℤ x ≡ negsuc 0 *ℤ x = ap (λ (n : ℤ). n *ℤ x) e in omega (arith, ints)

-- by some linear measure the point lies farther beyond both ends of an edge than a near point does
pub record LiesBeyond (k m : ℕ) (e : Edge) (q : Point) : Type 0 where
  pub u : ℤ
  pub v : ℤ
  pub most : ℤ
  pub start : along_by u v (refined m e.0) ≤ℤ most
  pub end : along_by u v (refined m e.1) ≤ℤ most
  pub beyond : ((pos 64 *ℤ most) +ℤ ((pos (unsigned_abs u) +ℤ pos (unsigned_abs v)) *ℤ (pos k *ℤ pos m))) <ℤ (pos 64 *ℤ along_by u v q)

-- so near points lie before it
pub before : (k m : ℕ) (e : Edge) (q p : Point) → (h : LiesBeyond k m e q) → IsNearTo k m e p → along_by h.u h.v p <ℤ along_by h.u h.v q
before k m e q p h near =
    let b = h.beyond in
    let n = near_along k m e p near h.u h.v h.most h.start h.end in
    omega (arith, ints, b, n)

-- ---- one coordinate

record IsPast (k m : ℕ) (a b q : ℤ) : Type 0 where
  unit : ℤ
  is_unit : IsUnit unit
  most : ℤ
  start : (unit *ℤ (pos m *ℤ a)) ≤ℤ most
  end : (unit *ℤ (pos m *ℤ b)) ≤ℤ most
  past : ((pos 64 *ℤ most) +ℤ (pos k *ℤ pos m)) <ℤ (pos 64 *ℤ (unit *ℤ q))

abbrev IsAlong : (k m : ℕ) (a b q : ℤ) → HasSign (b -ℤ a) → Type 0
IsAlong k m a b q s = (neg_ℤ (pos (k * m)) ≤ℤ past m a s.sign q) × (past m a s.sign q ≤ℤ ((pos m *ℤ pos (64 * unsigned_abs (b -ℤ a))) +ℤ pos (k * m)))

along_or_past : (k m : ℕ) (a b q : ℤ) (s : HasSign (b -ℤ a)) → IsAlong k m a b q s ⊎ IsPast k m a b q
along_or_past k m a b q s =
    by_lt_z (past m a s.sign q) (neg_ℤ (pos (k * m)))
    (λ (low : past m a s.sign q <ℤ neg_ℤ (pos (k * m))). inr (record {
      unit = neg_ℤ s.sign;
      is_unit = unit_back s.sign s.unit;
      most = neg_ℤ s.sign *ℤ (pos m *ℤ a);
      start = omega (arith, linear);
      end = omega (arith, linear, way_back, long);
      past = omega (arith, linear, low, behind);
    }))
    (λ (low : neg_ℤ (pos (k * m)) ≤ℤ past m a s.sign q).
    by_lt_z ((pos m *ℤ pos (64 * unsigned_abs (b -ℤ a))) +ℤ pos (k * m)) (past m a s.sign q)
    (λ (high : ((pos m *ℤ pos (64 * unsigned_abs (b -ℤ a))) +ℤ pos (k * m)) <ℤ past m a s.sign q). inr (record {
      unit = s.sign;
      is_unit = s.unit;
      most = s.sign *ℤ (pos m *ℤ b);
      start = omega (arith, linear, way, long);
      end = omega (arith, linear);
      past = omega (arith, linear, high, ahead);
    }))
    (λ (high : past m a s.sign q ≤ℤ ((pos m *ℤ pos (64 * unsigned_abs (b -ℤ a))) +ℤ pos (k * m))). inl (low, high)))
  where
    size : ℤ
    size = pos (unsigned_abs (b -ℤ a))

    long : pos 0 ≤ℤ (pos m *ℤ size)
    long = mul_nonneg (pos m) size (omega (arith, ints)) (omega (arith, ints))

    way : (s.sign *ℤ (pos m *ℤ b)) -ℤ (s.sign *ℤ (pos m *ℤ a)) ≡ pos m *ℤ size
    way =
        ring (s.sign ∷ pos m ∷ a ∷ b ∷ []) ((var 0 ⊗ (var 1 ⊗ var 3)) ⊖ (var 0 ⊗ (var 1 ⊗ var 2))) (var 1 ⊗ (var 0 ⊗ (var 3 ⊖ var 2))) refl
        ∙ ap (λ (x : ℤ). pos m *ℤ x) s.size

    way_back : (neg_ℤ s.sign *ℤ (pos m *ℤ a)) -ℤ (neg_ℤ s.sign *ℤ (pos m *ℤ b)) ≡ pos m *ℤ size
    way_back =
        ring (s.sign ∷ pos m ∷ a ∷ b ∷ []) ((neg (var 0) ⊗ (var 1 ⊗ var 2)) ⊖ (neg (var 0) ⊗ (var 1 ⊗ var 3))) (var 1 ⊗ (var 0 ⊗ (var 3 ⊖ var 2))) refl
        ∙ ap (λ (x : ℤ). pos m *ℤ x) s.size

    behind : past m a s.sign q ≡ (pos 64 *ℤ (neg_ℤ s.sign *ℤ (pos m *ℤ a))) -ℤ (pos 64 *ℤ (neg_ℤ s.sign *ℤ q))
    behind =
        ring (s.sign ∷ pos m ∷ a ∷ q ∷ []) (lit (pos 64) ⊗ (var 0 ⊗ (var 3 ⊖ (var 1 ⊗ var 2))))
        ((lit (pos 64) ⊗ (neg (var 0) ⊗ (var 1 ⊗ var 2))) ⊖ (lit (pos 64) ⊗ (neg (var 0) ⊗ var 3))) refl

    ahead : past m a s.sign q -ℤ (pos m *ℤ pos (64 * unsigned_abs (b -ℤ a))) ≡ (pos 64 *ℤ (s.sign *ℤ q)) -ℤ (pos 64 *ℤ (s.sign *ℤ (pos m *ℤ b)))
    ahead =
        ap (λ (x : ℤ). past m a s.sign q -ℤ (pos m *ℤ (pos 64 *ℤ x))) (sym s.size)
        ∙ ring (s.sign ∷ pos m ∷ a ∷ b ∷ q ∷ [])
        ((lit (pos 64) ⊗ (var 0 ⊗ (var 4 ⊖ (var 1 ⊗ var 2)))) ⊖ (var 1 ⊗ (lit (pos 64) ⊗ (var 0 ⊗ (var 3 ⊖ var 2)))))
        ((lit (pos 64) ⊗ (var 0 ⊗ var 4)) ⊖ (lit (pos 64) ⊗ (var 0 ⊗ (var 1 ⊗ var 3))))
        refl

beyond_x : (k m : ℕ) (e : Edge) (q : Point) → IsPast k m e.0.0 e.1.0 q.0 → LiesBeyond k m e q
beyond_x k m e q h = record {
  u = h.unit;
  v = pos 0;
  most = h.most;
  start = omega (arith, linear, h.start, zero_mul (pos m *ℤ e.0.1));
  end = omega (arith, linear, h.end, zero_mul (pos m *ℤ e.1.1));
  beyond =
      let one : (pos (unsigned_abs h.unit) +ℤ pos 0) *ℤ (pos k *ℤ pos m) ≡ pos k *ℤ pos m =
      ap (λ (n : ℕ). (pos n +ℤ pos 0) *ℤ (pos k *ℤ pos m)) (unit_one h.unit h.is_unit) ∙ one_mul (pos k *ℤ pos m) in
      let same : along_by h.unit (pos 0) q ≡ h.unit *ℤ q.0 = omega (arith, linear, zero_mul q.1) in
      let more : pos 64 *ℤ along_by h.unit (pos 0) q ≡ pos 64 *ℤ (h.unit *ℤ q.0) = ap (λ (x : ℤ). pos 64 *ℤ x) same in
      omega (arith, linear, h.past, one, more);
}

beyond_y : (k m : ℕ) (e : Edge) (q : Point) → IsPast k m e.0.1 e.1.1 q.1 → LiesBeyond k m e q
beyond_y k m e q h = record {
  u = pos 0;
  v = h.unit;
  most = h.most;
  start = omega (arith, linear, h.start, zero_mul (pos m *ℤ e.0.0));
  end = omega (arith, linear, h.end, zero_mul (pos m *ℤ e.1.0));
  beyond =
      let one : (pos 0 +ℤ pos (unsigned_abs h.unit)) *ℤ (pos k *ℤ pos m) ≡ pos k *ℤ pos m =
      ap (λ (n : ℕ). (pos 0 +ℤ pos n) *ℤ (pos k *ℤ pos m)) (unit_one h.unit h.is_unit) ∙ one_mul (pos k *ℤ pos m) in
      let same : along_by (pos 0) h.unit q ≡ h.unit *ℤ q.1 = omega (arith, linear, zero_mul q.0) in
      let more : pos 64 *ℤ along_by (pos 0) h.unit q ≡ pos 64 *ℤ (h.unit *ℤ q.1) = ap (λ (x : ℤ). pos 64 *ℤ x) same in
      omega (arith, linear, h.past, one, more);
}

-- ---- the strip along the edge

-- the measure across the edge, to one side or to the other
record IsAcross (k m : ℕ) (e : Edge) (q : Point) : Type 0 where
  unit : ℤ
  other : ℤ
  is_unit : IsUnit unit
  is_other : IsUnit other
  past : ((pos (64 * unsigned_abs (e.1.0 -ℤ e.0.0)) +ℤ pos (64 * unsigned_abs (e.1.1 -ℤ e.0.1))) *ℤ pos (k * m))
      <ℤ (pos 64 *ℤ (pos 64 *ℤ (unit *ℤ (other *ℤ (((e.1.1 -ℤ e.0.1) *ℤ (q.0 -ℤ (pos m *ℤ e.0.0))) -ℤ ((e.1.0 -ℤ e.0.0) *ℤ (q.1 -ℤ (pos m *ℤ e.0.1))))))))

bounded : (p r w s a b : ℤ) → p ≡ pos 64 *ℤ r → s ≡ r → w ≡ b -ℤ a → p <ℤ (pos 64 *ℤ (pos 64 *ℤ w)) → ((pos 64 *ℤ a) +ℤ s) <ℤ (pos 64 *ℤ b)
bounded p r w s a b e f g h = omega (arith, ints)

beyond_across : (k m : ℕ) (e : Edge) (q : Point) → IsAcross k m e q → LiesBeyond k m e q
beyond_across k m e q h = record {
  u = u;
  v = v;
  most = along_by u v (refined m e.0);
  start = omega (arith, linear);
  end =
      let level : along_by u v (refined m e.1) ≡ along_by u v (refined m e.0) =
      ring (coordinates (e.0 ∷ e.1 ∷ []) (h.unit ∷ h.other ∷ pos m ∷ []))
      (((var 4 ⊗ (var 5 ⊗ (var 3 ⊖ var 1))) ⊗ (var 6 ⊗ var 2)) ⊕ ((var 4 ⊗ (var 5 ⊗ neg (var 2 ⊖ var 0))) ⊗ (var 6 ⊗ var 3)))
      (((var 4 ⊗ (var 5 ⊗ (var 3 ⊖ var 1))) ⊗ (var 6 ⊗ var 0)) ⊕ ((var 4 ⊗ (var 5 ⊗ neg (var 2 ⊖ var 0))) ⊗ (var 6 ⊗ var 1)))
      refl in
      omega (arith, linear, level);
  beyond =
      bounded ((pos (64 * x) +ℤ pos (64 * y)) *ℤ pos (k * m)) ((pos y +ℤ pos x) *ℤ (pos k *ℤ pos m))
      (h.unit *ℤ (h.other *ℤ (((e.1.1 -ℤ e.0.1) *ℤ (q.0 -ℤ (pos m *ℤ e.0.0))) -ℤ ((e.1.0 -ℤ e.0.0) *ℤ (q.1 -ℤ (pos m *ℤ e.0.1))))))
      ((pos (unsigned_abs u) +ℤ pos (unsigned_abs v)) *ℤ (pos k *ℤ pos m)) (along_by u v (refined m e.0)) (along_by u v q)
      (ring (pos x ∷ pos y ∷ pos k ∷ pos m ∷ [])
      (((lit (pos 64) ⊗ var 0) ⊕ (lit (pos 64) ⊗ var 1)) ⊗ (var 2 ⊗ var 3)) (lit (pos 64) ⊗ ((var 1 ⊕ var 0) ⊗ (var 2 ⊗ var 3))) refl)
      (λ i. (pos (size_u i) +ℤ pos (size_v i)) *ℤ (pos k *ℤ pos m))
      (ring (coordinates (e.0 ∷ e.1 ∷ q ∷ []) (h.unit ∷ h.other ∷ pos m ∷ []))
      (var 6 ⊗ (var 7 ⊗ (((var 3 ⊖ var 1) ⊗ (var 4 ⊖ (var 8 ⊗ var 0))) ⊖ ((var 2 ⊖ var 0) ⊗ (var 5 ⊖ (var 8 ⊗ var 1))))))
      ((((var 6 ⊗ (var 7 ⊗ (var 3 ⊖ var 1))) ⊗ var 4) ⊕ ((var 6 ⊗ (var 7 ⊗ neg (var 2 ⊖ var 0))) ⊗ var 5))
      ⊖ (((var 6 ⊗ (var 7 ⊗ (var 3 ⊖ var 1))) ⊗ (var 8 ⊗ var 0)) ⊕ ((var 6 ⊗ (var 7 ⊗ neg (var 2 ⊖ var 0))) ⊗ (var 8 ⊗ var 1))))
      refl)
      h.past;
}
  where
    x : ℕ
    x = unsigned_abs (e.1.0 -ℤ e.0.0)

    y : ℕ
    y = unsigned_abs (e.1.1 -ℤ e.0.1)

    u : ℤ
    u = h.unit *ℤ (h.other *ℤ (e.1.1 -ℤ e.0.1))

    v : ℤ
    v = h.unit *ℤ (h.other *ℤ neg_ℤ (e.1.0 -ℤ e.0.0))

    size_u : unsigned_abs u ≡ y
    size_u = unit_keeps h.unit (h.other *ℤ (e.1.1 -ℤ e.0.1)) h.is_unit ∙ unit_keeps h.other (e.1.1 -ℤ e.0.1) h.is_other

    size_v : unsigned_abs v ≡ x
    size_v =
        unit_keeps h.unit (h.other *ℤ neg_ℤ (e.1.0 -ℤ e.0.0)) h.is_unit
        ∙ (unit_keeps h.other (neg_ℤ (e.1.0 -ℤ e.0.0)) h.is_other ∙ opposite_size (e.1.0 -ℤ e.0.0))

-- the strip's measure by the signs of the edge
across_same : (m : ℕ) (e : Edge) (q : Point) (s : HasSign (e.1.0 -ℤ e.0.0)) (t : HasSign (e.1.1 -ℤ e.0.1)) →
    (past m e.0.0 s.sign q.0 *ℤ pos (64 * unsigned_abs (e.1.1 -ℤ e.0.1))) -ℤ (past m e.0.1 t.sign q.1 *ℤ pos (64 * unsigned_abs (e.1.0 -ℤ e.0.0)))
    ≡ pos 64 *ℤ (pos 64 *ℤ (s.sign *ℤ (t.sign *ℤ (((e.1.1 -ℤ e.0.1) *ℤ (q.0 -ℤ (pos m *ℤ e.0.0))) -ℤ ((e.1.0 -ℤ e.0.0) *ℤ (q.1 -ℤ (pos m *ℤ e.0.1)))))))
across_same m e q s t =
    (λ i. (past m e.0.0 s.sign q.0 *ℤ (pos 64 *ℤ sym t.size i)) -ℤ (past m e.0.1 t.sign q.1 *ℤ (pos 64 *ℤ sym s.size i)))
    ∙ ring (coordinates (e.0 ∷ e.1 ∷ q ∷ []) (s.sign ∷ t.sign ∷ pos m ∷ []))
    (((lit (pos 64) ⊗ (var 6 ⊗ (var 4 ⊖ (var 8 ⊗ var 0)))) ⊗ (lit (pos 64) ⊗ (var 7 ⊗ (var 3 ⊖ var 1))))
    ⊖ ((lit (pos 64) ⊗ (var 7 ⊗ (var 5 ⊖ (var 8 ⊗ var 1)))) ⊗ (lit (pos 64) ⊗ (var 6 ⊗ (var 2 ⊖ var 0)))))
    (lit (pos 64) ⊗ (lit (pos 64) ⊗ (var 6 ⊗ (var 7 ⊗ (((var 3 ⊖ var 1) ⊗ (var 4 ⊖ (var 8 ⊗ var 0))) ⊖ ((var 2 ⊖ var 0) ⊗ (var 5 ⊖ (var 8 ⊗ var 1))))))))
    refl

across_back : (m : ℕ) (e : Edge) (q : Point) (s : HasSign (e.1.0 -ℤ e.0.0)) (t : HasSign (e.1.1 -ℤ e.0.1)) →
    (past m e.0.1 t.sign q.1 *ℤ pos (64 * unsigned_abs (e.1.0 -ℤ e.0.0))) -ℤ (past m e.0.0 s.sign q.0 *ℤ pos (64 * unsigned_abs (e.1.1 -ℤ e.0.1)))
    ≡ pos 64 *ℤ (pos 64 *ℤ (neg_ℤ s.sign *ℤ (t.sign *ℤ (((e.1.1 -ℤ e.0.1) *ℤ (q.0 -ℤ (pos m *ℤ e.0.0))) -ℤ ((e.1.0 -ℤ e.0.0) *ℤ (q.1 -ℤ (pos m *ℤ e.0.1)))))))
across_back m e q s t =
    (λ i. (past m e.0.1 t.sign q.1 *ℤ (pos 64 *ℤ sym s.size i)) -ℤ (past m e.0.0 s.sign q.0 *ℤ (pos 64 *ℤ sym t.size i)))
    ∙ ring (coordinates (e.0 ∷ e.1 ∷ q ∷ []) (s.sign ∷ t.sign ∷ pos m ∷ []))
    (((lit (pos 64) ⊗ (var 7 ⊗ (var 5 ⊖ (var 8 ⊗ var 1)))) ⊗ (lit (pos 64) ⊗ (var 6 ⊗ (var 2 ⊖ var 0))))
    ⊖ ((lit (pos 64) ⊗ (var 6 ⊗ (var 4 ⊖ (var 8 ⊗ var 0)))) ⊗ (lit (pos 64) ⊗ (var 7 ⊗ (var 3 ⊖ var 1)))))
    (lit (pos 64) ⊗ (lit (pos 64) ⊗ (neg (var 6) ⊗ (var 7 ⊗ (((var 3 ⊖ var 1) ⊗ (var 4 ⊖ (var 8 ⊗ var 0))) ⊖ ((var 2 ⊖ var 0) ⊗ (var 5 ⊖ (var 8 ⊗ var 1))))))))
    refl

-- ---- near, or beyond some line

pub near_or_beyond : (k m : ℕ) → 0 < m → (e : Edge) (q : Point) → IsNearTo k m e q ⊎ LiesBeyond k m e q
near_or_beyond k m some e q =
    ⊎_elim
    (λ (x : IsAlong k m e.0.0 e.1.0 q.0 s).
    ⊎_elim
    (λ (y : IsAlong k m e.0.1 e.1.1 q.1 t).
    by_lt_z bound one
    (λ (h : bound <ℤ one). inr (beyond_across k m e q (record {
      unit = s.sign;
      other = t.sign;
      is_unit = s.unit;
      is_other = t.unit;
      past = omega (arith, linear, h, across_same m e q s t);
    })))
    (λ (below : one ≤ℤ bound).
    by_lt_z bound two
    (λ (h : bound <ℤ two). inr (beyond_across k m e q (record {
      unit = neg_ℤ s.sign;
      other = t.sign;
      is_unit = unit_back s.sign s.unit;
      is_other = t.unit;
      past = omega (arith, linear, h, across_back m e q s t);
    })))
    (λ (above : two ≤ℤ bound).
    inl (near_beside k m some e q s t (record { west = x.0; east = x.1; south = y.0; north = y.1; below = below; above = above })))))
    (λ (h : IsPast k m e.0.1 e.1.1 q.1). inr (beyond_y k m e q h))
    (along_or_past k m e.0.1 e.1.1 q.1 t))
    (λ (h : IsPast k m e.0.0 e.1.0 q.0). inr (beyond_x k m e q h))
    (along_or_past k m e.0.0 e.1.0 q.0 s)
  where
    s : HasSign (e.1.0 -ℤ e.0.0)
    s = sign_of (e.1.0 -ℤ e.0.0)

    t : HasSign (e.1.1 -ℤ e.0.1)
    t = sign_of (e.1.1 -ℤ e.0.1)

    bound : ℤ
    bound = (pos (64 * unsigned_abs (e.1.0 -ℤ e.0.0)) +ℤ pos (64 * unsigned_abs (e.1.1 -ℤ e.0.1))) *ℤ pos (k * m)

    one : ℤ
    one = (past m e.0.0 s.sign q.0 *ℤ pos (64 * unsigned_abs (e.1.1 -ℤ e.0.1))) -ℤ (past m e.0.1 t.sign q.1 *ℤ pos (64 * unsigned_abs (e.1.0 -ℤ e.0.0)))

    two : ℤ
    two = (past m e.0.1 t.sign q.1 *ℤ pos (64 * unsigned_abs (e.1.0 -ℤ e.0.0))) -ℤ (past m e.0.0 s.sign q.0 *ℤ pos (64 * unsigned_abs (e.1.1 -ℤ e.0.1)))

pub far_beyond : (k m : ℕ) → 0 < m → (e : Edge) (q : Point) → (IsNearTo k m e q → ⊥) → LiesBeyond k m e q
far_beyond k m some e q far = ⊎_elim (λ (h : IsNearTo k m e q). absurd (far h)) (λ (h : LiesBeyond k m e q). h) (near_or_beyond k m some e q)
