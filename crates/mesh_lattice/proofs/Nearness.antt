-- Lemmas over points: when a point lies near an edge, by linear measures.
use Rattle.std.proofs.Common.{◌≡◌, ℕ, ◌+◌, ◌*◌, ◌<◌, ◌≤◌, ◌⊎◌, inl, inr, [], ◌∷◌, refl, sym, ◌∙◌, ap, subst, arith, suc}
use Rattle.std.specs.Prelude.{ℤ, pos, negsuc, ◌+ℤ◌, ◌-ℤ◌, ◌*ℤ◌, ◌≤ℤ◌, ◌<ℤ◌, neg_ℤ, unsigned_abs}
use Rattle.std.proofs.Math.Nat.{mul-le-mul_right}
use Rattle.std.proofs.lemmas.Int.{ints}
use Rattle.mesh_plane.specs.Plane.{Point, Edge, turn}
use Rattle.mesh_plane.specs.Winding.{refined}
use Rattle.mesh_plane.proofs.HalfPlanes.{along_by}
use Rattle.mesh_plane.proofs.PointExprs.{point_var, coordinates, turned}
use Rattle.mesh_plane.proofs.Ring.{ring, var, lit, neg, ◌⊕◌, ◌⊖◌, ◌⊗◌}
use Rattle.mesh_plane.proofs.Whole.{linear, mul_le_mul_left, le_of_mul_le_mul, mul_pos, one_mul}
use Rattle.mesh_lattice.specs.Clean.{IsOn, refined_edge}
use Rattle.mesh_lattice.specs.Nearness.{IsNearTo}
use Rattle.mesh_lattice.specs.Split.{IsBetween, IsInBox}
use Rattle.mesh_lattice.proofs.Boxes.{turn_start, turn_end, start_box, end_box}
use Rattle.mesh_lattice.proofs.Means.{IsMean, mean_of_on, on_of_mean, mean_most}
use Rattle.mesh_lattice.proofs.Strips.{IsInStrips, IsReached, reached}

pub opposite_size : (x : ℤ) → unsigned_abs (neg_ℤ x) ≡ unsigned_abs x
opposite_size x = omega (arith, ints)

-- ---- a near point goes by no linear measure much beyond both ends

size_product : (u d : ℤ) (k : ℕ) → 64 * unsigned_abs d ≤ k → (pos 64 *ℤ (u *ℤ d)) ≤ℤ (pos (unsigned_abs u) *ℤ pos k)
size_product (pos n) d k h =
    let l : (pos 64 *ℤ d) ≤ℤ pos k = omega (arith, ints) in
    let m : (pos n *ℤ (pos 64 *ℤ d)) ≤ℤ (pos n *ℤ pos k) = mul_le_mul_left (pos n) (pos 64 *ℤ d) (pos k) (omega (arith, ints)) l in
    let e : pos 64 *ℤ (pos n *ℤ d) ≡ pos n *ℤ (pos 64 *ℤ d) =
    ring (pos n ∷ d ∷ []) (lit (pos 64) ⊗ (var 0 ⊗ var 1)) (var 0 ⊗ (lit (pos 64) ⊗ var 1)) refl in
    omega (arith, linear)
size_product (negsuc n) d k h =
    let l : (pos 64 *ℤ neg_ℤ d) ≤ℤ pos k = omega (arith, ints) in
    let m : (pos (suc n) *ℤ (pos 64 *ℤ neg_ℤ d)) ≤ℤ (pos (suc n) *ℤ pos k) = mul_le_mul_left (pos (suc n)) (pos 64 *ℤ neg_ℤ d) (pos k) (omega (arith, ints)) l in
    let e : pos 64 *ℤ (neg_ℤ (pos (suc n)) *ℤ d) ≡ pos (suc n) *ℤ (pos 64 *ℤ neg_ℤ d) =
    ring (pos (suc n) ∷ d ∷ []) (lit (pos 64) ⊗ (neg (var 0) ⊗ var 1)) (var 0 ⊗ (lit (pos 64) ⊗ neg (var 1))) refl in
    omega (arith, linear)

pub mean_along : (u v s t : ℤ) (a b z : Point) → (s +ℤ t) *ℤ z.0 ≡ (s *ℤ a.0) +ℤ (t *ℤ b.0) → (s +ℤ t) *ℤ z.1 ≡ (s *ℤ a.1) +ℤ (t *ℤ b.1) →
    (s +ℤ t) *ℤ along_by u v z ≡ (s *ℤ along_by u v a) +ℤ (t *ℤ along_by u v b)
mean_along u v s t a b z ex ey =
    ring (u ∷ v ∷ s ∷ t ∷ z.0 ∷ z.1 ∷ []) ((var 2 ⊕ var 3) ⊗ ((var 0 ⊗ var 4) ⊕ (var 1 ⊗ var 5))) ((var 0 ⊗ ((var 2 ⊕ var 3) ⊗ var 4)) ⊕ (var 1 ⊗ ((var 2 ⊕ var 3) ⊗ var 5))) refl
    ∙ ((λ i. (u *ℤ ex i) +ℤ (v *ℤ ey i))
    ∙ ring (u ∷ v ∷ s ∷ t ∷ a.0 ∷ a.1 ∷ b.0 ∷ b.1 ∷ [])
    ((var 0 ⊗ ((var 2 ⊗ var 4) ⊕ (var 3 ⊗ var 6))) ⊕ (var 1 ⊗ ((var 2 ⊗ var 5) ⊕ (var 3 ⊗ var 7))))
    ((var 2 ⊗ ((var 0 ⊗ var 4) ⊕ (var 1 ⊗ var 5))) ⊕ (var 3 ⊗ ((var 0 ⊗ var 6) ⊕ (var 1 ⊗ var 7))))
    refl)

along_refined : (u v : ℤ) (n m : ℕ) (p : Point) → along_by u v (refined (n * m) p) ≡ pos n *ℤ along_by u v (refined m p)
along_refined u v n m p =
    ring (u ∷ v ∷ pos n ∷ pos m ∷ p.0 ∷ p.1 ∷ [])
    ((var 0 ⊗ ((var 2 ⊗ var 3) ⊗ var 4)) ⊕ (var 1 ⊗ ((var 2 ⊗ var 3) ⊗ var 5)))
    (var 2 ⊗ ((var 0 ⊗ (var 3 ⊗ var 4)) ⊕ (var 1 ⊗ (var 3 ⊗ var 5))))
    refl

along_parts : (u v n : ℤ) (q z : Point) →
    pos 64 *ℤ (n *ℤ along_by u v q) ≡ ((pos 64 *ℤ (u *ℤ ((n *ℤ q.0) -ℤ z.0))) +ℤ (pos 64 *ℤ (v *ℤ ((n *ℤ q.1) -ℤ z.1)))) +ℤ (pos 64 *ℤ along_by u v z)
along_parts u v n q z =
    ring (u ∷ v ∷ n ∷ q.0 ∷ q.1 ∷ z.0 ∷ z.1 ∷ [])
    (lit (pos 64) ⊗ (var 2 ⊗ ((var 0 ⊗ var 3) ⊕ (var 1 ⊗ var 4))))
    (((lit (pos 64) ⊗ (var 0 ⊗ ((var 2 ⊗ var 3) ⊖ var 5))) ⊕ (lit (pos 64) ⊗ (var 1 ⊗ ((var 2 ⊗ var 4) ⊖ var 6)))) ⊕ (lit (pos 64) ⊗ ((var 0 ⊗ var 5) ⊕ (var 1 ⊗ var 6))))
    refl

pub near_along : (k m : ℕ) (e : Edge) (q : Point) → IsNearTo k m e q → (u v c : ℤ) →
    along_by u v (refined m e.0) ≤ℤ c → along_by u v (refined m e.1) ≤ℤ c →
    (pos 64 *ℤ along_by u v q) ≤ℤ ((pos 64 *ℤ c) +ℤ ((pos (unsigned_abs u) +ℤ pos (unsigned_abs v)) *ℤ (pos k *ℤ pos m)))
near_along k m e q h u v c start end =
    le_of_mul_le_mul (pos n) (pos 64 *ℤ along_by u v q) ((pos 64 *ℤ c) +ℤ ((x +ℤ y) *ℤ (pos k *ℤ pos m))) some
    (omega (arith, linear, left, right, along_parts u v (pos n) q z, size_product u ((pos n *ℤ q.0) -ℤ z.0) (k * (n * m)) h.by_x, size_product v ((pos n *ℤ q.1) -ℤ z.1) (k * (n * m)) h.by_y, nearest))
  where
    n : ℕ
    n = h.grid

    z : Point
    z = h.nearest

    x : ℤ
    x = pos (unsigned_abs u)

    y : ℤ
    y = pos (unsigned_abs v)

    some : pos 0 <ℤ pos n
    some = let p = h.positive in omega (arith, ints)

    mean : IsMean (refined (n * m) e.0) (refined (n * m) e.1) z
    mean = mean_of_on (refined (n * m) e.0) (refined (n * m) e.1) z h.on_edge

    bound : along_by u v z ≤ℤ (pos n *ℤ c)
    bound =
        let first = mul_le_mul_left (pos n) (along_by u v (refined m e.0)) c (omega (arith, ints)) start in
        let second = mul_le_mul_left (pos n) (along_by u v (refined m e.1)) c (omega (arith, ints)) end in
        mean_most mean.first mean.second (pos n *ℤ c) (along_by u v (refined (n * m) e.0)) (along_by u v (refined (n * m) e.1)) (along_by u v z)
        mean.first_least mean.second_least mean.some
        (mean_along u v mean.first mean.second (refined (n * m) e.0) (refined (n * m) e.1) z mean.by_x mean.by_y)
        (omega (arith, linear, first, along_refined u v n m e.0))
        (omega (arith, linear, second, along_refined u v n m e.1))

    nearest : (pos 64 *ℤ along_by u v z) ≤ℤ (pos 64 *ℤ (pos n *ℤ c))
    nearest = mul_le_mul_left (pos 64) (along_by u v z) (pos n *ℤ c) (omega (arith, ints)) bound

    left : pos n *ℤ (pos 64 *ℤ along_by u v q) ≡ pos 64 *ℤ (pos n *ℤ along_by u v q)
    left = ring (pos n ∷ along_by u v q ∷ []) (var 0 ⊗ (lit (pos 64) ⊗ var 1)) (lit (pos 64) ⊗ (var 0 ⊗ var 1)) refl

    right : pos n *ℤ ((pos 64 *ℤ c) +ℤ ((x +ℤ y) *ℤ (pos k *ℤ pos m))) ≡ (pos 64 *ℤ (pos n *ℤ c)) +ℤ ((x *ℤ (pos k *ℤ (pos n *ℤ pos m))) +ℤ (y *ℤ (pos k *ℤ (pos n *ℤ pos m))))
    right =
        ring (pos n ∷ c ∷ x ∷ y ∷ pos k ∷ pos m ∷ [])
        (var 0 ⊗ ((lit (pos 64) ⊗ var 1) ⊕ ((var 2 ⊕ var 3) ⊗ (var 4 ⊗ var 5))))
        ((lit (pos 64) ⊗ (var 0 ⊗ var 1)) ⊕ ((var 2 ⊗ (var 4 ⊗ (var 0 ⊗ var 5))) ⊕ (var 3 ⊗ (var 4 ⊗ (var 0 ⊗ var 5)))))
        refl

-- ---- the sign of a number

-- 1 or -1
abbrev pub IsUnit : ℤ → Type 0
IsUnit s = (s ≡ pos 1) ⊎ (s ≡ negsuc 0)

pub record HasSign (d : ℤ) : Type 0 where
  pub sign : ℤ
  pub unit : IsUnit sign
  pub size : sign *ℤ d ≡ pos (unsigned_abs d)

pub sign_of : (d : ℤ) → HasSign d
sign_of (pos n) = record { sign = pos 1; unit = inl refl; size = omega (arith, ints) }
sign_of (negsuc n) = record { sign = negsuc 0; unit = inr refl; size = omega (arith, ints) }

unit_size : (s d : ℤ) (k : ℕ) → IsUnit s → neg_ℤ (pos k) ≤ℤ (pos 64 *ℤ (s *ℤ d)) → (pos 64 *ℤ (s *ℤ d)) ≤ℤ pos k → 64 * unsigned_abs d ≤ k
unit_size s d k (inl e) low high = let f : s *ℤ d ≡ d = ap (λ (x : ℤ). x *ℤ d) e ∙ one_mul d in omega (arith, ints)
unit_size s d k (inr e) low high = let f : s *ℤ d ≡ neg_ℤ d = ap (λ (x : ℤ). x *ℤ d) e ∙ omega (arith, ints) in omega (arith, ints)

-- ---- what lies in the strips along an edge has a point of it near

abbrev pub past : ℕ → ℤ → ℤ → ℤ → ℤ
past m a s q = pos 64 *ℤ (s *ℤ (q -ℤ (pos m *ℤ a)))

abbrev pub IsBeside : (k m : ℕ) (e : Edge) (q : Point) → HasSign (e.1.0 -ℤ e.0.0) → HasSign (e.1.1 -ℤ e.0.1) → Type 0
IsBeside k m e q s t =
    IsInStrips (k * m) m (64 * unsigned_abs (e.1.0 -ℤ e.0.0)) (64 * unsigned_abs (e.1.1 -ℤ e.0.1)) (past m e.0.0 s.sign q.0) (past m e.0.1 t.sign q.1)

parted : (d x r k low high : ℤ) → d ≡ x -ℤ r → low ≡ x -ℤ k → high ≡ x +ℤ k → low ≤ℤ r → r ≤ℤ high → (neg_ℤ k ≤ℤ d) × (d ≤ℤ k)
parted d x r k low high e f g h l = (omega (arith, linear), omega (arith, linear))

-- one coordinate of the near point
gap : (k m n : ℕ) (a b q r : ℤ) (s : HasSign (b -ℤ a)) →
    (pos n *ℤ (past m a s.sign q -ℤ pos (k * m))) ≤ℤ (r *ℤ pos (64 * unsigned_abs (b -ℤ a))) →
    (r *ℤ pos (64 * unsigned_abs (b -ℤ a))) ≤ℤ (pos n *ℤ (past m a s.sign q +ℤ pos (k * m))) →
    64 * unsigned_abs ((pos n *ℤ q) -ℤ ((pos (n * m) *ℤ a) +ℤ (r *ℤ (b -ℤ a)))) ≤ k * (n * m)
gap k m n a b q r s low high =
    unit_size s.sign ((pos n *ℤ q) -ℤ ((pos (n * m) *ℤ a) +ℤ (r *ℤ (b -ℤ a)))) (k * (n * m)) s.unit
    bounds.0 bounds.1
  where
    same : pos 64 *ℤ (s.sign *ℤ ((pos n *ℤ q) -ℤ ((pos (n * m) *ℤ a) +ℤ (r *ℤ (b -ℤ a))))) ≡ (pos n *ℤ past m a s.sign q) -ℤ (r *ℤ pos (64 * unsigned_abs (b -ℤ a)))
    same =
        ring (s.sign ∷ pos n ∷ pos m ∷ a ∷ b ∷ q ∷ r ∷ [])
        (lit (pos 64) ⊗ (var 0 ⊗ ((var 1 ⊗ var 5) ⊖ (((var 1 ⊗ var 2) ⊗ var 3) ⊕ (var 6 ⊗ (var 4 ⊖ var 3))))))
        ((var 1 ⊗ (lit (pos 64) ⊗ (var 0 ⊗ (var 5 ⊖ (var 2 ⊗ var 3))))) ⊖ (var 6 ⊗ (lit (pos 64) ⊗ (var 0 ⊗ (var 4 ⊖ var 3)))))
        refl
        ∙ ap (λ (x : ℤ). (pos n *ℤ past m a s.sign q) -ℤ (r *ℤ (pos 64 *ℤ x))) s.size

    parted_low : pos n *ℤ (past m a s.sign q -ℤ pos (k * m)) ≡ (pos n *ℤ past m a s.sign q) -ℤ pos (k * (n * m))
    parted_low = ring (pos n ∷ past m a s.sign q ∷ pos k ∷ pos m ∷ []) (var 0 ⊗ (var 1 ⊖ (var 2 ⊗ var 3))) ((var 0 ⊗ var 1) ⊖ (var 2 ⊗ (var 0 ⊗ var 3))) refl

    parted_high : pos n *ℤ (past m a s.sign q +ℤ pos (k * m)) ≡ (pos n *ℤ past m a s.sign q) +ℤ pos (k * (n * m))
    parted_high = ring (pos n ∷ past m a s.sign q ∷ pos k ∷ pos m ∷ []) (var 0 ⊗ (var 1 ⊕ (var 2 ⊗ var 3))) ((var 0 ⊗ var 1) ⊕ (var 2 ⊗ (var 0 ⊗ var 3))) refl

    bounds : (neg_ℤ (pos (k * (n * m))) ≤ℤ (pos 64 *ℤ (s.sign *ℤ ((pos n *ℤ q) -ℤ ((pos (n * m) *ℤ a) +ℤ (r *ℤ (b -ℤ a)))))))
        × ((pos 64 *ℤ (s.sign *ℤ ((pos n *ℤ q) -ℤ ((pos (n * m) *ℤ a) +ℤ (r *ℤ (b -ℤ a)))))) ≤ℤ pos (k * (n * m)))
    bounds =
        parted (pos 64 *ℤ (s.sign *ℤ ((pos n *ℤ q) -ℤ ((pos (n * m) *ℤ a) +ℤ (r *ℤ (b -ℤ a)))))) (pos n *ℤ past m a s.sign q)
        (r *ℤ pos (64 * unsigned_abs (b -ℤ a))) (pos (k * (n * m))) (pos n *ℤ (past m a s.sign q -ℤ pos (k * m)))
        (pos n *ℤ (past m a s.sign q +ℤ pos (k * m))) same parted_low parted_high low high

-- a part of the way along an edge, on a finer grid
part_mean : (n a b r : ℤ) → ((n -ℤ r) +ℤ r) *ℤ ((n *ℤ a) +ℤ (r *ℤ (b -ℤ a))) ≡ ((n -ℤ r) *ℤ (n *ℤ a)) +ℤ (r *ℤ (n *ℤ b))
part_mean n a b r =
    ring (n ∷ a ∷ b ∷ r ∷ []) (((var 0 ⊖ var 3) ⊕ var 3) ⊗ ((var 0 ⊗ var 1) ⊕ (var 3 ⊗ (var 2 ⊖ var 1)))) (((var 0 ⊖ var 3) ⊗ (var 0 ⊗ var 1)) ⊕ (var 3 ⊗ (var 0 ⊗ var 2))) refl

pub near_beside : (k m : ℕ) → 0 < m → (e : Edge) (q : Point) (s : HasSign (e.1.0 -ℤ e.0.0)) (t : HasSign (e.1.1 -ℤ e.0.1)) → IsBeside k m e q s t → IsNearTo k m e q
near_beside k m some e q s t h = record {
  grid = n;
  positive = r.positive;
  nearest = ((pos (n * m) *ℤ e.0.0) +ℤ (r.part *ℤ (e.1.0 -ℤ e.0.0)), (pos (n * m) *ℤ e.0.1) +ℤ (r.part *ℤ (e.1.1 -ℤ e.0.1)));
  on_edge = on_of_mean (refined (n * m) e.0) (refined (n * m) e.1)
      ((pos (n * m) *ℤ e.0.0) +ℤ (r.part *ℤ (e.1.0 -ℤ e.0.0)), (pos (n * m) *ℤ e.0.1) +ℤ (r.part *ℤ (e.1.1 -ℤ e.0.1))) (record {
        first = pos (n * m) -ℤ r.part;
        second = r.part;
        first_least = omega (arith, linear, r.most);
        second_least = r.least;
        some = omega (arith, linear, above);
        by_x = part_mean (pos (n * m)) e.0.0 e.1.0 r.part;
        by_y = part_mean (pos (n * m)) e.0.1 e.1.1 r.part;
      });
  by_x = gap k m n e.0.0 e.1.0 q.0 r.part s r.west r.east;
  by_y = gap k m n e.0.1 e.1.1 q.1 r.part t r.south r.north;
}
  where
    r : IsReached (k * m) m (64 * unsigned_abs (e.1.0 -ℤ e.0.0)) (64 * unsigned_abs (e.1.1 -ℤ e.0.1)) (past m e.0.0 s.sign q.0) (past m e.0.1 t.sign q.1)
    r = reached (k * m) m (64 * unsigned_abs (e.1.0 -ℤ e.0.0)) (64 * unsigned_abs (e.1.1 -ℤ e.0.1)) (past m e.0.0 s.sign q.0) (past m e.0.1 t.sign q.1) h

    n : ℕ
    n = r.grid

    above : pos 0 <ℤ pos (n * m)
    above = mul_pos (pos n) (pos m) (let p = r.positive in omega (arith, ints)) (omega (arith, ints))

-- ---- a point in an edge's box, by its turn from the edge

-- the sum of the sizes of both coordinates' differences
abbrev pub spread : Edge → ℕ
spread e = unsigned_abs (e.1.0 -ℤ e.0.0) + unsigned_abs (e.1.1 -ℤ e.0.1)

signed_between : (a z b : ℤ) (s : HasSign (b -ℤ a)) → IsBetween a z b → (pos 0 ≤ℤ (s.sign *ℤ (z -ℤ a))) × ((s.sign *ℤ (z -ℤ a)) ≤ℤ pos (unsigned_abs (b -ℤ a)))
signed_between a z b s h = by s.unit
  where
    by : IsUnit s.sign → (pos 0 ≤ℤ (s.sign *ℤ (z -ℤ a))) × ((s.sign *ℤ (z -ℤ a)) ≤ℤ pos (unsigned_abs (b -ℤ a)))
    by (inl e) =
        let x : s.sign *ℤ (z -ℤ a) ≡ pos 1 *ℤ (z -ℤ a) = ap (λ (n : ℤ). n *ℤ (z -ℤ a)) e in
        let y : s.sign *ℤ (b -ℤ a) ≡ pos 1 *ℤ (b -ℤ a) = ap (λ (n : ℤ). n *ℤ (b -ℤ a)) e in
        let size : s.sign *ℤ (b -ℤ a) ≡ pos (unsigned_abs (b -ℤ a)) = s.size in
        let w = h.up (omega (arith, ints)) in
        (omega (arith, ints, w.0), omega (arith, ints, w.1))
    by (inr e) =
        let x : s.sign *ℤ (z -ℤ a) ≡ negsuc 0 *ℤ (z -ℤ a) = ap (λ (n : ℤ). n *ℤ (z -ℤ a)) e in
        let y : s.sign *ℤ (b -ℤ a) ≡ negsuc 0 *ℤ (b -ℤ a) = ap (λ (n : ℤ). n *ℤ (b -ℤ a)) e in
        let size : s.sign *ℤ (b -ℤ a) ≡ pos (unsigned_abs (b -ℤ a)) = s.size in
        let w = h.down (omega (arith, ints)) in
        (omega (arith, ints, w.1), omega (arith, ints, w.0))

unit_bound : (s x : ℤ) → IsUnit s → (neg_ℤ (pos (unsigned_abs x)) ≤ℤ (s *ℤ x)) × ((s *ℤ x) ≤ℤ pos (unsigned_abs x))
unit_bound s x (inl e) = let f : s *ℤ x ≡ pos 1 *ℤ x = ap (λ (n : ℤ). n *ℤ x) e in (omega (arith, ints), omega (arith, ints))
unit_bound s x (inr e) = let f : s *ℤ x ≡ negsuc 0 *ℤ x = ap (λ (n : ℤ). n *ℤ x) e in (omega (arith, ints), omega (arith, ints))

unit_product : (s t x : ℤ) → IsUnit s → IsUnit t →
    (neg_ℤ (pos (unsigned_abs x)) ≤ℤ (s *ℤ (t *ℤ x))) × ((s *ℤ (t *ℤ x)) ≤ℤ pos (unsigned_abs x))
unit_product s t x hs ht =
    let outer = unit_bound s (t *ℤ x) hs in
    let inner = unit_bound t x ht in
    (omega (arith, ints, outer.0, outer.1, inner.0, inner.1), omega (arith, ints, outer.0, outer.1, inner.0, inner.1))

box_strip : (a q s : ℤ) (n k : ℕ) → (pos 0 ≤ℤ (s *ℤ (q -ℤ a))) × ((s *ℤ (q -ℤ a)) ≤ℤ pos n) →
    (neg_ℤ (pos (k * 1)) ≤ℤ past 1 a s q) × (past 1 a s q ≤ℤ ((pos 1 *ℤ pos (64 * n)) +ℤ pos (k * 1)))
box_strip a q s n k h =
    let same : past 1 a s q ≡ pos 64 *ℤ (s *ℤ (q -ℤ a)) = ap (λ (x : ℤ). pos 64 *ℤ (s *ℤ (q -ℤ x))) (one_mul a) in
    bounded (s *ℤ (q -ℤ a)) (past 1 a s q) same h.0 h.1
  where
    bounded : (d x : ℤ) → x ≡ pos 64 *ℤ d → pos 0 ≤ℤ d → d ≤ℤ pos n → (neg_ℤ (pos (k * 1)) ≤ℤ x) × (x ≤ℤ ((pos 1 *ℤ pos (64 * n)) +ℤ pos (k * 1)))
    bounded d x e low high = (omega (arith, ints), omega (arith, ints))

-- the strip along the edge, by the turn
turn_strip : (a b p : Point) (s : HasSign (b.0 -ℤ a.0)) (t : HasSign (b.1 -ℤ a.1)) →
    (past 1 a.0 s.sign p.0 *ℤ pos (64 * unsigned_abs (b.1 -ℤ a.1))) -ℤ (past 1 a.1 t.sign p.1 *ℤ pos (64 * unsigned_abs (b.0 -ℤ a.0)))
    ≡ neg_ℤ (pos 64 *ℤ (pos 64 *ℤ (s.sign *ℤ (t.sign *ℤ turn a b p))))
turn_strip a b p s t =
    (λ i. (past 1 a.0 s.sign p.0 *ℤ (pos 64 *ℤ sym t.size i)) -ℤ (past 1 a.1 t.sign p.1 *ℤ (pos 64 *ℤ sym s.size i)))
    ∙ ring (coordinates (a ∷ b ∷ p ∷ []) (s.sign ∷ t.sign ∷ []))
    (((lit (pos 64) ⊗ (var 6 ⊗ (var 4 ⊖ (lit (pos 1) ⊗ var 0)))) ⊗ (lit (pos 64) ⊗ (var 7 ⊗ (var 3 ⊖ var 1))))
    ⊖ ((lit (pos 64) ⊗ (var 7 ⊗ (var 5 ⊖ (lit (pos 1) ⊗ var 1)))) ⊗ (lit (pos 64) ⊗ (var 6 ⊗ (var 2 ⊖ var 0)))))
    (neg (lit (pos 64) ⊗ (lit (pos 64) ⊗ (var 6 ⊗ (var 7 ⊗ turned (point_var 0) (point_var 1) (point_var 2))))))
    refl

strip_bound : (k x y n : ℕ) (w : ℤ) → (neg_ℤ (pos n) ≤ℤ w) × (w ≤ℤ pos n) → 64 * n ≤ k * (x + y) →
    ((pos 64 *ℤ (pos 64 *ℤ w)) ≤ℤ ((pos (64 * x) +ℤ pos (64 * y)) *ℤ pos (k * 1))) × (neg_ℤ (pos 64 *ℤ (pos 64 *ℤ w)) ≤ℤ ((pos (64 * x) +ℤ pos (64 * y)) *ℤ pos (k * 1)))
strip_bound k x y n w h l =
    let e : (pos (64 * x) +ℤ pos (64 * y)) *ℤ pos (k * 1) ≡ pos 64 *ℤ pos (k * (x + y)) =
    ring (pos k ∷ pos x ∷ pos y ∷ []) (((lit (pos 64) ⊗ var 1) ⊕ (lit (pos 64) ⊗ var 2)) ⊗ (var 0 ⊗ lit (pos 1))) (lit (pos 64) ⊗ (var 0 ⊗ (var 1 ⊕ var 2))) refl in
    let m : (pos 64 *ℤ pos n) ≤ℤ pos (k * (x + y)) = omega (arith, ints) in
    let low = h.0 in
    let high = h.1 in
    bounded (pos (k * (x + y))) (pos n) w ((pos (64 * x) +ℤ pos (64 * y)) *ℤ pos (k * 1)) e m low high
  where
    bounded : (r n w b : ℤ) → b ≡ pos 64 *ℤ r → (pos 64 *ℤ n) ≤ℤ r → neg_ℤ n ≤ℤ w → w ≤ℤ n → ((pos 64 *ℤ (pos 64 *ℤ w)) ≤ℤ b) × (neg_ℤ (pos 64 *ℤ (pos 64 *ℤ w)) ≤ℤ b)
    bounded r n w b e m low high = (omega (arith, ints), omega (arith, ints))

-- a point in the box whose turn is small against the edge's spread lies near
pub near_of_turn : (k : ℕ) (e : Edge) (p : Point) → IsInBox e p → 64 * unsigned_abs (turn e.0 e.1 p) ≤ k * spread e → IsNearTo k 1 e p
near_of_turn k e p box small =
    near_beside k 1 (omega arith) e p s t (record {
      west = x.0;
      east = x.1;
      south = y.0;
      north = y.1;
      below = omega (arith, linear, turn_strip e.0 e.1 p s t, strips.1);
      above = omega (arith, linear, turn_strip e.0 e.1 p s t, strips.0);
    })
  where
    s : HasSign (e.1.0 -ℤ e.0.0)
    s = sign_of (e.1.0 -ℤ e.0.0)

    t : HasSign (e.1.1 -ℤ e.0.1)
    t = sign_of (e.1.1 -ℤ e.0.1)

    x : (neg_ℤ (pos (k * 1)) ≤ℤ past 1 e.0.0 s.sign p.0) × (past 1 e.0.0 s.sign p.0 ≤ℤ ((pos 1 *ℤ pos (64 * unsigned_abs (e.1.0 -ℤ e.0.0))) +ℤ pos (k * 1)))
    x = box_strip e.0.0 p.0 s.sign (unsigned_abs (e.1.0 -ℤ e.0.0)) k (signed_between e.0.0 p.0 e.1.0 s box.by_x)

    y : (neg_ℤ (pos (k * 1)) ≤ℤ past 1 e.0.1 t.sign p.1) × (past 1 e.0.1 t.sign p.1 ≤ℤ ((pos 1 *ℤ pos (64 * unsigned_abs (e.1.1 -ℤ e.0.1))) +ℤ pos (k * 1)))
    y = box_strip e.0.1 p.1 t.sign (unsigned_abs (e.1.1 -ℤ e.0.1)) k (signed_between e.0.1 p.1 e.1.1 t box.by_y)

    strips : ((pos 64 *ℤ (pos 64 *ℤ (s.sign *ℤ (t.sign *ℤ turn e.0 e.1 p)))) ≤ℤ ((pos (64 * unsigned_abs (e.1.0 -ℤ e.0.0)) +ℤ pos (64 * unsigned_abs (e.1.1 -ℤ e.0.1))) *ℤ pos (k * 1)))
        × (neg_ℤ (pos 64 *ℤ (pos 64 *ℤ (s.sign *ℤ (t.sign *ℤ turn e.0 e.1 p)))) ≤ℤ ((pos (64 * unsigned_abs (e.1.0 -ℤ e.0.0)) +ℤ pos (64 * unsigned_abs (e.1.1 -ℤ e.0.1))) *ℤ pos (k * 1)))
    strips =
        strip_bound k (unsigned_abs (e.1.0 -ℤ e.0.0)) (unsigned_abs (e.1.1 -ℤ e.0.1)) (unsigned_abs (turn e.0 e.1 p)) (s.sign *ℤ (t.sign *ℤ turn e.0 e.1 p))
        (unit_product s.sign t.sign (turn e.0 e.1 p) s.unit t.unit) small

-- and near points have such turns
pub turn_of_near : (k : ℕ) (e : Edge) (p : Point) → IsNearTo k 1 e p → 64 * unsigned_abs (turn e.0 e.1 p) ≤ k * spread e
turn_of_near k e p h = both (turn e.0 e.1 p) (k * spread e) (omega (arith, linear, left, size_left)) (omega (arith, linear, right, size_right))
  where
    both : (x : ℤ) (n : ℕ) → (pos 64 *ℤ x) ≤ℤ pos n → neg_ℤ (pos 64 *ℤ x) ≤ℤ pos n → 64 * unsigned_abs x ≤ n
    both x n a b = omega (arith, ints)

    dx : ℤ
    dx = e.1.0 -ℤ e.0.0

    dy : ℤ
    dy = e.1.1 -ℤ e.0.1

    left : (pos 64 *ℤ turn e.0 e.1 p) ≤ℤ ((pos (unsigned_abs (neg_ℤ dy)) +ℤ pos (unsigned_abs dx)) *ℤ (pos k *ℤ pos 1))
    left =
        let start : along_by (neg_ℤ dy) dx (refined 1 e.1) ≡ along_by (neg_ℤ dy) dx (refined 1 e.0) =
        ring (coordinates (e.0 ∷ e.1 ∷ []) [])
        ((neg (var 3 ⊖ var 1) ⊗ (lit (pos 1) ⊗ var 2)) ⊕ ((var 2 ⊖ var 0) ⊗ (lit (pos 1) ⊗ var 3)))
        ((neg (var 3 ⊖ var 1) ⊗ (lit (pos 1) ⊗ var 0)) ⊕ ((var 2 ⊖ var 0) ⊗ (lit (pos 1) ⊗ var 1)))
        refl in
        let past : pos 64 *ℤ turn e.0 e.1 p ≡ (pos 64 *ℤ along_by (neg_ℤ dy) dx p) -ℤ (pos 64 *ℤ along_by (neg_ℤ dy) dx (refined 1 e.0)) =
        ring (coordinates (e.0 ∷ e.1 ∷ p ∷ []) [])
        (lit (pos 64) ⊗ turned (point_var 0) (point_var 1) (point_var 2))
        ((lit (pos 64) ⊗ ((neg (var 3 ⊖ var 1) ⊗ var 4) ⊕ ((var 2 ⊖ var 0) ⊗ var 5))) ⊖ (lit (pos 64) ⊗ ((neg (var 3 ⊖ var 1) ⊗ (lit (pos 1) ⊗ var 0)) ⊕ ((var 2 ⊖ var 0) ⊗ (lit (pos 1) ⊗ var 1)))))
        refl in
        omega (arith, linear, past, near_along k 1 e p h (neg_ℤ dy) dx (along_by (neg_ℤ dy) dx (refined 1 e.0)) (omega (arith, linear)) (omega (arith, linear, start)))

    right : neg_ℤ (pos 64 *ℤ turn e.0 e.1 p) ≤ℤ ((pos (unsigned_abs dy) +ℤ pos (unsigned_abs (neg_ℤ dx))) *ℤ (pos k *ℤ pos 1))
    right =
        let start : along_by dy (neg_ℤ dx) (refined 1 e.1) ≡ along_by dy (neg_ℤ dx) (refined 1 e.0) =
        ring (coordinates (e.0 ∷ e.1 ∷ []) [])
        (((var 3 ⊖ var 1) ⊗ (lit (pos 1) ⊗ var 2)) ⊕ (neg (var 2 ⊖ var 0) ⊗ (lit (pos 1) ⊗ var 3)))
        (((var 3 ⊖ var 1) ⊗ (lit (pos 1) ⊗ var 0)) ⊕ (neg (var 2 ⊖ var 0) ⊗ (lit (pos 1) ⊗ var 1)))
        refl in
        let past : neg_ℤ (pos 64 *ℤ turn e.0 e.1 p) ≡ (pos 64 *ℤ along_by dy (neg_ℤ dx) p) -ℤ (pos 64 *ℤ along_by dy (neg_ℤ dx) (refined 1 e.0)) =
        ring (coordinates (e.0 ∷ e.1 ∷ p ∷ []) [])
        (neg (lit (pos 64) ⊗ turned (point_var 0) (point_var 1) (point_var 2)))
        ((lit (pos 64) ⊗ (((var 3 ⊖ var 1) ⊗ var 4) ⊕ (neg (var 2 ⊖ var 0) ⊗ var 5))) ⊖ (lit (pos 64) ⊗ (((var 3 ⊖ var 1) ⊗ (lit (pos 1) ⊗ var 0)) ⊕ (neg (var 2 ⊖ var 0) ⊗ (lit (pos 1) ⊗ var 1)))))
        refl in
        omega (arith, linear, past, near_along k 1 e p h dy (neg_ℤ dx) (along_by dy (neg_ℤ dx) (refined 1 e.0)) (omega (arith, linear)) (omega (arith, linear, start)))

    size_left : (pos (unsigned_abs (neg_ℤ dy)) +ℤ pos (unsigned_abs dx)) *ℤ (pos k *ℤ pos 1) ≡ pos (k * spread e)
    size_left =
        ap (λ (n : ℕ). (pos n +ℤ pos (unsigned_abs dx)) *ℤ (pos k *ℤ pos 1)) (opposite_size dy)
        ∙ ring (pos (unsigned_abs dx) ∷ pos (unsigned_abs dy) ∷ pos k ∷ []) ((var 1 ⊕ var 0) ⊗ (var 2 ⊗ lit (pos 1))) (var 2 ⊗ (var 0 ⊕ var 1)) refl

    size_right : (pos (unsigned_abs dy) +ℤ pos (unsigned_abs (neg_ℤ dx))) *ℤ (pos k *ℤ pos 1) ≡ pos (k * spread e)
    size_right =
        ap (λ (n : ℕ). (pos (unsigned_abs dy) +ℤ pos n) *ℤ (pos k *ℤ pos 1)) (opposite_size dx)
        ∙ ring (pos (unsigned_abs dx) ∷ pos (unsigned_abs dy) ∷ pos k ∷ []) ((var 1 ⊕ var 0) ⊗ (var 2 ⊗ lit (pos 1))) (var 2 ⊗ (var 0 ⊕ var 1)) refl

-- ---- what is near by definition

pub near_more : (k l m : ℕ) (e : Edge) (q : Point) → k ≤ l → IsNearTo k m e q → IsNearTo l m e q
near_more k l m e q more h =
    let wider : k * (h.grid * m) ≤ l * (h.grid * m) = mul-le-mul_right (h.grid * m) more in
    record {
      grid = h.grid;
      positive = h.positive;
      nearest = h.nearest;
      on_edge = h.on_edge;
      by_x = omega (arith, h.by_x);
      by_y = omega (arith, h.by_y);
    }

pub near_on : (k m : ℕ) (e : Edge) (q : Point) → IsOn (refined_edge m e) q → IsNearTo k m e q
near_on k m e q on = record {
  grid = 1;
  positive = omega arith;
  nearest = q;
  on_edge = subst (λ (n : ℕ). IsOn (refined_edge n e) q) same on;
  by_x = none q.0;
  by_y = none q.1;
}
  where
    same : m ≡ 1 * m
    same = omega arith

    none : (x : ℤ) → 64 * unsigned_abs ((pos 1 *ℤ x) -ℤ x) ≤ k * (1 * m)
    none x = let e : unsigned_abs ((pos 1 *ℤ x) -ℤ x) ≡ 0 = omega (arith, ints) in omega arith

refined_once : (p : Point) → p ≡ refined 1 p
refined_once p = λ i. (sym (one_mul p.0) i, sym (one_mul p.1) i)

pub near_at : (k : ℕ) (e : Edge) (p : Point) → IsOn e p → IsNearTo k 1 e p
near_at k e p on = near_on k 1 e p (subst (λ (f : Edge). IsOn f p) (λ i. (refined_once e.0 i, refined_once e.1 i)) on)

pub near_start : (k : ℕ) (e : Edge) → IsNearTo k 1 e e.0
near_start k e = near_at k e e.0 (record { on_line = turn_start e.0 e.1; in_box = start_box e })

pub near_end : (k : ℕ) (e : Edge) → IsNearTo k 1 e e.1
near_end k e = near_at k e e.1 (record { on_line = turn_end e.0 e.1; in_box = end_box e })
