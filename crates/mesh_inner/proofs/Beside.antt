-- Lemmas over points: what lies ahead of the side at a section's end, though the side leans, is near to the end.
use Rattle.std.proofs.Common.{ℕ, ◌+◌, ◌*◌, ◌<◌, ◌≤◌, ⊎_elim, arith, zero, suc, refl, ◌≡◌, ◌∙◌, ap, [], ◌∷◌}
use Rattle.std.specs.Prelude.{ℤ, pos, ◌+ℤ◌, ◌*ℤ◌, ◌≤ℤ◌, ◌<ℤ◌, unsigned_abs}
use Rattle.std.proofs.Math.Nat.{mul-le-mul, mul-le-mul_right, mul-le-mul_left, mul-lt-mul_of_pos_right, le_of_mul-le-mul_right, le_of_mul-le-mul_left}
use Rattle.std.proofs.lemmas.Bool.{cases_lt}
use Rattle.std.proofs.lemmas.Int.{ints, unsigned_abs-mul, by_lt_z}
use Rattle.mesh_plane.specs.Plane.{Point, plus, cross, dot, length_sq}
use Rattle.mesh_plane.specs.Winding.{refined}
use Rattle.mesh_plane.proofs.Identities.{dot_through, dot_swap}
use Rattle.mesh_plane.proofs.Ring.{ring, var, lit, ◌⊕◌, ◌⊗◌, cross_of, dot_of}
use Rattle.mesh_plane.proofs.Sizes.{dot_self, size_square}
use Rattle.mesh_plane.proofs.Whole.{linear, mul_add, mul_left_comm, times_zero, mul_pos, pos_of_mul, nonneg_of_mul, mul_nonneg, mul_nonneg_nonpos, square_nonneg, square_zero}

-- (s·v)(u·v) = (s·u)|v|² + (v×u)(s×v)
along_side : (s v u : Point) → dot s v *ℤ dot u v ≡ (dot s u *ℤ dot v v) +ℤ (cross v u *ℤ cross s v)
along_side s v u =
    ring (s.0 ∷ s.1 ∷ v.0 ∷ v.1 ∷ u.0 ∷ u.1 ∷ [])
    (dot_of (var 0) (var 1) (var 2) (var 3) ⊗ dot_of (var 4) (var 5) (var 2) (var 3))
    ((dot_of (var 0) (var 1) (var 4) (var 5) ⊗ dot_of (var 2) (var 3) (var 2) (var 3)) ⊕
    (cross_of (var 2) (var 3) (var 4) (var 5) ⊗ cross_of (var 0) (var 1) (var 2) (var 3)))
    refl

-- |u + v|² = |u|² + 2(u·v) + |v|²
length_sum : (u v : Point) → pos (length_sq (plus u v)) ≡ (pos (length_sq u) +ℤ (pos 2 *ℤ dot u v)) +ℤ pos (length_sq v)
length_sum u v =
    omega (
      arith,
      linear,
      dot_self (plus u v),
      dot_self u,
      dot_self v,
      ring (u.0 ∷ u.1 ∷ v.0 ∷ v.1 ∷ [])
          (dot_of (var 0 ⊕ var 2) (var 1 ⊕ var 3) (var 0 ⊕ var 2) (var 1 ⊕ var 3))
          ((dot_of (var 0) (var 1) (var 0) (var 1) ⊕ (lit (pos 2) ⊗ dot_of (var 0) (var 1) (var 2) (var 3))) ⊕
          dot_of (var 2) (var 3) (var 2) (var 3))
          refl,
    )

-- a vector that another looks along is not 0
length_some : (s v : Point) → pos 0 <ℤ dot s v → 0 < length_sq v
length_some s v h =
    ⊎_elim
    (λ (l : 0 < length_sq v). l)
    (λ (l : length_sq v ≤ 0).
    let x : v.0 ≡ pos 0 = square_zero v.0 (omega (arith, linear, dot_self v, square_nonneg v.1, l)) in
    let y : v.1 ≡ pos 0 = square_zero v.1 (omega (arith, linear, dot_self v, square_nonneg v.0, l)) in
    absurd (omega (arith, linear, h, times_zero s.0 v.0 x, times_zero s.1 v.1 y)))
    (cases_lt 0 (length_sq v))

-- ---- nearer to the end than to the start

sized : (k c : ℤ) (d m l : ℕ) → 0 < l → 2 * unsigned_abs c ≤ l → unsigned_abs k < m * d →
    2 * unsigned_abs (k *ℤ c) < d * (m * l)
sized k c d m l some lean less =
    let first : unsigned_abs k * (2 * unsigned_abs c) ≤ unsigned_abs k * l = mul-le-mul_left (unsigned_abs k) lean in
    let second : unsigned_abs k * l < m * d * l = mul-lt-mul_of_pos_right less some in
    omega (arith, first, second, unsigned_abs-mul k c)

-- `d` is `s·v`, `w` is `u·v`, `k` is `v×u`, `c` is `s×v`, `f` is `s·u` and `l` is `|v|²`
nearer_by : (d w k c f : ℤ) (m l : ℕ) → pos 0 <ℤ d → d *ℤ w ≡ (f *ℤ pos l) +ℤ (k *ℤ c) → pos 0 ≤ℤ f → 0 < l →
    2 * unsigned_abs c ≤ l →
    unsigned_abs k < m * unsigned_abs d →
    pos 0 <ℤ ((pos 2 *ℤ w) +ℤ pos (m * l))
nearer_by d w k c f m l ahead e before some lean less =
    pos_of_mul d ((pos 2 *ℤ w) +ℤ pos (m * l)) (omega (arith, linear, ahead))
    (omega (
      arith,
      ints,
      out,
      twice,
      whole,
      e,
      mul_nonneg f (pos l) before (omega (arith, ints)),
      sized k c (unsigned_abs d) m l some lean less,
    ))
  where
    out : d *ℤ ((pos 2 *ℤ w) +ℤ pos (m * l)) ≡ (d *ℤ (pos 2 *ℤ w)) +ℤ (d *ℤ pos (m * l))
    out = mul_add d (pos 2 *ℤ w) (pos (m * l))

    twice : d *ℤ (pos 2 *ℤ w) ≡ pos 2 *ℤ (d *ℤ w)
    twice = mul_left_comm d (pos 2) w

    same : d ≡ pos (unsigned_abs d)
    same = omega (arith, ints, ahead)

    whole : d *ℤ pos (m * l) ≡ pos (unsigned_abs d * (m * l))
    whole = ap (λ (n : ℤ). n *ℤ pos (m * l)) same

-- `u`, seen from the end of a section along `v`, lies back by less than half of the section
nearer_along : (m : ℕ) (s v u : Point) → pos 0 <ℤ dot s v → 2 * unsigned_abs (cross s v) ≤ length_sq v →
    unsigned_abs (cross v u) < m * unsigned_abs (dot s v) →
    pos 0 ≤ℤ dot s u →
    pos 0 <ℤ ((pos 2 *ℤ dot u v) +ℤ pos (m * length_sq v))
nearer_along m s v u ahead lean less before =
    nearer_by (dot s v) (dot u v) (cross v u) (cross s v) (dot s u) m (length_sq v) ahead
    (along_side s v u ∙ ap (λ (n : ℤ). (dot s u *ℤ n) +ℤ (cross v u *ℤ cross s v)) (dot_self v))
    before (length_some s v ahead) lean less

-- `u` is seen from the end of the section on the grid `m` and lies ahead of its side `s` there, beside the line by less
-- than the side reaches: it is nearer to the end than to the start
pub nearer : (m : ℕ) (s v u : Point) → pos 0 <ℤ dot s v → 2 * unsigned_abs (cross s v) ≤ length_sq v →
    unsigned_abs (cross v u) < m * unsigned_abs (dot s v) →
    pos 0 ≤ℤ dot s u →
    length_sq u < length_sq (plus u (refined m v))
nearer m s v u ahead lean less before =
    omega (
      arith,
      ints,
      length_sum u (refined m v),
      times,
      size,
      mul_pos (pos m) ((pos 2 *ℤ dot u v) +ℤ pos (m * length_sq v)) some (nearer_along m s v u ahead lean less before),
      out,
      twice,
    )
  where
    from : (n : ℕ) → unsigned_abs (cross v u) < n * unsigned_abs (dot s v) → pos 0 <ℤ pos n
    from zero h = absurd (omega (arith, h))
    from (suc n) h = omega (arith, ints)

    some : pos 0 <ℤ pos m
    some = from m less

    out : pos m *ℤ ((pos 2 *ℤ dot u v) +ℤ pos (m * length_sq v)) ≡ (pos m *ℤ (pos 2 *ℤ dot u v)) +ℤ
        pos (m * (m * length_sq v))
    out = mul_add (pos m) (pos 2 *ℤ dot u v) (pos (m * length_sq v))

    twice : pos m *ℤ (pos 2 *ℤ dot u v) ≡ pos 2 *ℤ (pos m *ℤ dot u v)
    twice = mul_left_comm (pos m) (pos 2) (dot u v)

    times : dot u (refined m v) ≡ pos m *ℤ dot u v
    times =
        ring (pos m ∷ u.0 ∷ u.1 ∷ v.0 ∷ v.1 ∷ [])
        (dot_of (var 1) (var 2) (var 0 ⊗ var 3) (var 0 ⊗ var 4)) (var 0 ⊗ dot_of (var 1) (var 2) (var 3) (var 4)) refl

    size : length_sq (refined m v) ≡ m * (m * length_sq v)
    size = rw (unsigned_abs-mul (pos m) v.0, unsigned_abs-mul (pos m) v.1) (omega arith)

-- ---- nearer to the end than to the points of the section, but for the grid's width

-- what lies ahead of the end, or right beside it, is nearer to it
ahead_of_end : (v u z : Point) → 0 < length_sq v → pos 0 ≤ℤ dot v z → cross v z ≡ pos 0 → pos 0 ≤ℤ dot u v →
    length_sq u ≤ length_sq (plus u z)
ahead_of_end v u z some way parallel side =
    omega (arith, ints, length_sum u z, nonneg_of_mul (dot v v) (dot u z) size along)
  where
    size : pos 0 <ℤ dot v v
    size = rw (dot_self v) (omega (arith, ints, some))

    along : pos 0 ≤ℤ (dot v v *ℤ dot u z)
    along =
        omega (
          arith,
          linear,
          dot_through v u z,
          mul_nonneg (dot v u) (dot v z) (rw (dot_swap u v) side) way,
          times_zero (cross v u) (cross v z) parallel,
        )

-- how far back from the end it may lie
before_end : (d w k c f : ℤ) (m l : ℕ) → pos 0 <ℤ d → d *ℤ w ≡ (f *ℤ pos l) +ℤ (k *ℤ c) → pos 0 ≤ℤ f →
    unsigned_abs k < m * unsigned_abs d →
    w ≤ℤ pos 0 →
    unsigned_abs w ≤ m * unsigned_abs c
before_end d w k c f m l ahead e before less behind =
    le_of_mul-le-mul_left all (omega (arith, ints, ahead))
  where
    product : unsigned_abs k * unsigned_abs c ≤ m * unsigned_abs d * unsigned_abs c
    product = mul-le-mul_right (unsigned_abs c) (omega (arith, less))

    sign : (d *ℤ w) ≤ℤ pos 0
    sign = mul_nonneg_nonpos d w (omega (arith, linear, ahead)) behind

    all : unsigned_abs d * unsigned_abs w ≤ unsigned_abs d * (m * unsigned_abs c)
    all =
        omega (
          arith,
          ints,
          e,
          sign,
          mul_nonneg f (pos l) before (omega (arith, ints)),
          unsigned_abs-mul d w,
          unsigned_abs-mul k c,
          product,
        )

-- |u|²|v|² = (u·v)² + (v×u)², in sizes
sizes_of : (v u : Point) → length_sq u * length_sq v ≡ unsigned_abs (dot u v) * unsigned_abs (dot u v) +
    unsigned_abs (cross v u) * unsigned_abs (cross v u)
sizes_of v u = squares (dot u v) (cross v u) (length_sq u) (length_sq v) (whole ∙ (λ i. dot_self u i *ℤ dot_self v i))
  where
    squares : (a b : ℤ) (n m : ℕ) → (a *ℤ a) +ℤ (b *ℤ b) ≡ pos n *ℤ pos m →
        n * m ≡ unsigned_abs a * unsigned_abs a + unsigned_abs b * unsigned_abs b
    squares a b n m e = omega (arith, ints, e, size_square a, size_square b)

    whole : (dot u v *ℤ dot u v) +ℤ (cross v u *ℤ cross v u) ≡ dot u u *ℤ dot v v
    whole =
        ring (u.0 ∷ u.1 ∷ v.0 ∷ v.1 ∷ [])
        ((dot_of (var 0) (var 1) (var 2) (var 3) ⊗ dot_of (var 0) (var 1) (var 2) (var 3)) ⊕
        (cross_of (var 2) (var 3) (var 0) (var 1) ⊗ cross_of (var 2) (var 3) (var 0) (var 1)))
        (dot_of (var 0) (var 1) (var 0) (var 1) ⊗ dot_of (var 2) (var 3) (var 2) (var 3))
        refl

-- along a section a point keeps its distance from the line
cross_sum : (v u z : Point) → cross v z ≡ pos 0 → cross v (plus u z) ≡ cross v u
cross_sum v u z parallel =
    omega (
      arith,
      linear,
      parallel,
      ring (v.0 ∷ v.1 ∷ u.0 ∷ u.1 ∷ z.0 ∷ z.1 ∷ [])
          (cross_of (var 0) (var 1) (var 2 ⊕ var 4) (var 3 ⊕ var 5))
          (cross_of (var 0) (var 1) (var 2) (var 3) ⊕ cross_of (var 0) (var 1) (var 4) (var 5))
          refl,
    )

behind_end : (a b l w k c m x : ℕ) → 0 < l → a * l ≡ w * w + k * k → b * l ≡ x * x + k * k → w ≤ m * c → c * c ≤ l →
    a ≤ b + m * m
behind_end a b l w k c m x some e f within lean =
    let first : w * w ≤ m * c * (m * c) = mul-le-mul within within in
    let second : m * m * (c * c) ≤ m * m * l = mul-le-mul_left (m * m) lean in
    let all : a * l ≤ (b + m * m) * l = omega (arith, e, f, first, second) in
    le_of_mul-le-mul_right all some

-- where `u` lies so, the end is as near to it as each point of the section, but for 1; the point lies `z` before the end
pub by_end : (m : ℕ) (s v u z : Point) → pos 0 <ℤ dot s v →
    unsigned_abs (cross s v) * unsigned_abs (cross s v) ≤ length_sq v →
    unsigned_abs (cross v u) < m * unsigned_abs (dot s v) →
    pos 0 ≤ℤ dot s u →
    pos 0 ≤ℤ dot v z →
    cross v z ≡ pos 0 →
    length_sq u ≤ length_sq (plus u z) + m * m
by_end m s v u z ahead lean less before way parallel =
    by_lt_z (dot u v) (pos 0)
    (λ (l : dot u v <ℤ pos 0).
    behind_end (length_sq u) (length_sq (plus u z)) (length_sq v) (unsigned_abs (dot u v)) (unsigned_abs (cross v u))
    (unsigned_abs (cross s v)) m (unsigned_abs (dot (plus u z) v)) some (sizes_of v u) moved
    (before_end (dot s v) (dot u v) (cross v u) (cross s v) (dot s u) m (length_sq v) ahead sides before less
    (omega (arith, linear, l)))
    lean)
    (λ (l : pos 0 ≤ℤ dot u v). omega (arith, ahead_of_end v u z some way parallel l))
  where
    some : 0 < length_sq v
    some = length_some s v ahead

    sides : dot s v *ℤ dot u v ≡ (dot s u *ℤ pos (length_sq v)) +ℤ (cross v u *ℤ cross s v)
    sides = along_side s v u ∙ ap (λ (n : ℤ). (dot s u *ℤ n) +ℤ (cross v u *ℤ cross s v)) (dot_self v)

    moved : length_sq (plus u z) * length_sq v ≡ unsigned_abs (dot (plus u z) v) * unsigned_abs (dot (plus u z) v) +
        unsigned_abs (cross v u) * unsigned_abs (cross v u)
    moved = rw (← cross_sum v u z parallel) (sizes_of v (plus u z))
