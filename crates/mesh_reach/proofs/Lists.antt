-- Lemmas over points and lists: a closed list of points that are near an edge does not wind round a point far from it.
use Rattle.std.proofs.Common.{◌≡◌, ℕ, ◌*◌, ◌<◌, ◌≤◌, ◌⊎◌, inl, inr, ⊎_elim, List, not, refl, sym, ◌∙◌, ap, [], ◌∷◌}
use Rattle.std.proofs.Common.{arith}
use Rattle.std.specs.Prelude.{ℤ, pos, ◌+ℤ◌, ◌-ℤ◌, ◌*ℤ◌, ◌≤ℤ◌, ◌<ℤ◌, IsTrue}
use Rattle.std.specs.List.{All}
use Rattle.std.specs.Ordering.{int_eq}
use Rattle.std.proofs.lemmas.Bool.{true≢false, cases_lt}
use Rattle.std.proofs.lemmas.Int.{ints, by_lt_z}
use Rattle.std.proofs.lemmas.List.Elements.{All-weaker}
use Rattle.mesh_plane.specs.Plane.{Point, Edge, minus, cross, dot, length_sq}
use Rattle.mesh_plane.specs.Winding.{refined, winding, boundary, holds}
use Rattle.mesh_plane.proofs.Grids.{scale}
use Rattle.mesh_plane.proofs.HalfPlanes.{along_by, closed_before}
use Rattle.mesh_plane.proofs.Identities.{lagrange}
use Rattle.mesh_plane.proofs.Ring.{ring, var, ◌⊕◌, ◌⊖◌, ◌⊗◌, dot_of}
use Rattle.mesh_plane.proofs.Sizes.{dot_self}
use Rattle.mesh_plane.proofs.Whole.{linear, mul_nonneg, square_nonneg, mul_le_mul_left, mul_lt_mul_left, pos_of_mul}
use Rattle.mesh_lattice.specs.Clean.{IsOn, refined_edge}
use Rattle.mesh_lattice.proofs.Means.{IsMean, mean_of_on, mean_most}
use Rattle.mesh_lattice.proofs.Nearness.{mean_along}
use Rattle.mesh_reach.specs.Reach.{IsReached, IsByEnd}
use Rattle.mesh_reach.proofs.Feet.{IsFoot, nearest_foot}

-- ---- numbers

square_most : (a b : ℤ) → pos 0 ≤ℤ a → a ≤ℤ b → (a *ℤ a) ≤ℤ (b *ℤ b)
square_most a b least h =
    let first = mul_le_mul_left a a b least h in
    let second : (b *ℤ a) ≤ℤ (b *ℤ b) = mul_le_mul_left b a b (omega (arith, linear)) h in
    let same : a *ℤ b ≡ b *ℤ a = ring (a ∷ b ∷ []) (var 0 ⊗ var 1) (var 1 ⊗ var 0) refl in
    omega (arith, linear, first, second, same)

-- `k` times the product `d` of vectors with the squares `w` and `x` is below `w`, where `x` is short for it
short_for : (b k w x d : ℤ) → pos 0 ≤ℤ b → (d *ℤ d) ≤ℤ (w *ℤ x) → (x +ℤ x) ≤ℤ b → (b *ℤ (k *ℤ k)) <ℤ (w +ℤ w) →
    (k *ℤ d) <ℤ w
short_for b k w x d least product short far = by_lt_z (k *ℤ d) w (λ h. h) (λ (h : w ≤ℤ (k *ℤ d)). absurd (none h))
  where
    size : pos 0 ≤ℤ (b *ℤ (k *ℤ k))
    size = mul_nonneg b (k *ℤ k) least (square_nonneg k)

    some : pos 0 <ℤ w
    some = omega (arith, linear, size, far)

    not_below : pos 0 ≤ℤ w
    not_below = omega (arith, linear, some)

    square : (k *ℤ d) *ℤ (k *ℤ d) ≡ (k *ℤ k) *ℤ (d *ℤ d)
    square = ring (k ∷ d ∷ []) ((var 0 ⊗ var 1) ⊗ (var 0 ⊗ var 1)) ((var 0 ⊗ var 0) ⊗ (var 1 ⊗ var 1)) refl

    twice : w *ℤ ((k *ℤ k) *ℤ (x +ℤ x)) ≡ ((k *ℤ k) *ℤ (w *ℤ x)) +ℤ ((k *ℤ k) *ℤ (w *ℤ x))
    twice =
        ring (w ∷ k ∷ x ∷ []) (var 0 ⊗ ((var 1 ⊗ var 1) ⊗ (var 2 ⊕ var 2)))
        (((var 1 ⊗ var 1) ⊗ (var 0 ⊗ var 2)) ⊕ ((var 1 ⊗ var 1) ⊗ (var 0 ⊗ var 2)))
        refl

    order : w *ℤ ((k *ℤ k) *ℤ b) ≡ w *ℤ (b *ℤ (k *ℤ k))
    order = ring (w ∷ k ∷ b ∷ []) (var 0 ⊗ ((var 1 ⊗ var 1) ⊗ var 2)) (var 0 ⊗ (var 2 ⊗ (var 1 ⊗ var 1))) refl

    both : w *ℤ (w +ℤ w) ≡ (w *ℤ w) +ℤ (w *ℤ w)
    both = ring (w ∷ []) (var 0 ⊗ (var 0 ⊕ var 0)) ((var 0 ⊗ var 0) ⊕ (var 0 ⊗ var 0)) refl

    none : w ≤ℤ (k *ℤ d) → ⊥
    none h =
        omega (
          arith,
          linear,
          square_most w (k *ℤ d) not_below h,
          square,
          mul_le_mul_left (k *ℤ k) (d *ℤ d) (w *ℤ x) (square_nonneg k) product,
          twice,
          mul_le_mul_left w ((k *ℤ k) *ℤ (x +ℤ x)) ((k *ℤ k) *ℤ b) not_below
              (mul_le_mul_left (k *ℤ k) (x +ℤ x) b (square_nonneg k) short),
          order,
          mul_lt_mul_left w (b *ℤ (k *ℤ k)) (w +ℤ w) some far,
          both,
        )

-- ---- points

-- how far `q` is beyond a point by a measure
gained : (g m : ℤ) (w c q v p : Point) →
    g *ℤ (along_by w.0 w.1 q -ℤ along_by w.0 w.1 (scale m p))
    ≡ (dot w (minus (scale g q) c) -ℤ dot w (minus (scale (g *ℤ m) v) c)) -ℤ ((g *ℤ m) *ℤ dot w (minus p v))
gained g m w c q v p =
    let at = λ (i : ℕ). λ (j : ℕ). dot_of (var 2) (var 3) (var i) (var j) in
    ring (g ∷ m ∷ w.0 ∷ w.1 ∷ c.0 ∷ c.1 ∷ q.0 ∷ q.1 ∷ v.0 ∷ v.1 ∷ p.0 ∷ p.1 ∷ [])
    (var 0 ⊗ (at 6 7 ⊖ dot_of (var 2) (var 3) (var 1 ⊗ var 10) (var 1 ⊗ var 11)))
    ((dot_of (var 2) (var 3) ((var 0 ⊗ var 6) ⊖ var 4) ((var 0 ⊗ var 7) ⊖ var 5)
    ⊖ dot_of (var 2) (var 3) (((var 0 ⊗ var 1) ⊗ var 8) ⊖ var 4) (((var 0 ⊗ var 1) ⊗ var 9) ⊖ var 5))
    ⊖ ((var 0 ⊗ var 1) ⊗ dot_of (var 2) (var 3) (var 10 ⊖ var 8) (var 11 ⊖ var 9)))
    refl

twice_above : (n l : ℕ) (x : ℤ) → n < 2 * l → x ≡ pos l → pos n <ℤ (x +ℤ x)
twice_above n l x h e = omega (arith, ints)

twice_within : (n l : ℕ) (x : ℤ) → 2 * l ≤ n → x ≡ pos l → (x +ℤ x) ≤ℤ pos n
twice_within n l x h e = omega (arith, ints)

module _ (b m : ℕ) (e : Edge) (q : Point) (f : IsFoot m e q)
    (far : b * ((f.grid * m) * (f.grid * m)) < 2 * length_sq (minus (refined f.grid q) f.nearest)) where
  -- a point near an end of the edge lies before `q`
  near_end : (v p : Point) → dot (minus (refined f.grid q) f.nearest)
      (minus (refined (f.grid * m) v) f.nearest) ≤ℤ pos 0
      → 2 * length_sq (minus p v) ≤ b
      → along_by (minus (refined f.grid q) f.nearest).0 (minus (refined f.grid q) f.nearest).1 (refined m p)
      <ℤ along_by (minus (refined f.grid q) f.nearest).0 (minus (refined f.grid q) f.nearest).1 q
  near_end v p before near =
      let u = minus (refined f.grid q) f.nearest in
      let x = minus p v in
      let small : (pos (f.grid * m) *ℤ dot u x) <ℤ dot u u =
      short_for (pos b) (pos (f.grid * m)) (dot u u) (dot x x) (dot u x) (omega (arith, ints))
      (omega (arith, linear, lagrange u x, square_nonneg (cross u x)))
      (twice_within b (length_sq x) (dot x x) near (dot_self x))
      (twice_above (b * ((f.grid * m) * (f.grid * m))) (length_sq u) (dot u u) far (dot_self u)) in
      let grows : pos 0 <ℤ (pos f.grid *ℤ (along_by u.0 u.1 q -ℤ along_by u.0 u.1 (refined m p))) =
      omega (arith, linear, gained (pos f.grid) (pos m) u f.nearest q v p, before, small) in
      let beyond : pos 0 <ℤ (along_by u.0 u.1 q -ℤ along_by u.0 u.1 (refined m p)) = pos_of_mul (pos f.grid) _
      (omega (arith, ints)) grows in
      omega (arith, linear, beyond)

  near_before : (p : Point) → IsByEnd b e p
      → along_by (minus (refined f.grid q) f.nearest).0 (minus (refined f.grid q) f.nearest).1 (refined m p)
      <ℤ along_by (minus (refined f.grid q) f.nearest).0 (minus (refined f.grid q) f.nearest).1 q
  near_before p near = ⊎_elim (near_end e.0 p f.start) (near_end e.1 p f.end) near

-- all points near the ends of an edge lie before `q` by a linear measure
record LiesPast (b m : ℕ) (e : Edge) (q : Point) : Type 0 where
  u : ℤ
  v : ℤ
  before : (p : Point) → IsByEnd b e p → along_by u v (refined m p) <ℤ along_by u v q

-- where a point is not near an edge, they do
reached_or_past : (b m : ℕ) (e : Edge) (q : Point) → IsReached b m e q ⊎ LiesPast b m e q
reached_or_past b m e q =
    ⊎_elim
    (λ (far : b * ((f.grid * m) * (f.grid * m)) < 2 * length_sq (minus (refined f.grid q) f.nearest)).
    inr (record {
      u = (minus (refined f.grid q) f.nearest).0;
      v = (minus (refined f.grid q) f.nearest).1;
      before = near_before b m e q f far;
    }))
    (λ (h : 2 * length_sq (minus (refined f.grid q) f.nearest) ≤ b * ((f.grid * m) * (f.grid * m))).
    inl (record { grid = f.grid; some = f.some; nearest = f.nearest; on_edge = f.on_edge; reached = h }))
    (cases_lt (b * ((f.grid * m) * (f.grid * m))) (2 * length_sq (minus (refined f.grid q) f.nearest)))
  where
    f : IsFoot m e q
    f = nearest_foot m e q

-- ---- together

pub lists_reach : (b m : ℕ) (e : Edge) (points : List Point) (q : Point) → All (IsByEnd b e) points →
    IsTrue (holds m q points) → IsReached b m e q
lists_reach b m e points q near held =
    ⊎_elim (λ (h : IsReached b m e q). h)
    (λ (h : LiesPast b m e q). absurd (true≢false (sym held ∙ ap (λ (x : ℤ). not (int_eq x (pos 0))) (none h))))
    (reached_or_past b m e q)
  where
    none : LiesPast b m e q → winding m q (boundary points) ≡ pos 0
    none h =
        closed_before h.u h.v m q points
        (All-weaker (IsByEnd b e) (λ (p : Point). along_by h.u h.v (refined m p) <ℤ along_by h.u h.v q) h.before points
        near)

-- a point of a segment with such ends is near the edge too
pub segments_reach : (b m : ℕ) (e f : Edge) (q : Point) → IsByEnd b e f.0 → IsByEnd b e f.1 →
    IsOn (refined_edge m f) q → IsReached b m e q
segments_reach b m e f q start end on =
    ⊎_elim (λ (h : IsReached b m e q). h) (λ (h : LiesPast b m e q). absurd (never h)) (reached_or_past b m e q)
  where
    mean : IsMean (refined m f.0) (refined m f.1) q
    mean = mean_of_on (refined m f.0) (refined m f.1) q on

    never : LiesPast b m e q → ⊥
    never h =
        let along = along_by h.u h.v in
        let less : along q ≤ℤ (along q -ℤ pos 1) =
        mean_most mean.first mean.second (along q -ℤ pos 1) (along (refined m f.0)) (along (refined m f.1)) (along q)
        mean.first_least mean.second_least mean.some
        (mean_along h.u h.v mean.first mean.second (refined m f.0) (refined m f.1) q mean.by_x mean.by_y)
        (let l = h.before f.0 start in omega (arith, ints, l)) (let l = h.before f.1 end in omega (arith, ints, l)) in
        omega (arith, ints, less)
