-- Lemmas over points and lists: edges wind alike at the ends of a way all of whose points are nearer to a section than
-- the edges come.
use Rattle.std.proofs.Common.{◌≡◌, ℕ, ◌+◌, ◌*◌, ◌<◌, ◌≤◌, ◌⊎◌, ⊎_elim, refl, sym, ◌∙◌, ap, subst, arith, List, [], ◌∷◌}
use Rattle.std.specs.Prelude.{ℤ, pos, ◌+ℤ◌, ◌-ℤ◌, ◌*ℤ◌, ◌≤ℤ◌, ◌<ℤ◌, unsigned_abs}
use lib.IntN.{*ℤ_comm}
use Rattle.std.proofs.lemmas.Int.{ints, by_lt_z}
use Rattle.mesh_plane.specs.Plane.{Point, Edge, minus, dot, length_sq, turn}
use Rattle.mesh_plane.specs.Winding.{refined, winding, IsBalanced}
use Rattle.mesh_plane.proofs.Grids.{scale, winds}
use Rattle.mesh_plane.proofs.PointExprs.{point_var, coordinates, turned}
use Rattle.mesh_plane.proofs.Ring.{ring, var, ◌⊕◌, ◌⊖◌, ◌⊗◌}
use Rattle.mesh_plane.proofs.Sizes.{dot_self}
use Rattle.mesh_plane.proofs.Whole.{linear, mul_one, mul_pos, mul_nonneg, factor, times_zero, mul_le_mul_left, mul_lt_mul_left, le_of_mul_le_mul, square_nonneg}
use Rattle.mesh_lattice.specs.Clean.{IsOn, refined_edge}
use Rattle.mesh_lattice.specs.Split.{IsBetween}
use Rattle.mesh_lattice.proofs.Boxes.{turn_start, turn_end, start_box, end_box}
use Rattle.mesh_lattice.proofs.Each.{Each, each_more}
use Rattle.mesh_lattice.proofs.Means.{IsMean, mean_of_on, on_of_mean}
use Rattle.mesh_regions.proofs.FinerGrids.{winds_finer, scale_twice}
use Rattle.mesh_regions.proofs.SidesConstant.{way_same}
use Rattle.mesh_regions.proofs.SidesPotential.{Parted}
use Rattle.mesh_clearance.specs.Clearance.{AreApart, IsNearer}
use Rattle.mesh_clearance.proofs.CommonPoints.{HaveCommon, parted_or_common}
use Rattle.mesh_clearance.proofs.Measures.{square_most}

-- a point of the grid `m` with a point of the edge nearer than the root of `t` on the same grid
pub record HasNear (t m : ℕ) (f : Edge) (z : Point) : Type 0 where
  pub nearest : Point
  pub on_edge : IsOn (refined_edge m f) nearest
  pub nearer : length_sq (minus z nearest) < t * (m * m)

-- all points of the way from `q` to `c` are so near, on every grid
abbrev pub IsNearWay : ℕ → ℕ → Edge → Point → Point → Type 0
IsNearWay t n f q c = (k : ℕ) → 0 < k → (z : Point) → IsOn (refined k q, refined k c) z → HasNear t (k * n) f z

refined_twice : (k n : ℕ) (e : Edge) → (refined k (refined n e.0), refined k (refined n e.1)) ≡ refined_edge (k * n) e
refined_twice k n e = λ i. (sym (scale_twice (pos k) (pos n) e.0) i, sym (scale_twice (pos k) (pos n) e.1) i)

parted_near : (t n : ℕ) (e f : Edge) (q c : Point) → AreApart t e f → IsNearWay t n f q c → Parted q c (refined n e.0) (refined n e.1)
parted_near t n e f q c apart near =
    ⊎_elim (λ (h : Parted q c (refined n e.0) (refined n e.1)). h)
    (λ (h : HaveCommon q c (refined n e.0) (refined n e.1)). absurd (none h))
    (parted_or_common q c (refined n e.0) (refined n e.1))
  where
    none : HaveCommon q c (refined n e.0) (refined n e.1) → ⊥
    none h =
        let found = near h.grid h.positive h.point h.first in
        let far = apart (h.grid * n) h.point found.nearest (subst (λ (g : Edge). IsOn g h.point) (refined_twice h.grid n e) h.second) found.on_edge in
        let less = found.nearer in
        omega arith

pub near_way_same : (t n : ℕ) (es : List Edge) (f : Edge) (q c : Point) → IsBalanced es → Each (λ (e : Edge). AreApart t e f) es →
    IsNearWay t n f q c → winds (pos n) q es ≡ winds (pos n) c es
near_way_same t n es f q c balanced apart near =
    way_same (pos n) q c es balanced
    (each_more (λ (e : Edge). AreApart t e f) (λ (e : Edge). Parted q c (scale (pos n) e.0) (scale (pos n) e.1))
    (λ (e : Edge) (h : AreApart t e f). parted_near t n e f q c h near) es apart)

-- ---- the way from a point to its nearest

finer_on : (k n : ℕ) (f : Edge) (c : Point) → IsOn (refined_edge n f) c → IsOn (refined_edge (k * n) f) (refined k c)
finer_on k n f c on =
    subst (λ (g : Edge). IsOn g (refined k c)) (refined_twice k n f)
    (on_of_mean (refined k (refined n f.0)) (refined k (refined n f.1)) (refined k c) (record {
      first = mean.first;
      second = mean.second;
      first_least = mean.first_least;
      second_least = mean.second_least;
      some = mean.some;
      by_x = multiplied (refined n f.0).0 (refined n f.1).0 c.0 mean.by_x;
      by_y = multiplied (refined n f.0).1 (refined n f.1).1 c.1 mean.by_y;
    }))
  where
    mean : IsMean (refined n f.0) (refined n f.1) c
    mean = mean_of_on (refined n f.0) (refined n f.1) c on

    multiplied : (x y z : ℤ) → (mean.first +ℤ mean.second) *ℤ z ≡ (mean.first *ℤ x) +ℤ (mean.second *ℤ y) →
        (mean.first +ℤ mean.second) *ℤ (pos k *ℤ z) ≡ (mean.first *ℤ (pos k *ℤ x)) +ℤ (mean.second *ℤ (pos k *ℤ y))
    multiplied x y z e =
        ring (mean.first ∷ mean.second ∷ pos k ∷ z ∷ []) ((var 0 ⊕ var 1) ⊗ (var 2 ⊗ var 3)) (var 2 ⊗ ((var 0 ⊕ var 1) ⊗ var 3)) refl
        ∙ (ap (λ (w : ℤ). pos k *ℤ w) e
        ∙ ring (mean.first ∷ mean.second ∷ pos k ∷ x ∷ y ∷ []) (var 2 ⊗ ((var 0 ⊗ var 3) ⊕ (var 1 ⊗ var 4))) ((var 0 ⊗ (var 2 ⊗ var 3)) ⊕ (var 1 ⊗ (var 2 ⊗ var 4))) refl)

-- a point between two is at most as far from the second as the first is
between_near : (k : ℕ) (q c z : Point) → IsOn (refined k q, refined k c) z → length_sq (minus z (refined k c)) ≤ (k * k) * length_sq (minus q c)
between_near k q c z on =
    of_pos (le_of_mul_le_mul (w *ℤ w) (dot (minus z (refined k c)) (minus z (refined k c))) ((pos k *ℤ pos k) *ℤ dot (minus q c) (minus q c))
    (mul_pos w w mean.some mean.some)
    (omega (arith, linear, left, middle, mul_le_mul_left ((pos k *ℤ pos k) *ℤ dot (minus q c) (minus q c)) (s *ℤ s) (w *ℤ w) size (square_most s w mean.first_least (omega (arith, linear, mean.second_least))), right)))
  where
    mean : IsMean (refined k q) (refined k c) z
    mean = mean_of_on (refined k q) (refined k c) z on

    s : ℤ
    s = mean.first

    w : ℤ
    w = mean.first +ℤ mean.second

    of_pos : dot (minus z (refined k c)) (minus z (refined k c)) ≤ℤ ((pos k *ℤ pos k) *ℤ dot (minus q c) (minus q c)) → length_sq (minus z (refined k c)) ≤ (k * k) * length_sq (minus q c)
    of_pos h = le_pos (length_sq (minus z (refined k c))) (k * k) (length_sq (minus q c)) (subst (λ (x : ℤ). x ≤ℤ ((pos k *ℤ pos k) *ℤ dot (minus q c) (minus q c))) (dot_self (minus z (refined k c))) h) (dot_self (minus q c))
      where
        le_pos : (a b l : ℕ) {x : ℤ} → pos a ≤ℤ (pos b *ℤ x) → x ≡ pos l → a ≤ b * l
        le_pos a b l {x} h e = let g : pos a ≤ℤ (pos b *ℤ pos l) = subst (λ (y : ℤ). pos a ≤ℤ (pos b *ℤ y)) e h in omega (arith, ints)

    size : pos 0 ≤ℤ ((pos k *ℤ pos k) *ℤ dot (minus q c) (minus q c))
    size = mul_nonneg (pos k *ℤ pos k) (dot (minus q c) (minus q c)) (square_nonneg (pos k)) (let e = dot_self (minus q c) in omega (arith, ints))

    part : (x y u : ℤ) → w *ℤ u ≡ (mean.first *ℤ (pos k *ℤ x)) +ℤ (mean.second *ℤ (pos k *ℤ y)) → w *ℤ (u -ℤ (pos k *ℤ y)) ≡ s *ℤ (pos k *ℤ (x -ℤ y))
    part x y u e =
        ring (mean.first ∷ mean.second ∷ pos k ∷ y ∷ u ∷ []) ((var 0 ⊕ var 1) ⊗ (var 4 ⊖ (var 2 ⊗ var 3))) (((var 0 ⊕ var 1) ⊗ var 4) ⊖ ((var 0 ⊕ var 1) ⊗ (var 2 ⊗ var 3))) refl
        ∙ (ap (λ (v : ℤ). v -ℤ ((mean.first +ℤ mean.second) *ℤ (pos k *ℤ y))) e
        ∙ ring (mean.first ∷ mean.second ∷ pos k ∷ x ∷ y ∷ []) (((var 0 ⊗ (var 2 ⊗ var 3)) ⊕ (var 1 ⊗ (var 2 ⊗ var 4))) ⊖ ((var 0 ⊕ var 1) ⊗ (var 2 ⊗ var 4))) (var 0 ⊗ (var 2 ⊗ (var 3 ⊖ var 4))) refl)

    left : (w *ℤ w) *ℤ dot (minus z (refined k c)) (minus z (refined k c)) ≡ ((w *ℤ (z.0 -ℤ (pos k *ℤ c.0))) *ℤ (w *ℤ (z.0 -ℤ (pos k *ℤ c.0)))) +ℤ ((w *ℤ (z.1 -ℤ (pos k *ℤ c.1))) *ℤ (w *ℤ (z.1 -ℤ (pos k *ℤ c.1))))
    left =
        ring (w ∷ (z.0 -ℤ (pos k *ℤ c.0)) ∷ (z.1 -ℤ (pos k *ℤ c.1)) ∷ []) ((var 0 ⊗ var 0) ⊗ ((var 1 ⊗ var 1) ⊕ (var 2 ⊗ var 2))) (((var 0 ⊗ var 1) ⊗ (var 0 ⊗ var 1)) ⊕ ((var 0 ⊗ var 2) ⊗ (var 0 ⊗ var 2))) refl

    middle : ((w *ℤ (z.0 -ℤ (pos k *ℤ c.0))) *ℤ (w *ℤ (z.0 -ℤ (pos k *ℤ c.0)))) +ℤ ((w *ℤ (z.1 -ℤ (pos k *ℤ c.1))) *ℤ (w *ℤ (z.1 -ℤ (pos k *ℤ c.1))))
        ≡ ((pos k *ℤ pos k) *ℤ dot (minus q c) (minus q c)) *ℤ (s *ℤ s)
    middle =
        (λ i. (part q.0 c.0 z.0 mean.by_x i *ℤ part q.0 c.0 z.0 mean.by_x i) +ℤ (part q.1 c.1 z.1 mean.by_y i *ℤ part q.1 c.1 z.1 mean.by_y i))
        ∙ ring (s ∷ pos k ∷ (q.0 -ℤ c.0) ∷ (q.1 -ℤ c.1) ∷ [])
        (((var 0 ⊗ (var 1 ⊗ var 2)) ⊗ (var 0 ⊗ (var 1 ⊗ var 2))) ⊕ ((var 0 ⊗ (var 1 ⊗ var 3)) ⊗ (var 0 ⊗ (var 1 ⊗ var 3))))
        (((var 1 ⊗ var 1) ⊗ ((var 2 ⊗ var 2) ⊕ (var 3 ⊗ var 3))) ⊗ (var 0 ⊗ var 0))
        refl

    right : ((pos k *ℤ pos k) *ℤ dot (minus q c) (minus q c)) *ℤ (w *ℤ w) ≡ (w *ℤ w) *ℤ ((pos k *ℤ pos k) *ℤ dot (minus q c) (minus q c))
    right = ring (((pos k *ℤ pos k) *ℤ dot (minus q c) (minus q c)) ∷ (w *ℤ w) ∷ []) (var 0 ⊗ var 1) (var 1 ⊗ var 0) refl

nearer_refined : (t k n l : ℕ) → 0 < k → l < t * (n * n) → (k * k) * l < t * ((k * n) * (k * n))
nearer_refined t k n l some h =
    of_pos (mul_lt_mul_left (pos k *ℤ pos k) (pos l) (pos (t * (n * n))) (mul_pos (pos k) (pos k) (omega (arith, ints)) (omega (arith, ints))) (omega (arith, ints)))
    (ring (pos t ∷ pos k ∷ pos n ∷ []) ((var 1 ⊗ var 1) ⊗ (var 0 ⊗ (var 2 ⊗ var 2))) (var 0 ⊗ ((var 1 ⊗ var 2) ⊗ (var 1 ⊗ var 2))) refl)
  where
    of_pos : {x : ℤ} → pos ((k * k) * l) <ℤ x → x ≡ pos (t * ((k * n) * (k * n))) → (k * k) * l < t * ((k * n) * (k * n))
    of_pos {x} a b = omega (arith, ints)

pub near_way : (t n : ℕ) (f : Edge) (q c : Point) → IsOn (refined_edge n f) c → length_sq (minus q c) < t * (n * n) → IsNearWay t n f q c
near_way t n f q c on nearer k some z between = record {
  nearest = refined k c;
  on_edge = finer_on k n f c on;
  nearer =
      let first = between_near k q c z between in
      let second = nearer_refined t k n (length_sq (minus q c)) some nearer in
      omega arith;
}

-- ---- the way between two points of the section

between_two : (a b p q z : ℤ) → IsBetween a p b → IsBetween a q b → IsBetween p z q → IsBetween a z b
between_two a b p q z first second on = record {
  up = λ (o : a ≤ℤ b).
      let x = first.up o in
      let y = second.up o in
      by_lt_z q p (λ (h : q <ℤ p). let w = on.down (omega (arith, linear)) in (omega (arith, linear, w.0, y.0), omega (arith, linear, w.1, x.1)))
      (λ (h : p ≤ℤ q). let w = on.up h in (omega (arith, linear, w.0, x.0), omega (arith, linear, w.1, y.1)));
  down = λ (o : b ≤ℤ a).
      let x = first.down o in
      let y = second.down o in
      by_lt_z q p (λ (h : q <ℤ p). let w = on.down (omega (arith, linear)) in (omega (arith, linear, w.0, y.0), omega (arith, linear, w.1, x.1)))
      (λ (h : p ≤ℤ q). let w = on.up h in (omega (arith, linear, w.0, x.0), omega (arith, linear, w.1, y.1)));
}

between_turn : (a b p q z : Point) (s t : ℤ) →
    (s +ℤ t) *ℤ turn a b z
    ≡ ((s *ℤ turn a b p) +ℤ (t *ℤ turn a b q))
    +ℤ (((b.0 -ℤ a.0) *ℤ (((s +ℤ t) *ℤ z.1) -ℤ ((s *ℤ p.1) +ℤ (t *ℤ q.1)))) -ℤ ((b.1 -ℤ a.1) *ℤ (((s +ℤ t) *ℤ z.0) -ℤ ((s *ℤ p.0) +ℤ (t *ℤ q.0)))))
between_turn a b p q z s t =
    ring (coordinates (a ∷ b ∷ p ∷ q ∷ z ∷ []) (s ∷ t ∷ []))
    ((var 10 ⊕ var 11) ⊗ turned (point_var 0) (point_var 1) (point_var 4))
    (((var 10 ⊗ turned (point_var 0) (point_var 1) (point_var 2)) ⊕ (var 11 ⊗ turned (point_var 0) (point_var 1) (point_var 3)))
    ⊕ (((var 2 ⊖ var 0) ⊗ (((var 10 ⊕ var 11) ⊗ var 9) ⊖ ((var 10 ⊗ var 5) ⊕ (var 11 ⊗ var 7)))) ⊖ ((var 3 ⊖ var 1) ⊗ (((var 10 ⊕ var 11) ⊗ var 8) ⊖ ((var 10 ⊗ var 4) ⊕ (var 11 ⊗ var 6))))))
    refl

-- a point between two points of a segment is one
on_between : (a b p q z : Point) → IsOn (a, b) p → IsOn (a, b) q → IsOn (p, q) z → IsOn (a, b) z
on_between a b p q z first second on = record {
  on_line =
      ⊎_elim (λ (e : mean.first +ℤ mean.second ≡ pos 0). absurd (omega (arith, linear, e, mean.some))) (λ (e : turn a b z ≡ pos 0). e)
      (factor (mean.first +ℤ mean.second) (turn a b z)
      (between_turn a b p q z mean.first mean.second
      ∙ omega (
        arith,
        linear,
        times_zero mean.first (turn a b p) first.on_line,
        times_zero mean.second (turn a b q) second.on_line,
        times_zero (b.0 -ℤ a.0) (((mean.first +ℤ mean.second) *ℤ z.1) -ℤ ((mean.first *ℤ p.1) +ℤ (mean.second *ℤ q.1))) (omega (arith, linear, mean.by_y)),
        times_zero (b.1 -ℤ a.1) (((mean.first +ℤ mean.second) *ℤ z.0) -ℤ ((mean.first *ℤ p.0) +ℤ (mean.second *ℤ q.0))) (omega (arith, linear, mean.by_x)),
      )));
  in_box = record {
    by_x = between_two a.0 b.0 p.0 q.0 z.0 first.in_box.by_x second.in_box.by_x on.in_box.by_x;
    by_y = between_two a.1 b.1 p.1 q.1 z.1 first.in_box.by_y second.in_box.by_y on.in_box.by_y;
  };
}
  where
    mean : IsMean p q z
    mean = mean_of_on p q z on

pub product_some : (a b : ℕ) → 0 < a → 0 < b → 0 < a * b
product_some a b h l = let p = mul_pos (pos a) (pos b) (omega (arith, ints)) (omega (arith, ints)) in omega (arith, ints)

pub no_distance : (z : Point) → length_sq (minus z z) ≡ 0
no_distance z = λ i. none z.0 i * none z.0 i + none z.1 i * none z.1 i
  where
    none : (x : ℤ) → unsigned_abs (x -ℤ x) ≡ 0
    none x = omega (arith, ints)

along_way : (t n : ℕ) (f : Edge) (q c : Point) → 0 < t → 0 < n → IsOn (refined_edge n f) q → IsOn (refined_edge n f) c → IsNearWay t n f q c
along_way t n f q c positive grid first second k some z between = record {
  nearest = z;
  on_edge =
      on_between (refined (k * n) f.0) (refined (k * n) f.1) (refined k q) (refined k c) z (finer_on k n f q first) (finer_on k n f c second) between;
  nearer =
      let size = product_some t ((k * n) * (k * n)) positive (product_some (k * n) (k * n) (product_some k n some grid) (product_some k n some grid)) in
      omega (arith, no_distance z);
}

-- ---- together

at_grid : (m : ℤ) (v : Point) (es : List Edge) → pos 0 <ℤ m → winds m (scale m v) es ≡ winds (pos 1) v es
at_grid m v es some = ap (λ (k : ℤ). winds k (scale m v) es) (sym (mul_one m)) ∙ winds_finer m (pos 1) v es some

pub ends_same : (t : ℕ) (es : List Edge) (f : Edge) → 0 < t → IsBalanced es → Each (λ (e : Edge). AreApart t e f) es → winding 1 f.0 es ≡ winding 1 f.1 es
ends_same t es f some balanced apart =
    sym (at_grid (pos 1) f.0 es (omega (arith, ints)))
    ∙ (near_way_same t 1 es f (refined 1 f.0) (refined 1 f.1) balanced apart
    (along_way t 1 f (refined 1 f.0) (refined 1 f.1) some (omega arith)
    (record { on_line = turn_start (refined 1 f.0) (refined 1 f.1); in_box = start_box (refined_edge 1 f) })
    (record { on_line = turn_end (refined 1 f.0) (refined 1 f.1); in_box = end_box (refined_edge 1 f) }))
    ∙ at_grid (pos 1) f.1 es (omega (arith, ints)))

factors : (a b l : ℕ) → l < a * b → (0 < a) × (0 < b)
factors a b l h =
    by_lt_z (pos 0) (pos a)
    (λ (x : pos 0 <ℤ pos a).
    by_lt_z (pos 0) (pos b) (λ (y : pos 0 <ℤ pos b). (omega (arith, ints), omega (arith, ints)))
    (λ (y : pos b ≤ℤ pos 0). let e = times_zero (pos a) (pos b) (omega (arith, ints)) in absurd (omega (arith, ints))))
    (λ (x : pos a ≤ℤ pos 0). let e = *ℤ_comm (pos a) (pos b) ∙ times_zero (pos b) (pos a) (omega (arith, ints)) in absurd (omega (arith, ints)))

-- a root that something is nearer than is above 0
pub positive : (t m : ℕ) (f : Edge) (q : Point) → IsNearer t m f q → 0 < t
positive t m f q near = (factors t ((near.grid * m) * (near.grid * m)) (length_sq (minus (refined near.grid q) near.nearest)) near.nearer).0

pub near_same : (t m : ℕ) (es : List Edge) (f : Edge) (q : Point) → IsBalanced es → Each (λ (e : Edge). AreApart t e f) es →
    IsNearer t m f q → winding m q es ≡ winding 1 f.0 es
near_same t m es f q balanced apart near =
    sym (winds_finer (pos near.grid) (pos m) q es (omega (arith, ints, grid)))
    ∙ (near_way_same t (near.grid * m) es f (refined near.grid q) near.nearest balanced apart
    (near_way t (near.grid * m) f (refined near.grid q) near.nearest near.on_edge near.nearer)
    ∙ (near_way_same t (near.grid * m) es f near.nearest (refined (near.grid * m) f.0) balanced apart
    (along_way t (near.grid * m) f near.nearest (refined (near.grid * m) f.0) some whole near.on_edge
    (record { on_line = turn_start (refined (near.grid * m) f.0) (refined (near.grid * m) f.1); in_box = start_box (refined_edge (near.grid * m) f) }))
    ∙ at_grid (pos (near.grid * m)) f.0 es (omega (arith, ints, whole))))
  where
    some : 0 < t
    some = positive t m f q near

    whole : 0 < near.grid * m
    whole = (factors (near.grid * m) (near.grid * m) 0 (factors t ((near.grid * m) * (near.grid * m)) (length_sq (minus (refined near.grid q) near.nearest)) near.nearer).1).0

    grid : 0 < near.grid
    grid = (factors near.grid m 0 whole).0
