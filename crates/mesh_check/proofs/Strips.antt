-- Lemmas over points: where a path leads away from the line of another edge, all later stops lie on that side of it.
use Rattle.std.proofs.Common.{◌≡◌, ⊎_elim, ℕ, ◌+◌, ◌<◌, [], ◌∷◌, refl, sym, ◌∙◌, subst, arith}
use Rattle.std.specs.Prelude.{ℤ, pos, negsuc, ◌+ℤ◌, ◌-ℤ◌, ◌*ℤ◌, ◌≤ℤ◌, ◌<ℤ◌, neg_ℤ, unsigned_abs}
use Rattle.std.proofs.lemmas.Int.{ints}
use Rattle.mesh_plane.specs.Plane.{Point, Edge, turn}
use Rattle.mesh_plane.proofs.Crossings.{turn_flip}
use Rattle.mesh_plane.proofs.PointExprs.{point_var, coordinates, apart, crossed, turned}
use Rattle.mesh_plane.proofs.Ring.{ring, var, lit, neg, ◌⊕◌, ◌⊖◌, ◌⊗◌}
use Rattle.mesh_plane.proofs.Whole.{linear, either_order, mul_neg, mul_nonneg, mul_nonneg_nonpos, le_of_mul_le_mul, one_mul}
use Rattle.mesh_lattice.specs.Split.{back}
use Rattle.mesh_pairs.specs.Laws.{spread}
use Rattle.mesh_check.specs.Heights.{units, GoesAlong, IsNearLine}

-- ---- over whole numbers

-- a product of two numbers within limits
pub times_within : (x y a b : ℤ) → neg_ℤ a ≤ℤ x → x ≤ℤ a → neg_ℤ b ≤ℤ y → y ≤ℤ b → (x *ℤ y) ≤ℤ (a *ℤ b)
times_within x y a b low high least most =
    let p = mul_nonneg (a -ℤ x) (b +ℤ y) (omega (arith, linear, high)) (omega (arith, linear, least)) in
    let q = mul_nonneg (a +ℤ x) (b -ℤ y) (omega (arith, linear, low)) (omega (arith, linear, most)) in
    omega (arith, linear, p, q, expanded)
  where
    expanded : ((a -ℤ x) *ℤ (b +ℤ y)) +ℤ ((a +ℤ x) *ℤ (b -ℤ y)) ≡ ((a *ℤ b) +ℤ (a *ℤ b)) -ℤ ((x *ℤ y) +ℤ (x *ℤ y))
    expanded =
        ring (x ∷ y ∷ a ∷ b ∷ [])
        (((var 2 ⊖ var 0) ⊗ (var 3 ⊕ var 1)) ⊕ ((var 2 ⊕ var 0) ⊗ (var 3 ⊖ var 1)))
        (((var 2 ⊗ var 3) ⊕ (var 2 ⊗ var 3)) ⊖ ((var 0 ⊗ var 1) ⊕ (var 0 ⊗ var 1)))
        refl

-- heights of three points: one at most at `m`, the next more than `d` above that, and a later one
later_above : (n u0 u1 t r0 r1 c s w m d : ℤ) → pos 0 <ℤ n → pos 0 ≤ℤ u0 → pos 0 ≤ℤ u1
    → n *ℤ (s -ℤ c) ≡ (u0 *ℤ t) +ℤ r0 → r0 ≤ℤ (n *ℤ d)
    → n *ℤ (w -ℤ s) ≡ (u1 *ℤ t) +ℤ r1 → neg_ℤ (n *ℤ d) ≤ℤ r1
    → c ≤ℤ m → (m +ℤ d) <ℤ s → m <ℤ w
later_above n u0 u1 t r0 r1 c s w m d some least0 least1 first small second large inside beyond =
    ⊎_elim forward backward (either_order (pos 0) t)
  where
    forward : pos 0 ≤ℤ t → m <ℤ w
    forward h =
        let k : (n *ℤ neg_ℤ d) ≤ℤ (n *ℤ (w -ℤ s)) = omega (arith, linear, mul_neg n d, mul_nonneg u1 t least1 h, second, large) in
        omega (arith, linear, le_of_mul_le_mul n (neg_ℤ d) (w -ℤ s) some k, beyond)

    backward : t ≤ℤ pos 0 → m <ℤ w
    backward h =
        let k : (n *ℤ (s -ℤ c)) ≤ℤ (n *ℤ d) = omega (arith, linear, mul_nonneg_nonpos u0 t least0 h, first, small) in
        absurd (omega (arith, linear, le_of_mul_le_mul n (s -ℤ c) d some k, inside, beyond))

plain_along : (s t a b g h x y : ℤ)
    → ((s *ℤ a) +ℤ (t *ℤ b)) *ℤ ((g *ℤ y) -ℤ (h *ℤ x))
    ≡ (((s *ℤ x) +ℤ (t *ℤ y)) *ℤ ((g *ℤ b) -ℤ (h *ℤ a))) +ℤ (((s *ℤ g) +ℤ (t *ℤ h)) *ℤ ((a *ℤ y) -ℤ (b *ℤ x)))
plain_along s t a b g h x y =
    ring (s ∷ t ∷ a ∷ b ∷ g ∷ h ∷ x ∷ y ∷ [])
    (((var 0 ⊗ var 2) ⊕ (var 1 ⊗ var 3)) ⊗ ((var 4 ⊗ var 7) ⊖ (var 5 ⊗ var 6)))
    ((((var 0 ⊗ var 6) ⊕ (var 1 ⊗ var 7)) ⊗ ((var 4 ⊗ var 3) ⊖ (var 5 ⊗ var 2))) ⊕ (((var 0 ⊗ var 4) ⊕ (var 1 ⊗ var 5)) ⊗ ((var 2 ⊗ var 7) ⊖ (var 3 ⊗ var 6))))
    refl

pub minus : (x : ℤ) → negsuc 0 *ℤ x ≡ neg_ℤ x
minus x = ring (x ∷ []) (lit (negsuc 0) ⊗ var 0) (neg (var 0)) refl

opposite : (m x y : ℤ) → m *ℤ (x -ℤ y) ≡ neg_ℤ (m *ℤ (y -ℤ x))
opposite m x y = ring (m ∷ x ∷ y ∷ []) (var 0 ⊗ (var 1 ⊖ var 2)) (neg (var 0 ⊗ (var 2 ⊖ var 1))) refl

-- ---- the sign of a way along an axis

pub record Sign (a b : ℤ) : Type 0 where
  pub s : ℤ
  pub own : s *ℤ (b -ℤ a) ≡ pos (unsigned_abs (b -ℤ a))
  pub ahead : (p q : ℤ) → (a ≤ℤ b → p ≤ℤ q) → (b ≤ℤ a → q ≤ℤ p) → pos 0 ≤ℤ (s *ℤ (q -ℤ p))
  pub low : (x : ℤ) → neg_ℤ (pos (unsigned_abs x)) ≤ℤ (s *ℤ x)
  pub high : (x : ℤ) → (s *ℤ x) ≤ℤ pos (unsigned_abs x)

pub sign : (a b : ℤ) → Sign a b
sign a b =
    ⊎_elim
    (λ (h : a ≤ℤ b). record {
      s = pos 1;
      own = omega (arith, ints, one_mul (b -ℤ a), h);
      ahead = λ p q up down. omega (arith, ints, one_mul (q -ℤ p), up h);
      low = λ x. omega (arith, ints, one_mul x);
      high = λ x. omega (arith, ints, one_mul x);
    })
    (λ (h : b ≤ℤ a). record {
      s = negsuc 0;
      own = omega (arith, ints, minus (b -ℤ a), h);
      ahead = λ p q up down. omega (arith, ints, minus (q -ℤ p), down h);
      low = λ x. omega (arith, ints, minus x);
      high = λ x. omega (arith, ints, minus x);
    })
    (either_order a b)

-- ---- over points

-- how far a way goes along both axes, each with its sign
abbrev pub measured : ℤ → ℤ → Point → Point → ℤ
measured s t p q = (s *ℤ (q.0 -ℤ p.0)) +ℤ (t *ℤ (q.1 -ℤ p.1))

-- how the first edge's way turns to the second's
abbrev pub turned_by : Edge → Edge → ℤ
turned_by f e = ((f.1.0 -ℤ f.0.0) *ℤ (e.1.1 -ℤ e.0.1)) -ℤ ((f.1.1 -ℤ f.0.1) *ℤ (e.1.0 -ℤ e.0.0))

pub turn_between : (f : Edge) (p q : Point)
    → turn f.0 f.1 q -ℤ turn f.0 f.1 p ≡ ((f.1.0 -ℤ f.0.0) *ℤ (q.1 -ℤ p.1)) -ℤ ((f.1.1 -ℤ f.0.1) *ℤ (q.0 -ℤ p.0))
turn_between f p q =
    ring (coordinates (f.0 ∷ f.1 ∷ p ∷ q ∷ []) [])
    (turned (point_var 0) (point_var 1) (point_var 3) ⊖ turned (point_var 0) (point_var 1) (point_var 2))
    (crossed (apart (point_var 1) (point_var 0)) (apart (point_var 3) (point_var 2)))
    refl

pub heights_along : (s t : ℤ) (e f : Edge) (p q : Point)
    → measured s t e.0 e.1 *ℤ (turn f.0 f.1 q -ℤ turn f.0 f.1 p)
    ≡ (measured s t p q *ℤ turned_by f e) +ℤ (measured s t f.0 f.1 *ℤ (turn e.0 e.1 q -ℤ turn e.0 e.1 p))
heights_along s t e f p q =
    (λ i. measured s t e.0 e.1 *ℤ turn_between f p q i)
    ∙ (plain_along s t (e.1.0 -ℤ e.0.0) (e.1.1 -ℤ e.0.1) (f.1.0 -ℤ f.0.0) (f.1.1 -ℤ f.0.1) (q.0 -ℤ p.0) (q.1 -ℤ p.1)
    ∙ (λ i. (measured s t p q *ℤ turned_by f e) +ℤ (measured s t f.0 f.1 *ℤ sym (turn_between e p q) i)))

module _ (k l : ℕ) (e f : Edge) (some : 0 < spread e) where
  x : Sign e.0.0 e.1.0
  x = sign e.0.0 e.1.0

  y : Sign e.0.1 e.1.1
  y = sign e.0.1 e.1.1

  abbrev n : ℤ
  n = pos (spread e)

  -- how far both ends of a way along `e` may lie beside `e` apart, and beside `f`
  abbrev own_bend : ℤ
  own_bend = units k e +ℤ units k e

  abbrev bend : ℤ
  bend = units k f +ℤ units k f

  own : measured x.s y.s e.0 e.1 ≡ n
  own = omega (arith, ints, x.own, y.own)

  abbrev rest : Point → Point → ℤ
  rest p q = measured x.s y.s f.0 f.1 *ℤ (turn e.0 e.1 q -ℤ turn e.0 e.1 p)

  step : (p q : Point) → n *ℤ (turn f.0 f.1 q -ℤ turn f.0 f.1 p) ≡ (measured x.s y.s p q *ℤ turned_by f e) +ℤ rest p q
  step p q = (λ i. sym own i *ℤ (turn f.0 f.1 q -ℤ turn f.0 f.1 p)) ∙ heights_along x.s y.s e f p q

  swapped : pos (spread f) *ℤ own_bend ≡ n *ℤ bend
  unfolding units
  swapped =
      ring (pos (spread f) ∷ pos k ∷ pos (spread e) ∷ [])
      (var 0 ⊗ ((var 1 ⊗ var 2) ⊕ (var 1 ⊗ var 2)))
      (var 2 ⊗ ((var 1 ⊗ var 0) ⊕ (var 1 ⊗ var 0)))
      refl

  low : neg_ℤ (pos (spread f)) ≤ℤ measured x.s y.s f.0 f.1
  low = omega (arith, ints, x.low (f.1.0 -ℤ f.0.0), y.low (f.1.1 -ℤ f.0.1))

  high : measured x.s y.s f.0 f.1 ≤ℤ pos (spread f)
  high = omega (arith, ints, x.high (f.1.0 -ℤ f.0.0), y.high (f.1.1 -ℤ f.0.1))

  small : (p q : Point) → IsNearLine k e p → IsNearLine k e q → rest p q ≤ℤ (n *ℤ bend)
  small p q h g =
      subst (λ (z : ℤ). rest p q ≤ℤ z) swapped
      (times_within (measured x.s y.s f.0 f.1) (turn e.0 e.1 q -ℤ turn e.0 e.1 p) (pos (spread f)) own_bend low high
      (omega (arith, linear, h.high, g.low))
      (omega (arith, linear, h.low, g.high)))

  large : (p q : Point) → IsNearLine k e p → IsNearLine k e q → neg_ℤ (n *ℤ bend) ≤ℤ rest p q
  large p q h g = omega (arith, linear, small q p g h, opposite (measured x.s y.s f.0 f.1) (turn e.0 e.1 q) (turn e.0 e.1 p))

  ahead : (p q : Point) → GoesAlong e p q → pos 0 ≤ℤ measured x.s y.s p q
  ahead p q g = omega (arith, linear, x.ahead p.0 q.0 g.east g.west, y.ahead p.1 q.1 g.up g.down)

  -- from a point in the strip of `f` the next stop lies far to the left, so a later one lies to the left of the strip
  pub later_left : (c s w : Point) → IsNearLine k e c → IsNearLine k e s → IsNearLine k e w → GoesAlong e c s → GoesAlong e s w
      → turn f.0 f.1 c ≤ℤ units l f → (units l f +ℤ bend) <ℤ turn f.0 f.1 s → units l f <ℤ turn f.0 f.1 w
  later_left c s w near_c near_s near_w first second inside beyond =
      later_above n (measured x.s y.s c s) (measured x.s y.s s w) (turned_by f e) (rest c s) (rest s w)
      (turn f.0 f.1 c) (turn f.0 f.1 s) (turn f.0 f.1 w) (units l f) bend
      (omega (arith, ints, some)) (ahead c s first) (ahead s w second)
      (step c s) (small c s near_c near_s) (step s w) (large s w near_s near_w) inside beyond

-- ---- the same of edges the other way about

pub units_back : (k : ℕ) (e : Edge) → units k (back e) ≡ units k e
unfolding units
units_back k e =
    let s : spread (back e) ≡ spread e = omega (arith, ints) in
    λ i. pos k *ℤ pos (s i)

pub near_back : (k : ℕ) (e : Edge) (p : Point) → IsNearLine k e p → IsNearLine k (back e) p
near_back k e p h = record {
  low = omega (arith, linear, h.high, turn_flip e.0 e.1 p, units_back k e);
  high = omega (arith, linear, h.low, turn_flip e.0 e.1 p, units_back k e);
}

pub along_back : (e : Edge) (p q : Point) → GoesAlong e p q → GoesAlong (back e) q p
along_back e p q g = record { east = g.west; west = g.east; up = g.down; down = g.up }

pub spread_back : (e : Edge) → spread (back e) ≡ spread e
spread_back e = omega (arith, ints)

pub units_sum : (k l : ℕ) (f : Edge) → units (l + (k + k)) f ≡ units l f +ℤ (units k f +ℤ units k f)
unfolding units
units_sum k l f =
    let s : pos (l + (k + k)) ≡ pos l +ℤ (pos k +ℤ pos k) = omega (arith, ints) in
    (λ i. s i *ℤ pos (spread f))
    ∙ ring (pos l ∷ pos k ∷ pos (spread f) ∷ []) ((var 0 ⊕ (var 1 ⊕ var 1)) ⊗ var 2) ((var 0 ⊗ var 2) ⊕ ((var 1 ⊗ var 2) ⊕ (var 1 ⊗ var 2))) refl
