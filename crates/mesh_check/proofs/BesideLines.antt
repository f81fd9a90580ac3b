-- Lemmas over points: a path bent beside its edge lies hardly nearer to another edge's line than that edge does.
use Rattle.std.proofs.Common.{◌≡◌, ◌⊎◌, inl, inr, ℕ, ◌+◌, ◌*◌, ◌<◌, [], ◌∷◌, refl, sym, ◌∙◌, ap, subst, arith}
use Rattle.std.specs.Prelude.{ℤ, pos, ◌+ℤ◌, ◌-ℤ◌, ◌*ℤ◌, ◌≤ℤ◌, ◌<ℤ◌, neg_ℤ}
use Rattle.std.proofs.lemmas.Int.{ints}
use Rattle.mesh_plane.specs.Plane.{Point, Edge, turn}
use Rattle.mesh_plane.proofs.Crossings.{turn_flip}
use Rattle.mesh_plane.proofs.Ring.{ring, var, neg, ◌⊕◌, ◌⊖◌, ◌⊗◌}
use Rattle.mesh_plane.proofs.Whole.{linear, mul_nonneg, nonneg_of_mul}
use Rattle.mesh_lattice.specs.Split.{back, AreClear, IsInBox}
use Rattle.mesh_lattice.proofs.Boxes.{turn_start}
use Rattle.mesh_pairs.specs.Laws.{spread}
use Rattle.mesh_check.specs.Clear.{LiesBeside}
use Rattle.mesh_check.specs.Heights.{units, GoesAlong, IsNearLine}
use Rattle.mesh_check.proofs.Parted.{parted_by_line}
use Rattle.mesh_check.proofs.Strips.{heights_along, measured, near_back, sign, times_within, turn_between, units_back, Sign}

-- ---- over whole numbers

-- what is `u` of `n` on the way from `a` to `b`, but for `d`, is no less than both, but for `d`
mean_low : (n u a b r m t d : ℤ) → pos 0 <ℤ n → pos 0 ≤ℤ u → u ≤ℤ n → n *ℤ (t -ℤ a) ≡ (u *ℤ (b -ℤ a)) +ℤ r → neg_ℤ (n *ℤ d) ≤ℤ r → m ≤ℤ a → m ≤ℤ b → (m -ℤ d) ≤ℤ t
mean_low n u a b r m t d some least most mean rest first second =
    let p : pos 0 ≤ℤ (u *ℤ (b -ℤ m)) = mul_nonneg u (b -ℤ m) least (omega (arith, linear, second)) in
    let q : pos 0 ≤ℤ ((n -ℤ u) *ℤ (a -ℤ m)) = mul_nonneg (n -ℤ u) (a -ℤ m) (omega (arith, linear, most)) (omega (arith, linear, first)) in
    let all : pos 0 ≤ℤ (n *ℤ (t -ℤ (m -ℤ d))) = omega (arith, linear, p, q, weighed, apart, mean, rest) in
    omega (arith, linear, nonneg_of_mul n (t -ℤ (m -ℤ d)) some all)
  where
    weighed : (u *ℤ (b -ℤ m)) +ℤ ((n -ℤ u) *ℤ (a -ℤ m)) ≡ (u *ℤ (b -ℤ a)) +ℤ (n *ℤ (a -ℤ m))
    weighed =
        ring (u ∷ n ∷ a ∷ b ∷ m ∷ [])
        ((var 0 ⊗ (var 3 ⊖ var 4)) ⊕ ((var 1 ⊖ var 0) ⊗ (var 2 ⊖ var 4)))
        ((var 0 ⊗ (var 3 ⊖ var 2)) ⊕ (var 1 ⊗ (var 2 ⊖ var 4)))
        refl

    apart : n *ℤ (t -ℤ (m -ℤ d)) ≡ ((n *ℤ (t -ℤ a)) +ℤ (n *ℤ (a -ℤ m))) +ℤ (n *ℤ d)
    apart =
        ring (n ∷ t ∷ a ∷ m ∷ d ∷ [])
        (var 0 ⊗ (var 1 ⊖ (var 3 ⊖ var 4)))
        (((var 0 ⊗ (var 1 ⊖ var 2)) ⊕ (var 0 ⊗ (var 2 ⊖ var 3))) ⊕ (var 0 ⊗ var 4))
        refl

-- ---- over points

-- a point in an edge's box lies on the way along it
from_start : (f : Edge) (p : Point) → IsInBox f p → GoesAlong f f.0 p
from_start f p box = record {
  east = λ h. (box.by_x.up h).0;
  west = λ h. (box.by_x.down h).1;
  up = λ h. (box.by_y.up h).0;
  down = λ h. (box.by_y.down h).1;
}

to_end : (f : Edge) (p : Point) → IsInBox f p → GoesAlong f p f.1
to_end f p box = record {
  east = λ h. (box.by_x.up h).1;
  west = λ h. (box.by_x.down h).0;
  up = λ h. (box.by_y.up h).1;
  down = λ h. (box.by_y.down h).0;
}

module _ (l : ℕ) (e f : Edge) (some : 0 < spread f) where
  x : Sign f.0.0 f.1.0
  x = sign f.0.0 f.1.0

  y : Sign f.0.1 f.1.1
  y = sign f.0.1 f.1.1

  abbrev n : ℤ
  n = pos (spread f)

  own : measured x.s y.s f.0 f.1 ≡ n
  own = omega (arith, ints, x.own, y.own)

  ahead : (p q : Point) → GoesAlong f p q → pos 0 ≤ℤ measured x.s y.s p q
  ahead p q g = omega (arith, linear, x.ahead p.0 q.0 g.east g.west, y.ahead p.1 q.1 g.up g.down)

  parts : (p : Point) → measured x.s y.s f.0 p +ℤ measured x.s y.s p f.1 ≡ n
  parts p =
      ring (x.s ∷ y.s ∷ f.0.0 ∷ f.0.1 ∷ f.1.0 ∷ f.1.1 ∷ p.0 ∷ p.1 ∷ [])
      (((var 0 ⊗ (var 6 ⊖ var 2)) ⊕ (var 1 ⊗ (var 7 ⊖ var 3))) ⊕ ((var 0 ⊗ (var 4 ⊖ var 6)) ⊕ (var 1 ⊗ (var 5 ⊖ var 7))))
      ((var 0 ⊗ (var 4 ⊖ var 2)) ⊕ (var 1 ⊗ (var 5 ⊖ var 3)))
      refl
      ∙ own

  -- how a bend changes the height over `e`
  abbrev rest : Point → ℤ
  rest p = measured x.s y.s e.0 e.1 *ℤ (turn f.0 f.1 p -ℤ turn f.0 f.1 f.0)

  mean : (p : Point) → n *ℤ (turn e.0 e.1 p -ℤ turn e.0 e.1 f.0) ≡ (measured x.s y.s f.0 p *ℤ (turn e.0 e.1 f.1 -ℤ turn e.0 e.1 f.0)) +ℤ rest p
  mean p =
      (λ i. sym own i *ℤ (turn e.0 e.1 p -ℤ turn e.0 e.1 f.0))
      ∙ (heights_along x.s y.s f e f.0 p ∙ (λ i. (measured x.s y.s f.0 p *ℤ sym (turn_between e f.0 f.1) i) +ℤ rest p))

  swapped : pos (spread e) *ℤ units l f ≡ n *ℤ units l e
  unfolding units
  swapped = ring (pos (spread e) ∷ pos l ∷ pos (spread f) ∷ []) (var 0 ⊗ (var 1 ⊗ var 2)) (var 2 ⊗ (var 1 ⊗ var 0)) refl

  low : neg_ℤ (pos (spread e)) ≤ℤ neg_ℤ (measured x.s y.s e.0 e.1)
  low = omega (arith, ints, x.high (e.1.0 -ℤ e.0.0), y.high (e.1.1 -ℤ e.0.1))

  high : neg_ℤ (measured x.s y.s e.0 e.1) ≤ℤ pos (spread e)
  high = omega (arith, ints, x.low (e.1.0 -ℤ e.0.0), y.low (e.1.1 -ℤ e.0.1))

  turned : (z w : ℤ) → neg_ℤ z *ℤ w ≡ neg_ℤ (z *ℤ w)
  turned z w = ring (z ∷ w ∷ []) (neg (var 0) ⊗ var 1) (neg (var 0 ⊗ var 1)) refl

  bounded : (p : Point) → IsNearLine l f p → neg_ℤ (n *ℤ units l e) ≤ℤ rest p
  bounded p near =
      let start = turn_start f.0 f.1 in
      let most : (neg_ℤ (measured x.s y.s e.0 e.1) *ℤ (turn f.0 f.1 p -ℤ turn f.0 f.1 f.0)) ≤ℤ (n *ℤ units l e) =
      subst (λ (z : ℤ). (neg_ℤ (measured x.s y.s e.0 e.1) *ℤ (turn f.0 f.1 p -ℤ turn f.0 f.1 f.0)) ≤ℤ z) swapped
      (times_within (neg_ℤ (measured x.s y.s e.0 e.1)) (turn f.0 f.1 p -ℤ turn f.0 f.1 f.0) (pos (spread e)) (units l f) low high
      (omega (arith, linear, near.low, start))
      (omega (arith, linear, near.high, start))) in
      omega (arith, linear, most, turned (measured x.s y.s e.0 e.1) (turn f.0 f.1 p -ℤ turn f.0 f.1 f.0))

  -- a point in the strip of an edge lies to the left of a line, but for how wide the strip is, where the edge does
  stays_left : (m : ℤ) (p : Point) → IsInBox f p → IsNearLine l f p → m ≤ℤ turn e.0 e.1 f.0 → m ≤ℤ turn e.0 e.1 f.1 → (m -ℤ units l e) ≤ℤ turn e.0 e.1 p
  stays_left m p box near first second =
      mean_low n (measured x.s y.s f.0 p) (turn e.0 e.1 f.0) (turn e.0 e.1 f.1) (rest p) m (turn e.0 e.1 p) (units l e) (omega (arith, ints, some))
      (ahead f.0 p (from_start f p box)) (omega (arith, linear, parts p, ahead p f.1 (to_end f p box))) (mean p) (bounded p near) first second

units_of_sum : (k l : ℕ) (e : Edge) → units (k + l) e ≡ units k e +ℤ units l e
unfolding units
units_of_sum k l e =
    let s : pos (k + l) ≡ pos k +ℤ pos l = omega (arith, ints) in
    (λ i. s i *ℤ pos (spread e)) ∙ ring (pos k ∷ pos l ∷ pos (spread e) ∷ []) ((var 0 ⊕ var 1) ⊗ var 2) ((var 0 ⊗ var 2) ⊕ (var 1 ⊗ var 2)) refl

-- a piece of a path along `e`, and one of a path along `f`, which lies to the left of `e`
left_clear : (k l : ℕ) (e f g h : Edge) → 0 < spread f → units (k + l) e <ℤ turn e.0 e.1 f.0 → units (k + l) e <ℤ turn e.0 e.1 f.1
    → IsNearLine k e g.0 → IsNearLine k e g.1 → IsInBox f h.0 → IsInBox f h.1 → IsNearLine l f h.0 → IsNearLine l f h.1 → AreClear h g
left_clear k l e f g h some first second g0 g1 box0 box1 h0 h1 =
    let m : ℤ = units (k + l) e +ℤ pos 1 in
    let low0 = stays_left l e f some m h.0 box0 h0 (omega (arith, linear, first)) (omega (arith, linear, second)) in
    let low1 = stays_left l e f some m h.1 box1 h1 (omega (arith, linear, first)) (omega (arith, linear, second)) in
    parted_by_line e (units k e) h g (omega (arith, linear, low0, units_of_sum k l e)) (omega (arith, linear, low1, units_of_sum k l e)) g0.high g1.high

pub parted_clear_of : (k l : ℕ) (e f g h : Edge) → 0 < spread f → LiesBeside (k + l) e f
    → IsNearLine k e g.0 → IsNearLine k e g.1 → IsInBox f h.0 → IsInBox f h.1 → IsNearLine l f h.0 → IsNearLine l f h.1 → AreClear h g
parted_clear_of k l e f g h some (inl b) g0 g1 box0 box1 h0 h1 = left_clear k l e f g h some b.0 b.1 g0 g1 box0 box1 h0 h1
parted_clear_of k l e f g h some (inr b) g0 g1 box0 box1 h0 h1 =
    left_clear k l (back e) f g h some
    (omega (arith, linear, b.0, turn_flip e.0 e.1 f.0, units_back (k + l) e))
    (omega (arith, linear, b.1, turn_flip e.0 e.1 f.1, units_back (k + l) e))
    (near_back k e g.0 g0) (near_back k e g.1 g1) box0 box1 h0 h1

-- ---- as the code tests it

pub beside_of : (k limit : ℕ) (e f : Edge) (h s t : ℤ) → h ≡ pos limit → limit ≡ k * spread e → s ≡ turn e.0 e.1 f.0 → t ≡ turn e.0 e.1 f.1
    → ((h <ℤ s) × (h <ℤ t)) ⊎ ((s <ℤ neg_ℤ h) × (t <ℤ neg_ℤ h)) → LiesBeside k e f
unfolding units
beside_of k limit e f h s t size limit_is start end sides = by sides
  where
    is : h ≡ units k e
    is = size ∙ ap pos limit_is

    by : ((h <ℤ s) × (h <ℤ t)) ⊎ ((s <ℤ neg_ℤ h) × (t <ℤ neg_ℤ h)) → LiesBeside k e f
    by (inl b) = inl (omega (arith, linear, b.0, is, start), omega (arith, linear, b.1, is, end))
    by (inr b) = inr (omega (arith, linear, b.0, is, start), omega (arith, linear, b.1, is, end))
