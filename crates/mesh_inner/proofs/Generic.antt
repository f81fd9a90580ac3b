-- Lemmas over points and lists: moved a little on a fine grid, a point lies on the line of no proper edge, and winds as before.
use Rattle.std.proofs.Common.{◌≡◌, ℕ, ◌+◌, ◌*◌, ◌<◌, ◌≤◌, ◌⊎◌, inl, inr, ⊎_elim, List, [], ◌∷◌, ◌++◌, not, refl, sym, ◌∙◌, ap, subst, arith}
use Rattle.std.specs.Prelude.{◌≢◌, ℤ, pos, negsuc, neg_ℤ, ◌+ℤ◌, ◌-ℤ◌, ◌*ℤ◌, ◌≤ℤ◌, ◌<ℤ◌, unsigned_abs}
use Rattle.std.specs.List.{All, flat_map}
use Rattle.std.specs.Ordering.{int_eq}
use Rattle.std.proofs.Math.Nat.{mul-le-mul, mul-le-mul_left, mul-le-mul_right}
use Rattle.std.proofs.lemmas.Int.{ints, by_lt_z}
use Rattle.std.proofs.lemmas.List.Elements.{All-nil, All-cons, All-weaker}
use Rattle.mesh_plane.specs.Plane.{Point, Edge, plus, minus, dot, length_sq, turn}
use Rattle.mesh_plane.specs.Winding.{crossing_of, crossing, refined, crossing_on, winding, boundary, holds}
use Rattle.mesh_plane.proofs.ClosedLists.{all_both, all_left, all_right}
use Rattle.mesh_plane.proofs.Crossings.{crossing_low, crossing_high, crossing_up, crossing_down}
use Rattle.mesh_plane.proofs.Grids.{scale}
use Rattle.mesh_plane.proofs.PointExprs.{point_var, coordinates, turned, scaled_point_expr}
use Rattle.mesh_plane.proofs.Ring.{ring, var, lit, ◌⊕◌, ◌⊖◌, ◌⊗◌, dot_of}
use Rattle.mesh_plane.proofs.Sizes.{dot_self}
use Rattle.mesh_plane.proofs.Sums.{sum_of_equal, sum_of_same}
use Rattle.mesh_plane.proofs.Whole.{linear, mul_add, mul_assoc, mul_one, one_mul, mul_zero, mul_nonneg, mul_nonneg_nonpos, mul_pos, mul_pos_neg, mul_le_mul_left, mul_le_mul_right, mul_lt_mul_left, mul_cancel, factor}
use Rattle.mesh_lattice.specs.Clean.{IsOn, refined_edge}
use Rattle.mesh_lattice.proofs.Means.{mean_of_on, on_of_mean}

-- ---- what is said

-- the point `q` on a grid `k` times as fine, moved there by `v` to the east and by 1 up
abbrev pub moved : ℕ → ℤ → Point → Point
moved k v q = ((pos k *ℤ q.0) +ℤ v, (pos k *ℤ q.1) +ℤ pos 1)

-- so moved, the point is crossed as before by an edge, does not lie on its line, and stays on a side of it
pub record IsAlike (m k : ℕ) (v : ℤ) (q : Point) (e : Edge) : Type 0 where
  pub crosses : crossing_on (k * m) (moved k v q) e.0 e.1 ≡ crossing_on m q e.0 e.1
  pub turns : e.0 ≢ e.1 → turn (refined (k * m) e.0) (refined (k * m) e.1) (moved k v q) ≢ pos 0
  pub left : pos 0 <ℤ turn (refined m e.0) (refined m e.1) q → pos 0 <ℤ turn (refined (k * m) e.0) (refined (k * m) e.1) (moved k v q)

-- on all grids that are fine enough
pub record IsGeneric (m : ℕ) (q : Point) (es : List Edge) : Type 0 where
  pub v : ℤ
  pub least : ℕ
  pub some : 2 ≤ least
  pub alike : (k : ℕ) → least ≤ k → All (IsAlike m k v q) es

-- ---- the crossing, over bare numbers

up_kept : (x y t s : ℤ) → ((x ≡ pos 1) × (pos 0 <ℤ t)) ⊎ ((x ≡ pos 0) × (t ≤ℤ pos 0)) →
    ((y ≡ pos 1) × (pos 0 <ℤ s)) ⊎ ((y ≡ pos 0) × (s ≤ℤ pos 0)) →
    (pos 0 <ℤ t → pos 0 <ℤ s) → (t ≤ℤ pos 0 → s ≤ℤ pos 0) → y ≡ x
up_kept x y t s (inl h) (inl g) left right = g.0 ∙ sym h.0
up_kept x y t s (inl h) (inr g) left right = absurd (let l : pos 0 <ℤ s = left h.1 in omega (arith, ints, l, g.1))
up_kept x y t s (inr h) (inl g) left right = absurd (let l : s ≤ℤ pos 0 = right h.1 in omega (arith, ints, l, g.1))
up_kept x y t s (inr h) (inr g) left right = g.0 ∙ sym h.0

down_kept : (x y t s : ℤ) → ((x ≡ negsuc 0) × (t <ℤ pos 0)) ⊎ ((x ≡ pos 0) × (pos 0 ≤ℤ t)) →
    ((y ≡ negsuc 0) × (s <ℤ pos 0)) ⊎ ((y ≡ pos 0) × (pos 0 ≤ℤ s)) →
    (t <ℤ pos 0 → s <ℤ pos 0) → (pos 0 ≤ℤ t → pos 0 ≤ℤ s) → y ≡ x
down_kept x y t s (inl h) (inl g) right left = g.0 ∙ sym h.0
down_kept x y t s (inl h) (inr g) right left = absurd (let l : s <ℤ pos 0 = right h.1 in omega (arith, ints, l, g.1))
down_kept x y t s (inr h) (inl g) right left = absurd (let l : pos 0 ≤ℤ s = left h.1 in omega (arith, ints, l, g.1))
down_kept x y t s (inr h) (inr g) right left = g.0 ∙ sym h.0

-- a multiple that is not above another is below that one's next number, and no other is
low_kept : (k a h : ℤ) → pos 2 ≤ℤ k → a ≤ℤ h → (k *ℤ a) ≤ℤ ((k *ℤ h) +ℤ pos 1)
low_kept k a h two low =
    let l : (k *ℤ a) ≤ℤ (k *ℤ h) = mul_le_mul_left k a h (omega (arith, linear)) low in
    omega (arith, linear, l)

high_kept : (k a h : ℤ) → pos 2 ≤ℤ k → h <ℤ a → ((k *ℤ h) +ℤ pos 1) <ℤ (k *ℤ a)
high_kept k a h two high =
    let l : (k *ℤ (h +ℤ pos 1)) ≤ℤ (k *ℤ a) = mul_le_mul_left k (h +ℤ pos 1) a (omega (arith, linear)) (omega (arith, ints)) in
    omega (arith, linear, l, mul_add k h (pos 1), mul_one k)

-- a turn to the left or to the right stays one
left_kept : (k t w : ℤ) → pos 0 <ℤ k → neg_ℤ k <ℤ w → pos 0 <ℤ t → pos 0 <ℤ (k *ℤ ((k *ℤ t) +ℤ w))
left_kept k t w some small h =
    let l : (k *ℤ pos 1) ≤ℤ (k *ℤ t) = mul_le_mul_left k (pos 1) t (omega (arith, linear)) (omega (arith, ints)) in
    mul_pos k ((k *ℤ t) +ℤ w) some (omega (arith, linear, l, mul_one k))

right_kept : (k t w : ℤ) → pos 0 <ℤ k → w <ℤ k → t <ℤ pos 0 → (k *ℤ ((k *ℤ t) +ℤ w)) <ℤ pos 0
right_kept k t w some small h =
    let l : (k *ℤ t) ≤ℤ (k *ℤ negsuc 0) = mul_le_mul_left k t (negsuc 0) (omega (arith, linear)) (omega (arith, ints)) in
    let o : k *ℤ negsuc 0 ≡ neg_ℤ k = omega (arith, ints) in
    mul_pos_neg k ((k *ℤ t) +ℤ w) some (omega (arith, linear, l, o))

not_left_kept : (k t w : ℤ) → pos 0 <ℤ k → w ≤ℤ pos 0 → t ≤ℤ pos 0 → (k *ℤ ((k *ℤ t) +ℤ w)) ≤ℤ pos 0
not_left_kept k t w some low h =
    let l : (k *ℤ t) ≤ℤ pos 0 = mul_nonneg_nonpos k t (omega (arith, linear)) h in
    mul_nonneg_nonpos k ((k *ℤ t) +ℤ w) (omega (arith, linear)) (omega (arith, linear, l))

not_right_kept : (k t w : ℤ) → pos 0 <ℤ k → pos 0 ≤ℤ w → pos 0 ≤ℤ t → pos 0 ≤ℤ (k *ℤ ((k *ℤ t) +ℤ w))
not_right_kept k t w some high h =
    let l : pos 0 ≤ℤ (k *ℤ t) = mul_nonneg k t (omega (arith, linear)) h in
    mul_nonneg k ((k *ℤ t) +ℤ w) (omega (arith, linear)) (omega (arith, linear, l))

-- what is moved by less than a step of the coarser grid is never 0, where it is not moved by 0
some_kept : (k t w : ℤ) → pos 0 <ℤ k → neg_ℤ k <ℤ w → w <ℤ k → w ≢ pos 0 → (k *ℤ ((k *ℤ t) +ℤ w)) ≢ pos 0
some_kept k t w some low high apart e =
    by_lt_z (pos 0) t
    (λ (h : pos 0 <ℤ t). let l : pos 0 <ℤ (k *ℤ ((k *ℤ t) +ℤ w)) = left_kept k t w some low h in absurd (omega (arith, linear, l, e)))
    (λ (h : t ≤ℤ pos 0).
    by_lt_z t (pos 0)
    (λ (g : t <ℤ pos 0). let l : (k *ℤ ((k *ℤ t) +ℤ w)) <ℤ pos 0 = right_kept k t w some high g in absurd (omega (arith, linear, l, e)))
    (λ (g : pos 0 ≤ℤ t).
    let none : t ≡ pos 0 = omega (arith, ints) in
    let flat : k *ℤ t ≡ pos 0 = ap (λ (n : ℤ). k *ℤ n) none ∙ mul_zero k in
    ⊎_elim
    (λ (zero : k ≡ pos 0). absurd (omega (arith, linear)))
    (λ (zero : (k *ℤ t) +ℤ w ≡ pos 0). apart (omega (arith, linear)))
    (factor k ((k *ℤ t) +ℤ w) e)))

-- multiples lie on the sides of `g` on which the numbers lie of `h`
record IsAtHeight (k h g : ℤ) : Type 0 where
  low : (y : ℤ) → y ≤ℤ h → (k *ℤ y) ≤ℤ g
  high : (y : ℤ) → h <ℤ y → g <ℤ (k *ℤ y)

next_height : (k h : ℤ) → pos 2 ≤ℤ k → IsAtHeight k h ((k *ℤ h) +ℤ pos 1)
next_height k h two = record { low = λ (y : ℤ). low_kept k y h two; high = λ (y : ℤ). high_kept k y h two }

same_height : (k h : ℤ) → pos 0 <ℤ k → IsAtHeight k h (k *ℤ h)
same_height k h some = record {
  low = λ (y : ℤ). mul_le_mul_left k y h (omega (arith, linear));
  high = λ (y : ℤ). mul_lt_mul_left k h y some;
}

crossing_kept : (k a b h g t w : ℤ) → pos 0 <ℤ k → IsAtHeight k h g → neg_ℤ k <ℤ w → w <ℤ k →
    (a <ℤ b → w ≤ℤ pos 0) → (b <ℤ a → pos 0 ≤ℤ w) →
    crossing_of (k *ℤ a) (k *ℤ b) g (k *ℤ ((k *ℤ t) +ℤ w)) ≡ crossing_of a b h t
crossing_kept k a b h g t w some at low high up down =
    let s : ℤ = k *ℤ ((k *ℤ t) +ℤ w) in
    by_lt_z h a
    (λ (ha : h <ℤ a).
    by_lt_z h b
    (λ (hb : h <ℤ b).
    crossing_high (k *ℤ a) (k *ℤ b) g s (at.high a ha) (at.high b hb) ∙ sym (crossing_high a b h t ha hb))
    (λ (hb : b ≤ℤ h).
    let fall : pos 0 ≤ℤ w = down (omega (arith, linear)) in
    down_kept (crossing_of a b h t) (crossing_of (k *ℤ a) (k *ℤ b) g s) t s (crossing_down a b h t ha hb)
    (crossing_down (k *ℤ a) (k *ℤ b) g s (at.high a ha) (at.low b hb))
    (right_kept k t w some high) (not_right_kept k t w some fall)))
    (λ (ha : a ≤ℤ h).
    by_lt_z h b
    (λ (hb : h <ℤ b).
    let rise : w ≤ℤ pos 0 = up (omega (arith, linear)) in
    up_kept (crossing_of a b h t) (crossing_of (k *ℤ a) (k *ℤ b) g s) t s (crossing_up a b h t ha hb)
    (crossing_up (k *ℤ a) (k *ℤ b) g s (at.low a ha) (at.high b hb))
    (left_kept k t w some low) (not_left_kept k t w some rise))
    (λ (hb : b ≤ℤ h).
    crossing_low (k *ℤ a) (k *ℤ b) g s (at.low a ha) (at.low b hb) ∙ sym (crossing_low a b h t ha hb)))

-- ---- how a turn moves

-- `k` times this is how the turn from the edge from `p` to `r` moves
abbrev shift : ℤ → Point → Point → ℤ
shift v p r = (r.0 -ℤ p.0) -ℤ ((r.1 -ℤ p.1) *ℤ v)

turn_moved : (k v : ℤ) (p r q : Point) →
    turn (scale k p) (scale k r) ((k *ℤ q.0) +ℤ v, (k *ℤ q.1) +ℤ pos 1) ≡ k *ℤ ((k *ℤ turn p r q) +ℤ shift v p r)
turn_moved k v p r q =
    ring (coordinates (p ∷ r ∷ q ∷ []) (k ∷ v ∷ []))
    (turned (scaled_point_expr (var 6) (point_var 0)) (scaled_point_expr (var 6) (point_var 1)) ((var 6 ⊗ var 4) ⊕ var 7, (var 6 ⊗ var 5) ⊕ lit (pos 1)))
    (var 6 ⊗ ((var 6 ⊗ turned (point_var 0) (point_var 1) (point_var 2)) ⊕ ((var 2 ⊖ var 0) ⊖ ((var 3 ⊖ var 1) ⊗ var 7))))
    refl

-- where `v` is larger than an edge is wide
shift_up : (x y v : ℤ) → neg_ℤ v <ℤ x → x <ℤ v → pos 0 <ℤ y → (x -ℤ (y *ℤ v)) <ℤ pos 0
shift_up x y v low high up =
    let l : (pos 1 *ℤ v) ≤ℤ (y *ℤ v) = mul_le_mul_right v (pos 1) y (omega (arith, linear)) (omega (arith, ints)) in
    omega (arith, linear, l, one_mul v)

shift_down : (x y v : ℤ) → neg_ℤ v <ℤ x → x <ℤ v → y <ℤ pos 0 → pos 0 <ℤ (x -ℤ (y *ℤ v))
shift_down x y v low high down =
    let l : (y *ℤ v) ≤ℤ (negsuc 0 *ℤ v) = mul_le_mul_right v y (negsuc 0) (omega (arith, linear)) (omega (arith, ints)) in
    let o : negsuc 0 *ℤ v ≡ neg_ℤ v = omega (arith, ints) in
    omega (arith, linear, l, o)

shift_some : (x y v : ℤ) → neg_ℤ v <ℤ x → x <ℤ v → (x ≡ pos 0 → y ≡ pos 0 → ⊥) → (x -ℤ (y *ℤ v)) ≢ pos 0
shift_some x y v low high apart e =
    by_lt_z (pos 0) y
    (λ (h : pos 0 <ℤ y). let l : (x -ℤ (y *ℤ v)) <ℤ pos 0 = shift_up x y v low high h in absurd (omega (arith, linear, l, e)))
    (λ (h : y ≤ℤ pos 0).
    by_lt_z y (pos 0)
    (λ (g : y <ℤ pos 0). let l : pos 0 <ℤ (x -ℤ (y *ℤ v)) = shift_down x y v low high g in absurd (omega (arith, linear, l, e)))
    (λ (g : pos 0 ≤ℤ y).
    let none : y ≡ pos 0 = omega (arith, ints) in
    let flat : y *ℤ v ≡ pos 0 = ap (λ (n : ℤ). n *ℤ v) none ∙ omega (arith, ints) in
    apart (omega (arith, linear)) none))

-- ---- one edge

twice_refined : (k m : ℕ) (p : Point) → refined (k * m) p ≡ scale (pos k) (refined m p)
twice_refined k m p = λ i. (mul_assoc (pos k) (pos m) p.0 i, mul_assoc (pos k) (pos m) p.1 i)

-- a number's size below another's
above_size : (z : ℤ) (n : ℕ) → unsigned_abs z < n → neg_ℤ (pos n) <ℤ z
above_size z n h = omega (arith, ints)

below_size : (z : ℤ) (n : ℕ) → unsigned_abs z < n → z <ℤ pos n
below_size z n h = omega (arith, ints)

same_of_refined : (m : ℕ) (a b : ℤ) → 0 < m → (pos m *ℤ b) -ℤ (pos m *ℤ a) ≡ pos 0 → a ≡ b
same_of_refined m a b some e = mul_cancel (pos m) a b (omega (arith, ints)) (omega (arith, linear, e))

module _ (m k n : ℕ) (q : Point) (e : Edge) (some : 0 < m) (two : 2 ≤ k)
    (wide : unsigned_abs ((refined m e.1).0 -ℤ (refined m e.0).0) < n) (deep : unsigned_abs (shift (pos n) (refined m e.0) (refined m e.1)) < k) where
  abbrev p : Point
  p = refined m e.0

  abbrev r : Point
  r = refined m e.1

  turn_of_moved : turn (refined (k * m) e.0) (refined (k * m) e.1) (moved k (pos n) q) ≡ pos k *ℤ ((pos k *ℤ turn p r q) +ℤ shift (pos n) p r)
  turn_of_moved =
      (λ i. turn (twice_refined k m e.0 i) (twice_refined k m e.1 i) (moved k (pos n) q)) ∙ turn_moved (pos k) (pos n) p r q

  crossing_of_moved : crossing_on (k * m) (moved k (pos n) q) e.0 e.1 ≡ crossing_on m q e.0 e.1
  crossing_of_moved =
      (λ i. crossing (moved k (pos n) q) (twice_refined k m e.0 i) (twice_refined k m e.1 i))
      ∙ (ap (λ (t : ℤ). crossing_of (pos k *ℤ p.1) (pos k *ℤ r.1) ((pos k *ℤ q.1) +ℤ pos 1) t) (turn_moved (pos k) (pos n) p r q)
      ∙ crossing_kept (pos k) p.1 r.1 q.1 ((pos k *ℤ q.1) +ℤ pos 1) (turn p r q) (shift (pos n) p r) (omega (arith, ints)) (next_height (pos k) q.1 (omega (arith, ints)))
      (above_size (shift (pos n) p r) k deep) (below_size (shift (pos n) p r) k deep)
      (λ (up : p.1 <ℤ r.1).
      let l : shift (pos n) p r <ℤ pos 0 = shift_up (r.0 -ℤ p.0) (r.1 -ℤ p.1) (pos n) (above_size (r.0 -ℤ p.0) n wide) (below_size (r.0 -ℤ p.0) n wide) (omega (arith, linear)) in
      omega (arith, linear, l))
      (λ (down : r.1 <ℤ p.1).
      let l : pos 0 <ℤ shift (pos n) p r = shift_down (r.0 -ℤ p.0) (r.1 -ℤ p.1) (pos n) (above_size (r.0 -ℤ p.0) n wide) (below_size (r.0 -ℤ p.0) n wide) (omega (arith, linear)) in
      omega (arith, linear, l)))

  not_on_line : e.0 ≢ e.1 → turn (refined (k * m) e.0) (refined (k * m) e.1) (moved k (pos n) q) ≢ pos 0
  not_on_line apart flat =
      some_kept (pos k) (turn p r q) (shift (pos n) p r) (omega (arith, ints)) (above_size (shift (pos n) p r) k deep) (below_size (shift (pos n) p r) k deep)
      (shift_some (r.0 -ℤ p.0) (r.1 -ℤ p.1) (pos n) (above_size (r.0 -ℤ p.0) n wide) (below_size (r.0 -ℤ p.0) n wide)
      (λ (x : r.0 -ℤ p.0 ≡ pos 0) (y : r.1 -ℤ p.1 ≡ pos 0).
      apart (λ i. (same_of_refined m e.0.0 e.1.0 some x i, same_of_refined m e.0.1 e.1.1 some y i))))
      (sym turn_of_moved ∙ flat)

  on_left : pos 0 <ℤ turn p r q → pos 0 <ℤ turn (refined (k * m) e.0) (refined (k * m) e.1) (moved k (pos n) q)
  on_left h =
      let l : (pos k *ℤ pos 1) ≤ℤ (pos k *ℤ turn p r q) = mul_le_mul_left (pos k) (pos 1) (turn p r q) (omega (arith, ints)) (omega (arith, linear, h)) in
      let o : pos k *ℤ pos 1 ≡ pos k = omega (arith, ints) in
      let d = above_size (shift (pos n) p r) k deep in
      let s : pos 0 <ℤ ((pos k *ℤ turn p r q) +ℤ shift (pos n) p r) = omega (arith, linear, l, o, d) in
      let g : pos 0 <ℤ (pos k *ℤ ((pos k *ℤ turn p r q) +ℤ shift (pos n) p r)) = mul_pos (pos k) _ (omega (arith, ints, two)) s in
      omega (arith, linear, turn_of_moved, g)

  alike_edge : IsAlike m k (pos n) q e
  alike_edge = record { crosses = crossing_of_moved; turns = not_on_line; left = on_left }

-- ---- all edges

record Bounded (f : Edge → ℕ) (es : List Edge) : Type 0 where
  most : ℕ
  each : All (λ (e : Edge). f e ≤ most) es

bounded : (f : Edge → ℕ) (es : List Edge) → Bounded f es
bounded f [] = record { most = 0; each = All-nil (λ (e : Edge). f e ≤ 0) }
bounded f (e ∷ es) =
    let b = bounded f es in
    record {
      most = f e + b.most;
      each =
          All-cons (λ (g : Edge). f g ≤ f e + b.most) e es (omega arith)
          (All-weaker (λ (g : Edge). f g ≤ b.most) (λ (g : Edge). f g ≤ f e + b.most) (λ (g : Edge) (h : f g ≤ b.most). omega arith) es b.each);
    }

abbrev width : ℕ → Edge → ℕ
width m e = unsigned_abs ((refined m e.1).0 -ℤ (refined m e.0).0)

abbrev depth : ℕ → ℕ → Edge → ℕ
depth m n e = unsigned_abs (shift (pos n) (refined m e.0) (refined m e.1))

-- for all `k` from some number on, moved by (`v`, 1) on the grid `k * m` a point is as before for all of some edges
pub generic : (m : ℕ) (q : Point) (es : List Edge) → 0 < m → IsGeneric m q es
generic m q es some =
    let wide = bounded (width m) es in
    let deep = bounded (depth m (wide.most + 1)) es in
    record {
      v = pos (wide.most + 1);
      least = deep.most + 2;
      some = omega arith;
      alike = λ (k : ℕ) (h : deep.most + 2 ≤ k).
          All-weaker (λ (e : Edge). (width m e ≤ wide.most) × (depth m (wide.most + 1) e ≤ deep.most)) (IsAlike m k (pos (wide.most + 1)) q)
          (λ (e : Edge) (both : (width m e ≤ wide.most) × (depth m (wide.most + 1) e ≤ deep.most)).
          one wide.most deep.most k e h both.0 both.1) es
          (all_both (λ (e : Edge). width m e ≤ wide.most) (λ (e : Edge). depth m (wide.most + 1) e ≤ deep.most) es wide.each deep.each);
    }
  where
    one : (a b k : ℕ) (e : Edge) → b + 2 ≤ k → width m e ≤ a → depth m (a + 1) e ≤ b → IsAlike m k (pos (a + 1)) q e
    one a b k e large wide deep = alike_edge m k (a + 1) q e some (omega arith) (omega arith) (omega arith)

-- ---- what follows

-- the winding stays
pub winding_as_moved : (m k : ℕ) (v : ℤ) (q : Point) (es : List Edge) → All (IsAlike m k v q) es →
    winding (k * m) (moved k v q) es ≡ winding m q es
winding_as_moved m k v q es h =
    sum_of_equal (λ (e : Edge). crossing_on (k * m) (moved k v q) e.0 e.1) (λ (e : Edge). crossing_on m q e.0 e.1) es
    (All-weaker (IsAlike m k v q) (λ (e : Edge). crossing_on (k * m) (moved k v q) e.0 e.1 ≡ crossing_on m q e.0 e.1)
    (λ (e : Edge) (g : IsAlike m k v q e). g.crosses) es h)

-- a piece holds the moved point where it holds the point
pub held_as_moved : (m k : ℕ) (v : ℤ) (q : Point) (piece : List Point) → All (IsAlike m k v q) (boundary piece) →
    holds (k * m) (moved k v q) piece ≡ holds m q piece
held_as_moved m k v q piece h = ap (λ (z : ℤ). not (int_eq z (pos 0))) (winding_as_moved m k v q (boundary piece) h)

-- ---- the same point on a finer grid

turn_finer : (k : ℤ) (p r q : Point) → turn (scale k p) (scale k r) (scale k q) ≡ k *ℤ ((k *ℤ turn p r q) +ℤ pos 0)
turn_finer k p r q =
    ring (coordinates (p ∷ r ∷ q ∷ []) (k ∷ []))
    (turned (scaled_point_expr (var 6) (point_var 0)) (scaled_point_expr (var 6) (point_var 1)) (scaled_point_expr (var 6) (point_var 2)))
    (var 6 ⊗ ((var 6 ⊗ turned (point_var 0) (point_var 1) (point_var 2)) ⊕ lit (pos 0)))
    refl

crossing_finer : (g m : ℕ) (q a b : Point) → 0 < g → crossing_on (g * m) (refined g q) a b ≡ crossing_on m q a b
crossing_finer g m q a b some =
    let p : Point = refined m a in
    let r : Point = refined m b in
    let least : pos 0 <ℤ pos g = omega (arith, ints) in
    (λ i. crossing (refined g q) (twice_refined g m a i) (twice_refined g m b i))
    ∙ (ap (λ (t : ℤ). crossing_of (pos g *ℤ p.1) (pos g *ℤ r.1) (pos g *ℤ q.1) t) (turn_finer (pos g) p r q)
    ∙ crossing_kept (pos g) p.1 r.1 q.1 (pos g *ℤ q.1) (turn p r q) (pos 0) least (same_height (pos g) q.1 least)
    (omega (arith, ints)) least (λ (up : p.1 <ℤ r.1). omega (arith, ints)) (λ (down : r.1 <ℤ p.1). omega (arith, ints)))

pub winding_finer : (g m : ℕ) (q : Point) (es : List Edge) → 0 < g → winding (g * m) (refined g q) es ≡ winding m q es
winding_finer g m q es some =
    sum_of_same (λ (e : Edge). crossing_on (g * m) (refined g q) e.0 e.1) (λ (e : Edge). crossing_on m q e.0 e.1)
    (λ (e : Edge). crossing_finer g m q e.0 e.1 some) es

pub held_finer : (g m : ℕ) (q : Point) (piece : List Point) → 0 < g → holds (g * m) (refined g q) piece ≡ holds m q piece
held_finer g m q piece some = ap (λ (z : ℤ). not (int_eq z (pos 0))) (winding_finer g m q (boundary piece) some)

finer_mean : (k m : ℕ) (s t a b z : ℤ) → (s +ℤ t) *ℤ z ≡ (s *ℤ (pos m *ℤ a)) +ℤ (t *ℤ (pos m *ℤ b)) →
    (s +ℤ t) *ℤ (pos k *ℤ z) ≡ (s *ℤ (pos (k * m) *ℤ a)) +ℤ (t *ℤ (pos (k * m) *ℤ b))
finer_mean k m s t a b z e =
    ring (pos k ∷ s ∷ t ∷ z ∷ []) ((var 1 ⊕ var 2) ⊗ (var 0 ⊗ var 3)) (var 0 ⊗ ((var 1 ⊕ var 2) ⊗ var 3)) refl
    ∙ (ap (λ (x : ℤ). pos k *ℤ x) e
    ∙ ring (pos k ∷ pos m ∷ s ∷ t ∷ a ∷ b ∷ [])
    (var 0 ⊗ ((var 2 ⊗ (var 1 ⊗ var 4)) ⊕ (var 3 ⊗ (var 1 ⊗ var 5))))
    ((var 2 ⊗ ((var 0 ⊗ var 1) ⊗ var 4)) ⊕ (var 3 ⊗ ((var 0 ⊗ var 1) ⊗ var 5)))
    refl)

-- a point of an edge stays one
pub on_finer : (k m : ℕ) (e : Edge) (z : Point) → IsOn (refined_edge m e) z → IsOn (refined_edge (k * m) e) (refined k z)
on_finer k m e z h =
    let mean = mean_of_on (refined m e.0) (refined m e.1) z h in
    on_of_mean (refined (k * m) e.0) (refined (k * m) e.1) (refined k z) (record {
      first = mean.first;
      second = mean.second;
      first_least = mean.first_least;
      second_least = mean.second_least;
      some = mean.some;
      by_x = finer_mean k m mean.first mean.second e.0.0 e.1.0 z.0 mean.by_x;
      by_y = finer_mean k m mean.first mean.second e.0.1 e.1.1 z.1 mean.by_y;
    })

-- ---- lengths

-- a vector on a grid `k` times as fine, and a step from there
length_moved : (k : ℕ) (w s : Point) →
    length_sq (plus (refined k w) s) ≤ (k * (k * length_sq w) + k * unsigned_abs (dot w s +ℤ dot w s)) + length_sq s
length_moved k w s =
    finish (length_sq (plus (refined k w) s)) (k * (k * length_sq w)) (k * unsigned_abs (dot w s +ℤ dot w s)) (length_sq s) (pos k *ℤ (dot w s +ℤ dot w s))
    (sym (dot_self (plus (refined k w) s)) ∙ (whole ∙ parts))
    (mul_le_mul_left (pos k) (dot w s +ℤ dot w s) (pos (unsigned_abs (dot w s +ℤ dot w s))) (omega (arith, ints)) (at_most_size (dot w s +ℤ dot w s)))
  where
    at_most_size : (z : ℤ) → z ≤ℤ pos (unsigned_abs z)
    at_most_size z = omega (arith, ints)

    whole : dot (plus (refined k w) s) (plus (refined k w) s) ≡ ((pos k *ℤ (pos k *ℤ dot w w)) +ℤ (pos k *ℤ (dot w s +ℤ dot w s))) +ℤ dot s s
    whole =
        ring (w.0 ∷ w.1 ∷ s.0 ∷ s.1 ∷ pos k ∷ [])
        (dot_of ((var 4 ⊗ var 0) ⊕ var 2) ((var 4 ⊗ var 1) ⊕ var 3) ((var 4 ⊗ var 0) ⊕ var 2) ((var 4 ⊗ var 1) ⊕ var 3))
        (((var 4 ⊗ (var 4 ⊗ dot_of (var 0) (var 1) (var 0) (var 1)))
        ⊕ (var 4 ⊗ (dot_of (var 0) (var 1) (var 2) (var 3) ⊕ dot_of (var 0) (var 1) (var 2) (var 3))))
        ⊕ dot_of (var 2) (var 3) (var 2) (var 3))
        refl

    parts : ((pos k *ℤ (pos k *ℤ dot w w)) +ℤ (pos k *ℤ (dot w s +ℤ dot w s))) +ℤ dot s s
        ≡ (pos (k * (k * length_sq w)) +ℤ (pos k *ℤ (dot w s +ℤ dot w s))) +ℤ pos (length_sq s)
    parts = λ i. ((pos k *ℤ (pos k *ℤ dot_self w i)) +ℤ (pos k *ℤ (dot w s +ℤ dot w s))) +ℤ dot_self s i

    finish : (n a b c : ℕ) (z : ℤ) → pos n ≡ (pos a +ℤ z) +ℤ pos c → z ≤ℤ pos b → n ≤ (a + b) + c
    finish n a b c z e h = omega (arith, ints)

-- what is near on a grid stays strictly near on all that are fine enough, `s` being the step on each
pub record IsNearAsMoved (t grid : ℕ) (w s : Point) : Type 0 where
  pub least : ℕ
  pub near : (k : ℕ) → least ≤ k →
      2 * length_sq (plus (refined k w) s) + 2 * ((k * grid) * (k * grid)) < t * ((k * grid) * (k * grid))

pub near_as_moved : (b t grid : ℕ) (w s : Point) → b + 2 < t → 0 < grid → 2 * length_sq w ≤ b * (grid * grid) → IsNearAsMoved t grid w s
near_as_moved b t grid w s room some near = record {
  least = (2 * unsigned_abs (dot w s +ℤ dot w s) + 2 * length_sq s) + 1;
  near = λ (k : ℕ) (h : (2 * unsigned_abs (dot w s +ℤ dot w s) + 2 * length_sq s) + 1 ≤ k).
      bare (length_sq (plus (refined k w) s)) k (length_sq w) (unsigned_abs (dot w s +ℤ dot w s)) (length_sq s) h (length_moved k w s) near;
}
  where
    bare : (n k l c d : ℕ) → (2 * c + 2 * d) + 1 ≤ k → n ≤ (k * (k * l) + k * c) + d → 2 * l ≤ b * (grid * grid) →
        2 * n + 2 * ((k * grid) * (k * grid)) < t * ((k * grid) * (k * grid))
    bare n k l c d large most short =
        let first : (k * k) * (2 * l) ≤ (k * k) * (b * (grid * grid)) = mul-le-mul_left (k * k) short in
        let second : k * ((2 * c + 2 * d) + 1) ≤ k * k = mul-le-mul_left k large in
        let third : 1 * d ≤ k * d = mul-le-mul_right d (omega arith) in
        let one : 1 * 1 ≤ grid * grid = mul-le-mul some some in
        let fourth : (k * k) * (1 * 1) ≤ (k * k) * (grid * grid) = mul-le-mul_left (k * k) one in
        let fifth : (b + 3) * ((k * grid) * (k * grid)) ≤ t * ((k * grid) * (k * grid)) = mul-le-mul_right ((k * grid) * (k * grid)) (omega arith) in
        omega (arith, first, second, third, fourth, fifth)

-- from another point of the grid, the moved point is as far as before but for the step
pub moved_apart : (k : ℕ) (v : ℤ) (q c : Point) → minus (moved k v q) (refined k c) ≡ plus (refined k (minus q c)) (v, pos 1)
moved_apart k v q c = λ i. (apart q.0 c.0 v i, apart q.1 c.1 (pos 1) i)
  where
    apart : (x y s : ℤ) → ((pos k *ℤ x) +ℤ s) -ℤ (pos k *ℤ y) ≡ (pos k *ℤ (x -ℤ y)) +ℤ s
    apart x y s =
        ring (pos k ∷ x ∷ y ∷ s ∷ []) (((var 0 ⊗ var 1) ⊕ var 3) ⊖ (var 0 ⊗ var 2)) ((var 0 ⊗ (var 1 ⊖ var 2)) ⊕ var 3) refl

left_finer : (g m : ℕ) (q a b : Point) → 0 < g → pos 0 <ℤ turn (refined m a) (refined m b) q → pos 0 <ℤ turn (refined (g * m) a) (refined (g * m) b) (refined g q)
left_finer g m q a b some h =
    let least : pos 0 <ℤ pos g = omega (arith, ints, some) in
    let e : turn (refined (g * m) a) (refined (g * m) b) (refined g q) ≡ pos g *ℤ ((pos g *ℤ turn (refined m a) (refined m b) q) +ℤ pos 0) =
    (λ i. turn (twice_refined g m a i) (twice_refined g m b i) (refined g q)) ∙ turn_finer (pos g) (refined m a) (refined m b) q in
    let l : pos 0 <ℤ (pos g *ℤ turn (refined m a) (refined m b) q) = mul_pos (pos g) _ least h in
    let k : pos 0 <ℤ (pos g *ℤ ((pos g *ℤ turn (refined m a) (refined m b) q) +ℤ pos 0)) = mul_pos (pos g) _ least (omega (arith, linear, l)) in
    omega (arith, linear, e, k)

-- ---- together

-- in place of the point `q` of the grid `m`: a point, on a grid of its own, that the same of some pieces hold, that lies on
-- the line of no proper edge of some and to the left of those that the point lies to the left of, and that is still nearer
-- than the root of `t / 2 - 1` to a point of the edge `e`
pub record IsFreed (t m : ℕ) (e : Edge) (q : Point) (pieces : List (List Point)) (es : List Edge) : Type 0 where
  pub grid : ℕ
  pub some : 0 < grid
  pub point : Point
  pub nearest : Point
  pub held : All (λ (piece : List Point). holds grid point piece ≡ holds m q piece) pieces
  pub turns : All (λ (f : Edge). f.0 ≢ f.1 → turn (refined grid f.0) (refined grid f.1) point ≢ pos 0) es
  pub left : All (λ (f : Edge). pos 0 <ℤ turn (refined m f.0) (refined m f.1) q → pos 0 <ℤ turn (refined grid f.0) (refined grid f.1) point) es
  pub on_edge : IsOn (refined_edge grid e) nearest
  pub near : 2 * length_sq (minus point nearest) + 2 * (grid * grid) < t * (grid * grid)

nested : (P : Edge → Type 0) (pieces : List (List Point)) → All P (flat_map (λ (piece : List Point). boundary piece) pieces) →
    All (λ (piece : List Point). All P (boundary piece)) pieces
nested P [] h = All-nil (λ (piece : List Point). All P (boundary piece))
nested P (piece ∷ pieces) h =
    All-cons (λ (p : List Point). All P (boundary p)) piece pieces
    (all_left P (boundary piece) (flat_map (λ (p : List Point). boundary p) pieces) h)
    (nested P pieces (all_right P (boundary piece) (flat_map (λ (p : List Point). boundary p) pieces) h))

-- where `c`, on the grid `g * m`, is the edge's point
pub freed : (b t m g : ℕ) (e : Edge) (q c : Point) (pieces : List (List Point)) (es : List Edge) → b + 2 < t → 0 < m → 0 < g →
    IsOn (refined_edge (g * m) e) c → 2 * length_sq (minus (refined g q) c) ≤ b * ((g * m) * (g * m)) →
    IsFreed t m e q pieces es
freed b t m g e q c pieces es room some fine on near =
    let whole : 1 * 1 ≤ g * m = mul-le-mul fine some in
    let positive : 0 < g * m = omega (arith, whole) in
    let free = generic (g * m) (refined g q) (flat_map (λ (piece : List Point). boundary piece) pieces ++ es) positive in
    let still = near_as_moved b t (g * m) (minus (refined g q) c) (free.v, pos 1) room positive near in
    from positive free.v (free.least + still.least) (let l : 2 ≤ free.least = free.some in omega (arith, l))
    (free.alike (free.least + still.least) (omega arith)) (still.near (free.least + still.least) (omega arith))
  where
    from : 0 < g * m → (v : ℤ) (k : ℕ) → 2 ≤ k →
        All (IsAlike (g * m) k v (refined g q)) (flat_map (λ (piece : List Point). boundary piece) pieces ++ es) →
        2 * length_sq (plus (refined k (minus (refined g q) c)) (v, pos 1)) + 2 * ((k * (g * m)) * (k * (g * m))) < t * ((k * (g * m)) * (k * (g * m))) →
        IsFreed t m e q pieces es
    from positive v k two alike short =
        let all_pieces : List Edge = flat_map (λ (piece : List Point). boundary piece) pieces in
        let least : 1 ≤ k = omega arith in
        let one : 1 * 1 ≤ k * (g * m) = mul-le-mul least positive in
        record {
          grid = k * (g * m);
          some = omega (arith, one);
          point = moved k v (refined g q);
          nearest = refined k c;
          held =
              All-weaker (λ (piece : List Point). All (IsAlike (g * m) k v (refined g q)) (boundary piece))
              (λ (piece : List Point). holds (k * (g * m)) (moved k v (refined g q)) piece ≡ holds m q piece)
              (λ (piece : List Point) (h : All (IsAlike (g * m) k v (refined g q)) (boundary piece)).
              held_as_moved (g * m) k v (refined g q) piece h ∙ held_finer g m q piece fine) pieces
              (nested (IsAlike (g * m) k v (refined g q)) pieces (all_left (IsAlike (g * m) k v (refined g q)) all_pieces es alike));
          turns =
              All-weaker (IsAlike (g * m) k v (refined g q))
              (λ (f : Edge). f.0 ≢ f.1 → turn (refined (k * (g * m)) f.0) (refined (k * (g * m)) f.1) (moved k v (refined g q)) ≢ pos 0)
              (λ (f : Edge) (h : IsAlike (g * m) k v (refined g q) f). h.turns) es
              (all_right (IsAlike (g * m) k v (refined g q)) all_pieces es alike);
          left =
              All-weaker (IsAlike (g * m) k v (refined g q))
              (λ (f : Edge). pos 0 <ℤ turn (refined m f.0) (refined m f.1) q → pos 0 <ℤ turn (refined (k * (g * m)) f.0) (refined (k * (g * m)) f.1) (moved k v (refined g q)))
              (λ (f : Edge) (h : IsAlike (g * m) k v (refined g q) f) (l : pos 0 <ℤ turn (refined m f.0) (refined m f.1) q).
              h.left (left_finer g m q f.0 f.1 fine l)) es
              (all_right (IsAlike (g * m) k v (refined g q)) all_pieces es alike);
          on_edge = on_finer k (g * m) e c on;
          near =
              subst (λ (u : Point). 2 * length_sq u + 2 * ((k * (g * m)) * (k * (g * m))) < t * ((k * (g * m)) * (k * (g * m))))
              (sym (moved_apart k v (refined g q) c)) short;
        }
