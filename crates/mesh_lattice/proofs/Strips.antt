-- Lemmas over whole numbers: three strips that meet have a common point.
use Rattle.std.proofs.Common.{◌≡◌, ℕ, ◌<◌, [], ◌∷◌, refl, arith}
use Rattle.std.specs.Prelude.{ℤ, pos, ◌+ℤ◌, ◌-ℤ◌, ◌*ℤ◌, ◌≤ℤ◌, ◌<ℤ◌, neg_ℤ}
use lib.IntN.{*ℤ_comm}
use Rattle.std.proofs.lemmas.Int.{ints, by_lt_z}
use Rattle.mesh_plane.proofs.Ring.{ring, var, ◌⊕◌, ◌⊖◌, ◌⊗◌}
use Rattle.mesh_plane.proofs.Whole.{linear, mul_le_mul_left, mul_nonneg, mul_nonneg_nonpos, pos_of_mul, one_mul, zero_mul, add_mul}

-- (x, y) lies in the rectangle from (0, 0) to (m a, m c) widened by `k` on each side, and as near to the diagonal
pub record IsInStrips (k m a c : ℕ) (x y : ℤ) : Type 0 where
  pub west : neg_ℤ (pos k) ≤ℤ x
  pub east : x ≤ℤ ((pos m *ℤ pos a) +ℤ pos k)
  pub south : neg_ℤ (pos k) ≤ℤ y
  pub north : y ≤ℤ ((pos m *ℤ pos c) +ℤ pos k)
  pub below : ((x *ℤ pos c) -ℤ (y *ℤ pos a)) ≤ℤ ((pos a +ℤ pos c) *ℤ pos k)
  pub above : ((y *ℤ pos a) -ℤ (x *ℤ pos c)) ≤ℤ ((pos a +ℤ pos c) *ℤ pos k)

-- `t / n` of the way (a, c), at most `m` of it, has both coordinates within `k` of (x, y)
pub record IsReached (k m a c : ℕ) (x y : ℤ) : Type 0 where
  pub grid : ℕ
  pub positive : 0 < grid
  pub part : ℤ
  pub least : pos 0 ≤ℤ part
  pub most : part ≤ℤ (pos grid *ℤ pos m)
  pub west : (pos grid *ℤ (x -ℤ pos k)) ≤ℤ (part *ℤ pos a)
  pub east : (part *ℤ pos a) ≤ℤ (pos grid *ℤ (x +ℤ pos k))
  pub south : (pos grid *ℤ (y -ℤ pos k)) ≤ℤ (part *ℤ pos c)
  pub north : (part *ℤ pos c) ≤ℤ (pos grid *ℤ (y +ℤ pos k))

-- the start is near
at_start : (k m a c : ℕ) (x y : ℤ) → IsInStrips k m a c x y → x ≤ℤ pos k → y ≤ℤ pos k → IsReached k m a c x y
at_start k m a c x y h low low_y = record {
  grid = 1;
  positive = omega arith;
  part = pos 0;
  least = omega (arith, ints);
  most = omega (arith, ints);
  west = omega (arith, linear, one_mul (x -ℤ pos k), zero_mul (pos a), low);
  east = omega (arith, linear, one_mul (x +ℤ pos k), zero_mul (pos a), h.west);
  south = omega (arith, linear, one_mul (y -ℤ pos k), zero_mul (pos c), low_y);
  north = omega (arith, linear, one_mul (y +ℤ pos k), zero_mul (pos c), h.south);
}

-- the first point of the way that is near by x is near by y
by_first : (k m a c : ℕ) (x y : ℤ) → IsInStrips k m a c x y → pos k <ℤ x → (pos a *ℤ (y -ℤ pos k)) ≤ℤ ((x -ℤ pos k) *ℤ pos c) → IsReached k m a c x y
by_first k m a c x y h far order = record {
  grid = a;
  positive = some;
  part = x -ℤ pos k;
  least = omega (arith, linear);
  most = omega (arith, linear, h.east, *ℤ_comm (pos a) (pos m));
  west = omega (arith, linear, *ℤ_comm (pos a) (x -ℤ pos k));
  east = omega (arith, linear, *ℤ_comm (pos a) (x -ℤ pos k), mul_le_mul_left (pos a) (x -ℤ pos k) (x +ℤ pos k) (omega (arith, ints)) (omega (arith, ints)));
  south = order;
  north = omega (arith, linear, h.below, parted);
}
  where
    some : 0 < a
    some =
        let east = h.east in
        let p : pos 0 <ℤ (pos m *ℤ pos a) = omega (arith, linear) in
        let q : pos 0 <ℤ pos a = pos_of_mul (pos m) (pos a) (omega (arith, ints)) p in
        omega (arith, ints)

    parted : ((pos a *ℤ (y +ℤ pos k)) -ℤ ((x -ℤ pos k) *ℤ pos c)) ≡ ((pos a +ℤ pos c) *ℤ pos k) -ℤ ((x *ℤ pos c) -ℤ (y *ℤ pos a))
    parted =
        ring (x ∷ y ∷ pos a ∷ pos c ∷ pos k ∷ [])
        ((var 2 ⊗ (var 1 ⊕ var 4)) ⊖ ((var 0 ⊖ var 4) ⊗ var 3))
        (((var 2 ⊕ var 3) ⊗ var 4) ⊖ ((var 0 ⊗ var 3) ⊖ (var 1 ⊗ var 2)))
        refl

swapped : (k m a c : ℕ) (x y : ℤ) → IsInStrips k m a c x y → IsInStrips k m c a y x
swapped k m a c x y h = record {
  west = h.south;
  east = h.north;
  south = h.west;
  north = h.east;
  below = omega (arith, linear, h.above, add_mul (pos a) (pos c) (pos k), add_mul (pos c) (pos a) (pos k));
  above = omega (arith, linear, h.below, add_mul (pos a) (pos c) (pos k), add_mul (pos c) (pos a) (pos k));
}

reached_swapped : (k m a c : ℕ) (x y : ℤ) → IsReached k m c a y x → IsReached k m a c x y
reached_swapped k m a c x y h = record {
  grid = h.grid;
  positive = h.positive;
  part = h.part;
  least = h.least;
  most = h.most;
  west = h.south;
  east = h.north;
  south = h.west;
  north = h.east;
}

by_second : (k m a c : ℕ) (x y : ℤ) → IsInStrips k m a c x y → pos k <ℤ y → (pos c *ℤ (x -ℤ pos k)) ≤ℤ ((y -ℤ pos k) *ℤ pos a) → IsReached k m a c x y
by_second k m a c x y h far order = reached_swapped k m a c x y (by_first k m c a y x (swapped k m a c x y h) far order)

-- what lies in all strips has a point of the way near
pub reached : (k m a c : ℕ) (x y : ℤ) → IsInStrips k m a c x y → IsReached k m a c x y
reached k m a c x y h =
    by_lt_z (pos k) x
    (λ (far : pos k <ℤ x).
    by_lt_z ((x -ℤ pos k) *ℤ pos c) (pos a *ℤ (y -ℤ pos k))
    (λ (order : ((x -ℤ pos k) *ℤ pos c) <ℤ (pos a *ℤ (y -ℤ pos k))).
    let least : pos 0 ≤ℤ ((x -ℤ pos k) *ℤ pos c) = mul_nonneg (x -ℤ pos k) (pos c) (omega (arith, linear)) (omega (arith, ints)) in
    let above : pos 0 <ℤ (y -ℤ pos k) = pos_of_mul (pos a) (y -ℤ pos k) (omega (arith, ints)) (omega (arith, linear)) in
    by_second k m a c x y h (omega (arith, linear)) (omega (arith, linear, *ℤ_comm (pos c) (x -ℤ pos k), *ℤ_comm (pos a) (y -ℤ pos k))))
    (λ (order : (pos a *ℤ (y -ℤ pos k)) ≤ℤ ((x -ℤ pos k) *ℤ pos c)). by_first k m a c x y h far order))
    (λ (low : x ≤ℤ pos k).
    by_lt_z (pos k) y
    (λ (far : pos k <ℤ y).
    let first : (pos c *ℤ (x -ℤ pos k)) ≤ℤ pos 0 = mul_nonneg_nonpos (pos c) (x -ℤ pos k) (omega (arith, ints)) (omega (arith, linear)) in
    let second : pos 0 ≤ℤ ((y -ℤ pos k) *ℤ pos a) = mul_nonneg (y -ℤ pos k) (pos a) (omega (arith, linear)) (omega (arith, ints)) in
    by_second k m a c x y h far (omega (arith, linear)))
    (λ (low_y : y ≤ℤ pos k). at_start k m a c x y h low low_y))
