-- Lemmas over points: what lies in a box, on finer grids too, and what lies past one.
use Rattle.std.proofs.Common.{ℕ, ◌<◌, inl, inr, arith}
use Rattle.std.specs.Prelude.{ℤ, pos, ◌+ℤ◌, ◌*ℤ◌, ◌≤ℤ◌, ◌<ℤ◌, neg_ℤ}
use Rattle.std.proofs.lemmas.Int.{ints, by_lt_z}
use Rattle.mesh_plane.specs.Plane.{Point, Edge}
use Rattle.mesh_plane.specs.Winding.{refined}
use Rattle.mesh_plane.proofs.HalfPlanes.{along_by}
use Rattle.mesh_plane.proofs.Whole.{linear, mul_le_mul_left, mul_lt_mul_left, one_mul, zero_mul, neg_mul}
use Rattle.mesh_lattice.specs.Clean.{refined_edge}
use Rattle.mesh_lattice.specs.Split.{IsBetween, IsInBox}
use Rattle.mesh_lattice.specs.Boundary.{middle}
use Rattle.mesh_apart.specs.Apart.{Box, finer_box, IsWithin, AreBoxesApart, LiesInBox}

-- ---- in a box

between_within : (a z b low high : ℤ) → low ≤ℤ a → a ≤ℤ high → low ≤ℤ b → b ≤ℤ high → IsBetween a z b → (low ≤ℤ z) × (z ≤ℤ high)
between_within a z b low high la ah lb bh h =
    by_lt_z b a
    (λ (o : b <ℤ a). let r = h.down (omega (arith, ints, o)) in (omega (arith, ints, r.0), omega (arith, ints, r.1)))
    (λ (o : a ≤ℤ b). let r = h.up o in (omega (arith, ints, r.0), omega (arith, ints, r.1)))

pub within_between : (b : Box) (e : Edge) (c : Point) → LiesInBox b e → IsInBox e c → IsWithin b c
within_between b e c h box =
    let x = between_within e.0.0 c.0 e.1.0 b.west b.east h.0.by_west h.0.by_east h.1.by_west h.1.by_east box.by_x in
    let y = between_within e.0.1 c.1 e.1.1 b.south b.north h.0.by_south h.0.by_north h.1.by_south h.1.by_north box.by_y in
    record { by_west = x.0; by_east = x.1; by_south = y.0; by_north = y.1 }

pub not_both : (b c : Box) (z : Point) → AreBoxesApart b c → IsWithin b z → IsWithin c z → ⊥
not_both b c z (inl (inl h)) k l = omega (arith, ints, k.by_east, l.by_west)
not_both b c z (inl (inr h)) k l = omega (arith, ints, k.by_west, l.by_east)
not_both b c z (inr (inl h)) k l = omega (arith, ints, k.by_north, l.by_south)
not_both b c z (inr (inr h)) k l = omega (arith, ints, k.by_south, l.by_north)

-- ---- on a finer grid

pub within_refined : (m : ℕ) (b : Box) (p : Point) → IsWithin b p → IsWithin (finer_box m b) (refined m p)
within_refined m b p h =
    let some : pos 0 ≤ℤ pos m = omega (arith, ints) in
    record {
      by_west = mul_le_mul_left (pos m) b.west p.0 some h.by_west;
      by_east = mul_le_mul_left (pos m) p.0 b.east some h.by_east;
      by_south = mul_le_mul_left (pos m) b.south p.1 some h.by_south;
      by_north = mul_le_mul_left (pos m) p.1 b.north some h.by_north;
    }

pub lies_refined : (m : ℕ) (b : Box) (e : Edge) → LiesInBox b e → LiesInBox (finer_box m b) (refined_edge m e)
lies_refined m b e h = (within_refined m b e.0 h.0, within_refined m b e.1 h.1)

pub apart_refined : (m : ℕ) → 0 < m → (b c : Box) → AreBoxesApart b c → AreBoxesApart (finer_box m b) (finer_box m c)
apart_refined m some b c h = by h
  where
    more : pos 0 <ℤ pos m
    more = omega (arith, ints)

    by : AreBoxesApart b c → AreBoxesApart (finer_box m b) (finer_box m c)
    by (inl (inl h)) = inl (inl (mul_lt_mul_left (pos m) b.east c.west more h))
    by (inl (inr h)) = inl (inr (mul_lt_mul_left (pos m) c.east b.west more h))
    by (inr (inl h)) = inr (inl (mul_lt_mul_left (pos m) b.north c.south more h))
    by (inr (inr h)) = inr (inr (mul_lt_mul_left (pos m) c.north b.south more h))

twice_low : (w a b : ℤ) → w ≤ℤ a → w ≤ℤ b → (pos 2 *ℤ w) ≤ℤ (a +ℤ b)
twice_low w a b h k = omega (arith, ints, h, k)

twice_high : (w a b : ℤ) → a ≤ℤ w → b ≤ℤ w → (a +ℤ b) ≤ℤ (pos 2 *ℤ w)
twice_high w a b h k = omega (arith, ints, h, k)

pub middle_within : (b : Box) (e : Edge) → LiesInBox b e → IsWithin (finer_box 2 b) (middle e)
middle_within b e h = record {
  by_west = twice_low b.west e.0.0 e.1.0 h.0.by_west h.1.by_west;
  by_east = twice_high b.east e.0.0 e.1.0 h.0.by_east h.1.by_east;
  by_south = twice_low b.south e.0.1 e.1.1 h.0.by_south h.1.by_south;
  by_north = twice_high b.north e.0.1 e.1.1 h.0.by_north h.1.by_north;
}

-- ---- past a box

-- by some linear measure the point lies beyond all of the box
pub record IsPast (b : Box) (z : Point) : Type 0 where
  pub u : ℤ
  pub v : ℤ
  pub past : (x : Point) → IsWithin b x → along_by u v x <ℤ along_by u v z

past_east : (b : Box) (z : Point) → b.east <ℤ z.0 → IsPast b z
past_east b z h = record {
  u = pos 1;
  v = pos 0;
  past = λ (x : Point) (w : IsWithin b x).
      let e = w.by_east in
      omega (arith, linear, h, e, one_mul x.0, zero_mul x.1, one_mul z.0, zero_mul z.1);
}

past_west : (b : Box) (z : Point) → z.0 <ℤ b.west → IsPast b z
past_west b z h = record {
  u = neg_ℤ (pos 1);
  v = pos 0;
  past = λ (x : Point) (w : IsWithin b x).
      let e = w.by_west in
      omega (arith, linear, h, e, neg_mul (pos 1) x.0, one_mul x.0, zero_mul x.1, neg_mul (pos 1) z.0, one_mul z.0, zero_mul z.1);
}

past_north : (b : Box) (z : Point) → b.north <ℤ z.1 → IsPast b z
past_north b z h = record {
  u = pos 0;
  v = pos 1;
  past = λ (x : Point) (w : IsWithin b x).
      let e = w.by_north in
      omega (arith, linear, h, e, one_mul x.1, zero_mul x.0, one_mul z.1, zero_mul z.0);
}

past_south : (b : Box) (z : Point) → z.1 <ℤ b.south → IsPast b z
past_south b z h = record {
  u = pos 0;
  v = neg_ℤ (pos 1);
  past = λ (x : Point) (w : IsWithin b x).
      let e = w.by_south in
      omega (arith, linear, h, e, neg_mul (pos 1) x.1, one_mul x.1, zero_mul x.0, neg_mul (pos 1) z.1, one_mul z.1, zero_mul z.0);
}

-- what lies in a box lies past each box apart from it
pub past_apart : (b c : Box) (z : Point) → AreBoxesApart b c → IsWithin b z → IsPast c z
past_apart b c z (inl (inl h)) w = past_west c z (let e = w.by_east in omega (arith, linear, e, h))
past_apart b c z (inl (inr h)) w = past_east c z (let e = w.by_west in omega (arith, linear, e, h))
past_apart b c z (inr (inl h)) w = past_south c z (let e = w.by_north in omega (arith, linear, e, h))
past_apart b c z (inr (inr h)) w = past_north c z (let e = w.by_south in omega (arith, linear, e, h))
