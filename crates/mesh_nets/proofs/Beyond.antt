-- Lemmas over boxes: all points of a net lie in the box round its edges, so nets are as far apart as their boxes.
use Rattle.std.proofs.Common.{◌≡◌, ℕ, ◌+◌, ◌*◌, ◌≤◌, inl, inr, ⊎_elim, refl, ◌∙◌, arith, List, [], ◌∷◌}
use Rattle.std.specs.Prelude.{ℤ, pos, neg_ℤ, ◌+ℤ◌, ◌-ℤ◌, ◌*ℤ◌, ◌≤ℤ◌, ◌<ℤ◌, unsigned_abs}
use Rattle.std.specs.List.{All}
use Rattle.std.proofs.Math.Nat.{mul-le-mul}
use Rattle.std.proofs.lemmas.Int.{ints, by_lt_z}
use Rattle.mesh_plane.specs.Plane.{Point, Edge, minus, length_sq, turn}
use Rattle.mesh_plane.specs.Winding.{refined, winding, crossing_on, IsBalanced}
use Rattle.mesh_plane.proofs.Crossings.{crossing_low, crossing_high}
use Rattle.mesh_plane.proofs.PointExprs.{point_var, coordinates, turned}
use Rattle.mesh_plane.proofs.Ring.{ring, var, neg, ◌⊖◌, ◌⊗◌}
use Rattle.mesh_plane.proofs.Whole.{linear, mul_add, mul_le_mul_left, mul_pos}
use Rattle.mesh_lattice.specs.Split.{IsBetween}
use Rattle.mesh_lattice.proofs.Each.{Each, each_more}
use Rattle.mesh_regions.proofs.SidesConstant.{way_same}
use Rattle.mesh_regions.proofs.SidesPotential.{Parted, edge_left, edge_right}
use Rattle.mesh_clearance.specs.Boxes.{Box, IsBoxed, IsIn}
use Rattle.mesh_nets.specs.Nets.{AreNetsApart, IsPointOf}
use Rattle.mesh_nets.specs.Private.Outlines.{AreBoxesFar}
use Rattle.mesh_nets.proofs.Among.{Among, all_among, among_listed, each_among}
use Rattle.mesh_nets.proofs.Descent.{IsClearAbove, clear_above}

-- ---- nothing winds round a point beside all edges

-- the turn of a point from a way upwards
turn_upwards : (p r : Point) (y : ℤ) → turn p (p.0, y) r ≡ neg_ℤ ((y -ℤ p.1) *ℤ (r.0 -ℤ p.0))
turn_upwards p r y =
    ring (coordinates (p ∷ r ∷ []) (y ∷ [])) (turned (point_var 0) (var 0, var 4) (point_var 1)) (neg ((var 4 ⊖ var 1) ⊗ (var 2 ⊖ var 0))) refl

to_the_right : (p r : Point) (y : ℤ) → p.1 <ℤ y → p.0 <ℤ r.0 → turn p (p.0, y) r <ℤ pos 0
to_the_right p r y up east = let k = mul_pos (y -ℤ p.1) (r.0 -ℤ p.0) (omega (arith, linear)) (omega (arith, linear)) in omega (arith, linear, k, turn_upwards p r y)

to_the_left : (p r : Point) (y : ℤ) → p.1 <ℤ y → r.0 <ℤ p.0 → pos 0 <ℤ turn p (p.0, y) r
to_the_left p r y up west =
    let k = mul_pos (y -ℤ p.1) (p.0 -ℤ r.0) (omega (arith, linear)) (omega (arith, linear)) in
    let back : (y -ℤ p.1) *ℤ (p.0 -ℤ r.0) ≡ neg_ℤ ((y -ℤ p.1) *ℤ (r.0 -ℤ p.0)) =
    ring (p.0 ∷ p.1 ∷ r.0 ∷ y ∷ []) ((var 3 ⊖ var 1) ⊗ (var 0 ⊖ var 2)) (neg ((var 3 ⊖ var 1) ⊗ (var 2 ⊖ var 0))) refl in
    omega (arith, linear, k, back, turn_upwards p r y)

-- a way upwards from the point, past which no edge lies
parted_upwards : (m : ℕ) (es : List Edge) (p : Point) → IsBalanced es →
    ((y : ℤ) → p.1 <ℤ y → Each (λ (e : Edge). Parted p (p.0, y) (refined m e.0) (refined m e.1)) es) → winding m p es ≡ pos 0
parted_upwards m es p balanced parted =
    way_same (pos m) p (p.0, y) es balanced (parted y (omega (arith, ints)))
    ∙ above.none y (omega (arith, ints))
  where
    above : IsClearAbove m p.0 es
    above = clear_above m p.0 es

    y : ℤ
    y = pos (unsigned_abs above.height + (unsigned_abs p.1 + 1))

level_none : (m : ℕ) (es : List Edge) (p : Point) → Each (λ (e : Edge). crossing_on m p e.0 e.1 ≡ pos 0) es → winding m p es ≡ pos 0
level_none m [] p h = refl
level_none m (e ∷ es) p h = omega (arith, linear, h.0, level_none m es p h.1)

-- ---- the box of a net

-- the box on the finer grid
abbrev pub refined_box : ℕ → Box → Box
refined_box m b = (refined m b.0, refined m b.1)

in_finer : (m : ℕ) (b : Box) (p : Point) → IsIn b p → IsIn (refined_box m b) (refined m p)
in_finer m b p h = record {
  west = mul_le_mul_left (pos m) b.0.0 p.0 (omega (arith, ints)) h.west;
  east = mul_le_mul_left (pos m) p.0 b.1.0 (omega (arith, ints)) h.east;
  south = mul_le_mul_left (pos m) b.0.1 p.1 (omega (arith, ints)) h.south;
  north = mul_le_mul_left (pos m) p.1 b.1.1 (omega (arith, ints)) h.north;
}

boxed_finer : (m : ℕ) (b : Box) (e : Edge) → IsBoxed b e → IsBoxed (refined_box m b) (refined m e.0, refined m e.1)
boxed_finer m b e h = record { start = in_finer m b e.0 h.start; end = in_finer m b e.1 h.end }

module _ (m : ℕ) (b : Box) (es : List Edge) (p : Point) (balanced : IsBalanced es) (boxed : Each (λ (e : Edge). IsBoxed (refined_box m b) (refined m e.0, refined m e.1)) es) where
  pub none_west : p.0 <ℤ (refined m b.0).0 → winding m p es ≡ pos 0
  none_west h =
      parted_upwards m es p balanced
      (λ y up.
      each_more (λ (e : Edge). IsBoxed (refined_box m b) (refined m e.0, refined m e.1)) (λ (e : Edge). Parted p (p.0, y) (refined m e.0) (refined m e.1))
      (λ (e : Edge) (k : IsBoxed (refined_box m b) (refined m e.0, refined m e.1)).
      let first = k.start.west in
      let second = k.end.west in
      edge_right (to_the_right p (refined m e.0) y up (omega (arith, linear, h, first))) (to_the_right p (refined m e.1) y up (omega (arith, linear, h, second)))) es boxed)

  pub none_east : (refined m b.1).0 <ℤ p.0 → winding m p es ≡ pos 0
  none_east h =
      parted_upwards m es p balanced
      (λ y up.
      each_more (λ (e : Edge). IsBoxed (refined_box m b) (refined m e.0, refined m e.1)) (λ (e : Edge). Parted p (p.0, y) (refined m e.0) (refined m e.1))
      (λ (e : Edge) (k : IsBoxed (refined_box m b) (refined m e.0, refined m e.1)).
      let first = k.start.east in
      let second = k.end.east in
      edge_left (to_the_left p (refined m e.0) y up (omega (arith, linear, h, first))) (to_the_left p (refined m e.1) y up (omega (arith, linear, h, second)))) es boxed)

  pub none_south : p.1 <ℤ (refined m b.0).1 → winding m p es ≡ pos 0
  none_south h =
      level_none m es p
      (each_more (λ (e : Edge). IsBoxed (refined_box m b) (refined m e.0, refined m e.1)) (λ (e : Edge). crossing_on m p e.0 e.1 ≡ pos 0)
      (λ (e : Edge) (k : IsBoxed (refined_box m b) (refined m e.0, refined m e.1)).
      let first = k.start.south in
      let second = k.end.south in
      crossing_high (refined m e.0).1 (refined m e.1).1 p.1 (turn (refined m e.0) (refined m e.1) p) (omega (arith, linear, h, first)) (omega (arith, linear, h, second))) es boxed)

  pub none_north : (refined m b.1).1 <ℤ p.1 → winding m p es ≡ pos 0
  none_north h =
      level_none m es p
      (each_more (λ (e : Edge). IsBoxed (refined_box m b) (refined m e.0, refined m e.1)) (λ (e : Edge). crossing_on m p e.0 e.1 ≡ pos 0)
      (λ (e : Edge) (k : IsBoxed (refined_box m b) (refined m e.0, refined m e.1)).
      let first = k.start.north in
      let second = k.end.north in
      crossing_low (refined m e.0).1 (refined m e.1).1 p.1 (turn (refined m e.0) (refined m e.1) p) (omega (arith, linear, h, first)) (omega (arith, linear, h, second))) es boxed)

  pub inside_box : (winding m p es ≡ pos 0 → ⊥) → IsIn (refined_box m b) p
  inside_box some = record {
    west = by_lt_z p.0 (refined m b.0).0 (λ (h : p.0 <ℤ (refined m b.0).0). absurd (some (none_west h))) (λ (h : (refined m b.0).0 ≤ℤ p.0). h);
    east = by_lt_z (refined m b.1).0 p.0 (λ (h : (refined m b.1).0 <ℤ p.0). absurd (some (none_east h))) (λ (h : p.0 ≤ℤ (refined m b.1).0). h);
    south = by_lt_z p.1 (refined m b.0).1 (λ (h : p.1 <ℤ (refined m b.0).1). absurd (some (none_south h))) (λ (h : (refined m b.0).1 ≤ℤ p.1). h);
    north = by_lt_z (refined m b.1).1 p.1 (λ (h : (refined m b.1).1 <ℤ p.1). absurd (some (none_north h))) (λ (h : p.1 ≤ℤ (refined m b.1).1). h);
  }

between_least : (a z b l : ℤ) → IsBetween a z b → l ≤ℤ a → l ≤ℤ b → l ≤ℤ z
between_least a z b l h first second =
    by_lt_z a b (λ (k : a <ℤ b). let w = h.up (omega (arith, linear)) in omega (arith, linear, w.0, first))
    (λ (k : b ≤ℤ a). let w = h.down k in omega (arith, linear, w.0, second))

between_most : (a z b l : ℤ) → IsBetween a z b → a ≤ℤ l → b ≤ℤ l → z ≤ℤ l
between_most a z b l h first second =
    by_lt_z a b (λ (k : a <ℤ b). let w = h.up (omega (arith, linear)) in omega (arith, linear, w.1, second))
    (λ (k : b ≤ℤ a). let w = h.down k in omega (arith, linear, w.1, first))

pub point_in_box : (m : ℕ) (b : Box) (es : List Edge) (p : Point) → IsBalanced es → All (IsBoxed b) es → IsPointOf m es p → IsIn (refined_box m b) p
point_in_box m b es p balanced boxed (inl h) =
    let e = h.edge in
    let k = boxed_finer m b e (all_among (IsBoxed b) es boxed e (among_listed es e h.listed)) in
    let x = h.on.in_box.by_x in
    let y = h.on.in_box.by_y in record {
      west = between_least (refined m e.0).0 p.0 (refined m e.1).0 (refined m b.0).0 x k.start.west k.end.west;
      east = between_most (refined m e.0).0 p.0 (refined m e.1).0 (refined m b.1).0 x k.start.east k.end.east;
      south = between_least (refined m e.0).1 p.1 (refined m e.1).1 (refined m b.0).1 y k.start.south k.end.south;
      north = between_most (refined m e.0).1 p.1 (refined m e.1).1 (refined m b.1).1 y k.start.north k.end.north;
    }
point_in_box m b es p balanced boxed (inr h) =
    inside_box m b es p balanced
    (each_among (λ (e : Edge). IsBoxed (refined_box m b) (refined m e.0, refined m e.1)) es
    (λ (e : Edge) (k : Among e es). boxed_finer m b e (all_among (IsBoxed b) es boxed e k))) h

-- ---- boxes that are far from each other

-- two numbers that two others part are as far apart
parted_numbers : (d m : ℕ) (a b x y : ℤ) → (a +ℤ pos d) ≤ℤ b → x ≤ℤ (pos m *ℤ a) → (pos m *ℤ b) ≤ℤ y → m * d ≤ unsigned_abs (x -ℤ y)
parted_numbers d m a b x y apart low high =
    let l = mul_le_mul_left (pos m) (a +ℤ pos d) b (omega (arith, ints)) apart in
    let parts : pos m *ℤ (a +ℤ pos d) ≡ (pos m *ℤ a) +ℤ pos (m * d) = mul_add (pos m) a (pos d) in
    omega (arith, ints, l, parts, low, high)

far_squares : (d m x y : ℕ) → m * d ≤ x → (d * d) * (m * m) ≤ x * x + y
far_squares d m x y h =
    let l = mul-le-mul h h in
    let same : (d * d) * (m * m) ≡ (m * d) * (m * d) = omega arith in
    omega (arith, l, same)

swapped : (x y : ℤ) → unsigned_abs (x -ℤ y) ≡ unsigned_abs (y -ℤ x)
swapped x y = omega (arith, ints)

pub far_boxes : (d : ℕ) (b c : Box) (es fs : List Edge) → IsBalanced es → IsBalanced fs → All (IsBoxed b) es → All (IsBoxed c) fs → AreBoxesFar d b c →
    AreNetsApart (d * d) es fs
far_boxes d b c es fs first_balanced second_balanced first_boxed second_boxed far m p q first second =
    ⊎_elim (λ h. ⊎_elim east west h) (λ h. ⊎_elim north south h) far
  where
    x : IsIn (refined_box m b) p
    x = point_in_box m b es p first_balanced first_boxed first

    y : IsIn (refined_box m c) q
    y = point_in_box m c fs q second_balanced second_boxed second

    east : (b.1.0 +ℤ pos d) ≤ℤ c.0.0 → (d * d) * (m * m) ≤ length_sq (minus p q)
    east h = far_squares d m (unsigned_abs (p.0 -ℤ q.0)) (unsigned_abs (p.1 -ℤ q.1) * unsigned_abs (p.1 -ℤ q.1)) (parted_numbers d m b.1.0 c.0.0 p.0 q.0 h x.east y.west)

    west : (c.1.0 +ℤ pos d) ≤ℤ b.0.0 → (d * d) * (m * m) ≤ length_sq (minus p q)
    west h =
        let l = parted_numbers d m c.1.0 b.0.0 q.0 p.0 h y.east x.west in
        far_squares d m (unsigned_abs (p.0 -ℤ q.0)) (unsigned_abs (p.1 -ℤ q.1) * unsigned_abs (p.1 -ℤ q.1)) (omega (arith, l, swapped p.0 q.0))

    north : (b.1.1 +ℤ pos d) ≤ℤ c.0.1 → (d * d) * (m * m) ≤ length_sq (minus p q)
    north h =
        let l = far_squares d m (unsigned_abs (p.1 -ℤ q.1)) (unsigned_abs (p.0 -ℤ q.0) * unsigned_abs (p.0 -ℤ q.0)) (parted_numbers d m b.1.1 c.0.1 p.1 q.1 h x.north y.south) in
        omega (arith, l)

    south : (c.1.1 +ℤ pos d) ≤ℤ b.0.1 → (d * d) * (m * m) ≤ length_sq (minus p q)
    south h =
        let n = parted_numbers d m c.1.1 b.0.1 q.1 p.1 h y.north x.south in
        let l = far_squares d m (unsigned_abs (p.1 -ℤ q.1)) (unsigned_abs (p.0 -ℤ q.0) * unsigned_abs (p.0 -ℤ q.0)) (omega (arith, n, swapped p.1 q.1)) in
        omega (arith, l)
