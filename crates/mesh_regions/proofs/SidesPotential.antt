-- Lemmas over whole numbers and points: an edge that a line parts from the way between two points has crossings
-- at the two that differ by a number of its ends alone.
use Rattle.std.proofs.Common.{◌≡◌, [], ◌∷◌, cond, ◌&&◌, refl, arith}
use Rattle.std.specs.Prelude.{ℤ, pos, neg_ℤ, ◌+ℤ◌, ◌-ℤ◌, ◌*ℤ◌, ◌≤ℤ◌, ◌<ℤ◌, int_lt, int_le}
use Rattle.std.proofs.lemmas.Int.{ints, by_lt_z}
use Rattle.mesh_plane.specs.Plane.{Point, turn}
use Rattle.mesh_plane.specs.Winding.{crossing_of, crossing}
use Rattle.mesh_plane.proofs.Whole.{linear, mul_nonneg, mul_pos, mul_neg, neg_mul, neg_of_mul, pos_of_mul}
use Rattle.mesh_plane.proofs.Ring.{ring, var, ◌⊕◌, ◌⊖◌, ◌⊗◌, neg}
use Rattle.mesh_plane.proofs.Crossings.{turn_flip, crossing_odd}
use Rattle.mesh_plane.proofs.PointExprs.{point_var, coordinates, turned}

-- 1 where the height `v` lies above `h`
abbrev pub above : ℤ → ℤ → ℤ
above h v = cond (int_lt h v) (pos 1) (pos 0)

-- 1 where the height `v` lies above `h` and not above `k`, and the turn `s` is to the right
abbrev pub east_of : ℤ → ℤ → ℤ → ℤ → ℤ
east_of h k v s = cond (int_lt h v && (int_le v k && int_lt s (pos 0))) (pos 1) (pos 0)

-- 1 for the points that the ray to the east passes over on the way up from `q` to `u`
abbrev pub east : Point → Point → Point → ℤ
east q u v = east_of q.1 u.1 v.1 (turn q u v)

-- the way from `q` to `u` and the edge from `p` to `r` lie apart: one of them has a line with the other on one side,
-- or all four points are on a line
pub data Parted (q u p r : Point) : Type 0 where
  edge_left : pos 0 <ℤ turn q u p → pos 0 <ℤ turn q u r → Parted q u p r
  edge_right : turn q u p <ℤ pos 0 → turn q u r <ℤ pos 0 → Parted q u p r
  way_left : pos 0 <ℤ turn p r q → pos 0 <ℤ turn p r u → Parted q u p r
  way_right : turn p r q <ℤ pos 0 → turn p r u <ℤ pos 0 → Parted q u p r
  one_line : turn q u p ≡ pos 0 → turn q u r ≡ pos 0 → turn p r q ≡ pos 0 → turn p r u ≡ pos 0 → Parted q u p r

-- ---- signs from k x = -(d y + e z)
lever_down : (k x d y e z : ℤ) → k *ℤ x ≡ neg_ℤ ((d *ℤ y) +ℤ (e *ℤ z)) → pos 0 ≤ℤ k → pos 0 <ℤ d → pos 0 ≤ℤ e → pos 0 <ℤ y → pos 0 <ℤ z → x <ℤ pos 0
lever_down k x d y e z h hk hd he hy hz =
    neg_of_mul k x hk (omega (arith, linear, mul_pos d y hd hy, mul_nonneg e z he (omega (arith, linear))))

lever_up : (k x d y e z : ℤ) → k *ℤ x ≡ neg_ℤ ((d *ℤ y) +ℤ (e *ℤ z)) → pos 0 ≤ℤ k → pos 0 <ℤ d → pos 0 ≤ℤ e → y <ℤ pos 0 → z <ℤ pos 0 → pos 0 <ℤ x
lever_up k x d y e z h hk hd he hy hz =
    pos_of_mul k x hk
    (omega (
      arith,
      linear,
      mul_pos d (neg_ℤ y) hd (omega (arith, linear)),
      mul_neg d y,
      mul_nonneg e (neg_ℤ z) he (omega (arith, linear)),
      mul_neg e z,
    ))

-- both weights and their order turned
lever_turned : (k x d y e z : ℤ) → k *ℤ x ≡ neg_ℤ ((d *ℤ y) +ℤ (e *ℤ z)) → k *ℤ x ≡ neg_ℤ ((neg_ℤ e *ℤ neg_ℤ z) +ℤ (neg_ℤ d *ℤ neg_ℤ y))
lever_turned k x d y e z h =
    omega (arith, linear, neg_mul e (neg_ℤ z), mul_neg e z, neg_mul d (neg_ℤ y), mul_neg d y)

-- ---- the turns of the way's ends from the edge, as levers of the edge's ends from the way
pub lever_first : (q u p r : Point) →
    (u.1 -ℤ q.1) *ℤ turn p r q ≡ neg_ℤ (((r.1 -ℤ q.1) *ℤ turn q u p) +ℤ ((q.1 -ℤ p.1) *ℤ turn q u r))
lever_first q u p r =
    ring (coordinates (q ∷ u ∷ p ∷ r ∷ []) [])
    ((var 3 ⊖ var 1) ⊗ turned (point_var 2) (point_var 3) (point_var 0))
    (neg (((var 7 ⊖ var 1) ⊗ turned (point_var 0) (point_var 1) (point_var 2)) ⊕ ((var 1 ⊖ var 5) ⊗ turned (point_var 0) (point_var 1) (point_var 3))))
    refl

pub lever_second : (q u p r : Point) →
    (u.1 -ℤ q.1) *ℤ turn p r u ≡ neg_ℤ (((r.1 -ℤ u.1) *ℤ turn q u p) +ℤ ((u.1 -ℤ p.1) *ℤ turn q u r))
lever_second q u p r =
    ring (coordinates (q ∷ u ∷ p ∷ r ∷ []) [])
    ((var 3 ⊖ var 1) ⊗ turned (point_var 2) (point_var 3) (point_var 1))
    (neg (((var 7 ⊖ var 3) ⊗ turned (point_var 0) (point_var 1) (point_var 2)) ⊕ ((var 3 ⊖ var 5) ⊗ turned (point_var 0) (point_var 1) (point_var 3))))
    refl

-- ---- crossings over bare numbers: the heights of both ends and of the point, and the point's turn
pub crosses_west : (a b h t : ℤ) → (a ≤ℤ h → h <ℤ b → pos 0 <ℤ t) → (b ≤ℤ h → h <ℤ a → t <ℤ pos 0) →
    crossing_of a b h t ≡ above h b -ℤ above h a
crosses_west a b h t f g =
    by_lt_z h a
    (λ (ha : h <ℤ a). by_lt_z h b (λ (hb : h <ℤ b). grind (arith, ints)) (λ (hb : b ≤ℤ h). let s : t <ℤ pos 0 = g hb ha in grind (arith, ints)))
    (λ (ha : a ≤ℤ h). by_lt_z h b (λ (hb : h <ℤ b). let s : pos 0 <ℤ t = f ha hb in grind (arith, ints)) (λ (hb : b ≤ℤ h). grind (arith, ints)))

pub crosses_east : (a b h t : ℤ) → (a ≤ℤ h → h <ℤ b → t ≤ℤ pos 0) → (b ≤ℤ h → h <ℤ a → pos 0 ≤ℤ t) →
    crossing_of a b h t ≡ pos 0
crosses_east a b h t f g =
    by_lt_z h a
    (λ (ha : h <ℤ a). by_lt_z h b (λ (hb : h <ℤ b). grind (arith, ints)) (λ (hb : b ≤ℤ h). let s : pos 0 ≤ℤ t = g hb ha in grind (arith, ints)))
    (λ (ha : a ≤ℤ h). by_lt_z h b (λ (hb : h <ℤ b). let s : t ≤ℤ pos 0 = f ha hb in grind (arith, ints)) (λ (hb : b ≤ℤ h). grind (arith, ints)))

east_all : (h k v s : ℤ) → h ≤ℤ k → (h <ℤ v → v ≤ℤ k → s <ℤ pos 0) → east_of h k v s ≡ above h v -ℤ above k v
east_all h k v s low f =
    by_lt_z h v
    (λ (hv : h <ℤ v). by_lt_z k v (λ (kv : k <ℤ v). grind (arith, ints)) (λ (kv : v ≤ℤ k). let t : s <ℤ pos 0 = f hv kv in grind (arith, ints)))
    (λ (hv : v ≤ℤ h). grind (arith, ints))

east_none : (h k v s : ℤ) → (h <ℤ v → v ≤ℤ k → pos 0 ≤ℤ s) → east_of h k v s ≡ pos 0
east_none h k v s f =
    by_lt_z h v
    (λ (hv : h <ℤ v). by_lt_z k v (λ (kv : k <ℤ v). grind (arith, ints)) (λ (kv : v ≤ℤ k). let t : pos 0 ≤ℤ s = f hv kv in grind (arith, ints)))
    (λ (hv : v ≤ℤ h). grind (arith, ints))

-- ---- the five ways to lie apart
-- the crossing at either point of the way, where the edge lies on one side of the way's line
edge_left_at : (k x hp hr h c d : ℤ) → k *ℤ x ≡ neg_ℤ (((hr -ℤ h) *ℤ c) +ℤ ((h -ℤ hp) *ℤ d)) → pos 0 ≤ℤ k → pos 0 <ℤ c → pos 0 <ℤ d →
    crossing_of hp hr h x ≡ pos 0
edge_left_at k x hp hr h c d e hk hc hd =
    crosses_east hp hr h x
    (λ (low : hp ≤ℤ h) (high : h <ℤ hr).
    let s : x <ℤ pos 0 = lever_down k x (hr -ℤ h) c (h -ℤ hp) d e hk (omega (arith, linear)) (omega (arith, linear)) hc hd in
    omega (arith, linear))
    (λ (low : hr ≤ℤ h) (high : h <ℤ hp).
    let s : pos 0 <ℤ x =
    lever_up k x (neg_ℤ (h -ℤ hp)) (neg_ℤ d) (neg_ℤ (hr -ℤ h)) (neg_ℤ c) (lever_turned k x (hr -ℤ h) c (h -ℤ hp) d e) hk
    (omega (arith, linear)) (omega (arith, linear)) (omega (arith, linear)) (omega (arith, linear)) in
    omega (arith, linear))

edge_right_at : (k x hp hr h c d : ℤ) → k *ℤ x ≡ neg_ℤ (((hr -ℤ h) *ℤ c) +ℤ ((h -ℤ hp) *ℤ d)) → pos 0 ≤ℤ k → c <ℤ pos 0 → d <ℤ pos 0 →
    crossing_of hp hr h x ≡ above h hr -ℤ above h hp
edge_right_at k x hp hr h c d e hk hc hd =
    crosses_west hp hr h x
    (λ (low : hp ≤ℤ h) (high : h <ℤ hr).
    lever_up k x (hr -ℤ h) c (h -ℤ hp) d e hk (omega (arith, linear)) (omega (arith, linear)) hc hd)
    (λ (low : hr ≤ℤ h) (high : h <ℤ hp).
    lever_down k x (neg_ℤ (h -ℤ hp)) (neg_ℤ d) (neg_ℤ (hr -ℤ h)) (neg_ℤ c) (lever_turned k x (hr -ℤ h) c (h -ℤ hp) d e) hk
    (omega (arith, linear)) (omega (arith, linear)) (omega (arith, linear)) (omega (arith, linear)))

abbrev Potential : Point → Point → Point → Point → Type 0
Potential q u p r = crossing q p r -ℤ crossing u p r ≡ east q u r -ℤ east q u p

-- the way lies to the left of the edge
way_left_is : (q u p r : Point) → q.1 ≤ℤ u.1 → pos 0 <ℤ turn p r q → pos 0 <ℤ turn p r u → Potential q u p r
way_left_is q u p r up a b =
    by_lt_z p.1 r.1
    (λ (rise : p.1 <ℤ r.1).
    let at_q = crosses_west p.1 r.1 q.1 (turn p r q) (λ (x : p.1 ≤ℤ q.1) (y : q.1 <ℤ r.1). a) (λ (x : r.1 ≤ℤ q.1) (y : q.1 <ℤ p.1). absurd (omega (arith, linear))) in
    let at_u = crosses_west p.1 r.1 u.1 (turn p r u) (λ (x : p.1 ≤ℤ u.1) (y : u.1 <ℤ r.1). b) (λ (x : r.1 ≤ℤ u.1) (y : u.1 <ℤ p.1). absurd (omega (arith, linear))) in
    let at_p = east_all q.1 u.1 p.1 (turn q u p) up
    (λ (x : q.1 <ℤ p.1) (y : p.1 ≤ℤ u.1).
    lever_first_down (r.1 -ℤ p.1) (turn q u p) (u.1 -ℤ p.1) (turn p r q) (p.1 -ℤ q.1) (turn p r u) (lever_first p r q u) (omega (arith, linear)) (omega (arith, linear)) (omega (arith, linear)) a b) in
    let at_r = east_all q.1 u.1 r.1 (turn q u r) up
    (λ (x : q.1 <ℤ r.1) (y : r.1 ≤ℤ u.1).
    lever_first_down (r.1 -ℤ p.1) (turn q u r) (u.1 -ℤ r.1) (turn p r q) (r.1 -ℤ q.1) (turn p r u) (lever_second p r q u) (omega (arith, linear)) (omega (arith, linear)) (omega (arith, linear)) a b) in
    omega (arith, linear, at_q, at_u, at_p, at_r))
    (λ (fall : r.1 ≤ℤ p.1).
    let at_q = crosses_east p.1 r.1 q.1 (turn p r q) (λ (x : p.1 ≤ℤ q.1) (y : q.1 <ℤ r.1). absurd (omega (arith, linear))) (λ (x : r.1 ≤ℤ q.1) (y : q.1 <ℤ p.1). let s : pos 0 ≤ℤ turn p r q = omega (arith, linear) in s) in
    let at_u = crosses_east p.1 r.1 u.1 (turn p r u) (λ (x : p.1 ≤ℤ u.1) (y : u.1 <ℤ r.1). absurd (omega (arith, linear))) (λ (x : r.1 ≤ℤ u.1) (y : u.1 <ℤ p.1). let s : pos 0 ≤ℤ turn p r u = omega (arith, linear) in s) in
    let at_p = east_none q.1 u.1 p.1 (turn q u p)
    (λ (x : q.1 <ℤ p.1) (y : p.1 ≤ℤ u.1).
    lever_first_up (r.1 -ℤ p.1) (turn q u p) (u.1 -ℤ p.1) (turn p r q) (p.1 -ℤ q.1) (turn p r u) (lever_first p r q u) (omega (arith, linear)) (omega (arith, linear)) (omega (arith, linear)) a b) in
    let at_r = east_none q.1 u.1 r.1 (turn q u r)
    (λ (x : q.1 <ℤ r.1) (y : r.1 ≤ℤ u.1).
    lever_first_up (r.1 -ℤ p.1) (turn q u r) (u.1 -ℤ r.1) (turn p r q) (r.1 -ℤ q.1) (turn p r u) (lever_second p r q u) (omega (arith, linear)) (omega (arith, linear)) (omega (arith, linear)) a b) in
    omega (arith, linear, at_q, at_u, at_p, at_r))
  where
    -- a first weight that may be 0, and a second above 0
    lever_first_down : (k x d y e z : ℤ) → k *ℤ x ≡ neg_ℤ ((d *ℤ y) +ℤ (e *ℤ z)) → pos 0 ≤ℤ k → pos 0 ≤ℤ d → pos 0 <ℤ e → pos 0 <ℤ y → pos 0 <ℤ z → x <ℤ pos 0
    lever_first_down k x d y e z h hk hd he hy hz =
        neg_of_mul k x hk (omega (arith, linear, mul_nonneg d y hd (omega (arith, linear)), mul_pos e z he hz))

    lever_first_up : (k x d y e z : ℤ) → k *ℤ x ≡ neg_ℤ ((d *ℤ y) +ℤ (e *ℤ z)) → k ≤ℤ pos 0 → pos 0 ≤ℤ d → pos 0 <ℤ e → pos 0 <ℤ y → pos 0 <ℤ z → pos 0 ≤ℤ x
    lever_first_up k x d y e z h hk hd he hy hz =
        let s : pos 0 <ℤ x =
        pos_of_mul (neg_ℤ k) x (omega (arith, linear))
        (omega (arith, linear, neg_mul k x, mul_nonneg d y hd (omega (arith, linear)), mul_pos e z he hz)) in
        omega (arith, linear)

-- the crossings at the two ends of a way upwards differ by a number of the edge's ends alone
pub potential : (q u p r : Point) → q.1 ≤ℤ u.1 → Parted q u p r → crossing q p r -ℤ crossing u p r ≡ east q u r -ℤ east q u p
potential q u p r up (edge_left c d) =
    let k : pos 0 ≤ℤ (u.1 -ℤ q.1) = omega (arith, linear) in
    omega (
      arith,
      linear,
      edge_left_at (u.1 -ℤ q.1) (turn p r q) p.1 r.1 q.1 (turn q u p) (turn q u r) (lever_first q u p r) k c d,
      edge_left_at (u.1 -ℤ q.1) (turn p r u) p.1 r.1 u.1 (turn q u p) (turn q u r) (lever_second q u p r) k c d,
      east_none q.1 u.1 p.1 (turn q u p) (λ (x : q.1 <ℤ p.1) (y : p.1 ≤ℤ u.1). let s : pos 0 ≤ℤ turn q u p = omega (arith, linear) in s),
      east_none q.1 u.1 r.1 (turn q u r) (λ (x : q.1 <ℤ r.1) (y : r.1 ≤ℤ u.1). let s : pos 0 ≤ℤ turn q u r = omega (arith, linear) in s),
    )
potential q u p r up (edge_right c d) =
    let k : pos 0 ≤ℤ (u.1 -ℤ q.1) = omega (arith, linear) in
    omega (
      arith,
      linear,
      edge_right_at (u.1 -ℤ q.1) (turn p r q) p.1 r.1 q.1 (turn q u p) (turn q u r) (lever_first q u p r) k c d,
      edge_right_at (u.1 -ℤ q.1) (turn p r u) p.1 r.1 u.1 (turn q u p) (turn q u r) (lever_second q u p r) k c d,
      east_all q.1 u.1 p.1 (turn q u p) up (λ (x : q.1 <ℤ p.1) (y : p.1 ≤ℤ u.1). c),
      east_all q.1 u.1 r.1 (turn q u r) up (λ (x : q.1 <ℤ r.1) (y : r.1 ≤ℤ u.1). d),
    )
potential q u p r up (way_left a b) = way_left_is q u p r up a b
potential q u p r up (way_right a b) =
    omega (
      arith,
      linear,
      way_left_is q u r p up (omega (arith, linear, turn_flip p r q)) (omega (arith, linear, turn_flip p r u)),
      crossing_odd q p r,
      crossing_odd u p r,
    )
potential q u p r up (one_line c d a b) =
    omega (
      arith,
      linear,
      crosses_east p.1 r.1 q.1 (turn p r q) (λ (x : p.1 ≤ℤ q.1) (y : q.1 <ℤ r.1). let s : turn p r q ≤ℤ pos 0 = omega (arith, linear) in s) (λ (x : r.1 ≤ℤ q.1) (y : q.1 <ℤ p.1). let s : pos 0 ≤ℤ turn p r q = omega (arith, linear) in s),
      crosses_east p.1 r.1 u.1 (turn p r u) (λ (x : p.1 ≤ℤ u.1) (y : u.1 <ℤ r.1). let s : turn p r u ≤ℤ pos 0 = omega (arith, linear) in s) (λ (x : r.1 ≤ℤ u.1) (y : u.1 <ℤ p.1). let s : pos 0 ≤ℤ turn p r u = omega (arith, linear) in s),
      east_none q.1 u.1 p.1 (turn q u p) (λ (x : q.1 <ℤ p.1) (y : p.1 ≤ℤ u.1). let s : pos 0 ≤ℤ turn q u p = omega (arith, linear) in s),
      east_none q.1 u.1 r.1 (turn q u r) (λ (x : q.1 <ℤ r.1) (y : r.1 ≤ℤ u.1). let s : pos 0 ≤ℤ turn q u r = omega (arith, linear) in s),
    )
