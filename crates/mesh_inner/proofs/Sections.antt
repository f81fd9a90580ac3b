-- Lemmas over points and lists: what lies near to a section, between its ends, is held by its piece; the rest is near to an end.
use Rattle.std.proofs.Common.{ℕ, ◌+◌, ◌*◌, ◌<◌, ◌≤◌, ◌⊎◌, inl, inr, ⊎_elim, List, [], ◌∷◌, arith, refl, sym, ◌≡◌, ◌∙◌, ap, subst}
use Rattle.std.specs.Prelude.{◌≢◌, ℤ, pos, negsuc, neg_ℤ, ◌+ℤ◌, ◌-ℤ◌, ◌*ℤ◌, ◌≤ℤ◌, ◌<ℤ◌, unsigned_abs}
use Rattle.std.proofs.lemmas.Bool.{cases_lt}
use Rattle.std.proofs.lemmas.Int.{ints, by_lt_z}
use Rattle.mesh_plane.specs.Plane.{Point, plus, minus, opposite, cross, dot, turn, length_sq, right_quarter}
use Rattle.mesh_plane.specs.Winding.{refined, winding, boundary}
use Rattle.mesh_plane.proofs.Identities.{cross_self, cross_opposites, dot_opposite}
use Rattle.mesh_plane.proofs.PointExprs.{point_var, coordinates, apart, crossed, scaled_point_expr}
use Rattle.mesh_plane.proofs.Ring.{ring, var, lit, neg, dot_of}
use Rattle.mesh_plane.proofs.Sizes.{dot_self, length_opposite}
use Rattle.mesh_plane.proofs.Whole.{linear, mul_sub, mul_nonneg, mul_nonpos, mul_le_mul_left, times_zero, square_nonneg, square_zero}
use Rattle.mesh_lattice.specs.Clean.{IsOn, refined_edge}
use Rattle.mesh_lattice.specs.Split.{IsBetween}
use Rattle.mesh_lattice.proofs.Boxes.{on_back}
use Rattle.mesh_inner.specs.Room.{IsWideEnough}
use Rattle.mesh_inner.proofs.Inside.{section_holds, before_sides, aside_from}
use Rattle.mesh_inner.proofs.Beside.{nearer, by_end}

-- ---- what is said

-- both sides of a section along `v`, which `s` moves to, are far enough from it, and `s` leans little
pub record IsWide (t : ℕ) (s v : Point) : Type 0 where
  pub wide : IsWideEnough t s v
  pub ahead : pos 0 <ℤ dot s v
  pub lean : unsigned_abs (cross s v) * unsigned_abs (cross s v) ≤ length_sq v
  pub half : 2 * unsigned_abs (cross s v) ≤ length_sq v

-- the point `q` of the grid `m` is nearer to the point `p` than the root of `t / 2`
abbrev pub IsNearPoint : ℕ → ℕ → Point → Point → Type 0
IsNearPoint t m q p = 2 * length_sq (minus q (refined m p)) < t * (m * m)

-- the piece of a section from `a` to `b`: from the one side, which `s` turned to the right moves to, to the other
abbrev pub section_piece' : Point → Point → Point → List Point
section_piece' a b s =
    plus a (right_quarter s) ∷ plus b (right_quarter s) ∷ minus b (right_quarter s) ∷ minus a (right_quarter s) ∷ []

-- that piece winds round the point once
abbrev pub HoldsSection : ℕ → Point → Point → Point → Point → Type 0
HoldsSection m q a b s = winding m q (boundary (section_piece' a b s)) ≡ pos 1

-- ---- the same section, from its end to its start

dot_opposites : (s v : Point) → dot (opposite s) (opposite v) ≡ dot s v
dot_opposites s v =
    ring (coordinates (s ∷ v ∷ []) []) (dot_of (neg (var 0)) (neg (var 1)) (neg (var 2)) (neg (var 3)))
    (dot_of (var 0) (var 1) (var 2) (var 3)) refl

opposite_way : (a b : Point) → opposite (minus b a) ≡ minus a b
opposite_way a b =
    let x : neg_ℤ (b.0 -ℤ a.0) ≡ a.0 -ℤ b.0 = omega (arith, linear) in
    let y : neg_ℤ (b.1 -ℤ a.1) ≡ a.1 -ℤ b.1 = omega (arith, linear) in
    λ i. (x i, y i)

wide_opposite : (t : ℕ) (s v : Point) → IsWide t s v → IsWide t (opposite s) (opposite v)
wide_opposite t s v h = record {
  wide = rw (length_opposite v, dot_opposites s v) h.wide;
  ahead = rw (dot_opposites s v) h.ahead;
  lean = rw (cross_opposites s v, length_opposite v) h.lean;
  half = rw (cross_opposites s v, length_opposite v) h.half;
}

wide_back : (t : ℕ) (s a b : Point) → IsWide t s (minus b a) → IsWide t (opposite s) (minus a b)
wide_back t s a b h = subst (λ (v : Point). IsWide t (opposite s) v) (opposite_way a b) (wide_opposite t s (minus b a) h)

-- ---- between the sides

-- a vector that another looks along is not 0
some_length : (s v : Point) → pos 0 <ℤ dot s v → 0 < length_sq v
some_length s v h =
    ⊎_elim
    (λ (l : 0 < length_sq v). l)
    (λ (l : length_sq v ≤ 0).
    let x : v.0 ≡ pos 0 = square_zero v.0 (omega (arith, linear, dot_self v, square_nonneg v.1, l)) in
    let y : v.1 ≡ pos 0 = square_zero v.1 (omega (arith, linear, dot_self v, square_nonneg v.0, l)) in
    absurd (omega (arith, linear, h, times_zero s.0 v.0 x, times_zero s.1 v.1 y)))
    (cases_lt 0 (length_sq v))

between_sides : (t m : ℕ) (s v w : Point) → IsWide t s v → 2 * length_sq w < t * (m * m) →
    (pos 0 <ℤ ((pos m *ℤ dot s v) +ℤ cross v w)) × (pos 0 <ℤ ((pos m *ℤ dot s v) -ℤ cross v w))
between_sides t m s v w h near =
    before_sides t m s v w h.wide (let l = h.ahead in omega (arith, linear, l)) (some_length s v h.ahead) near

-- how far to the side, as a size
aside_size : (d k : ℤ) (m : ℕ) → pos 0 <ℤ d → pos 0 <ℤ ((pos m *ℤ d) +ℤ k) → pos 0 <ℤ ((pos m *ℤ d) -ℤ k) →
    unsigned_abs k < m * unsigned_abs d
aside_size (pos d) k m ahead left right = omega (arith, ints)
aside_size (negsuc d) k m ahead left right = absurd (omega (arith, ints))

aside : (t m : ℕ) (s v w : Point) → IsWide t s v → 2 * length_sq w < t * (m * m) →
    unsigned_abs (cross v w) < m * unsigned_abs (dot s v)
aside t m s v w h near =
    let both = between_sides t m s v w h near in aside_size (dot s v) (cross v w) m h.ahead both.0 both.1

end_on_line : (m : ℕ) (a b : Point) → turn (refined m a) (refined m b) (refined m b) ≡ pos 0
end_on_line m a b = cross_self (minus (refined m b) (refined m a))

-- from both ends the point lies as far to the side
aside_from_ends : (m : ℕ) (q a b : Point) → 0 < m →
    cross (minus b a) (minus q (refined m a)) ≡ cross (minus b a) (minus q (refined m b))
aside_from_ends m q a b some = aside_from m q a b (refined m b) some (end_on_line m a b)

-- between the ends and the sides: `w` says how far to the side
held_between : (t m : ℕ) (a b s q w : Point) → 0 < m → IsWide t s (minus b a) →
    cross (minus b a) (minus q (refined m a)) ≡ cross (minus b a) w → 2 * length_sq w < t * (m * m) →
    pos 0 <ℤ dot s (minus q (refined m a)) → dot s (minus q (refined m b)) <ℤ pos 0 → HoldsSection m q a b s
held_between t m a b s q w some h same near after before =
    let both = between_sides t m s (minus b a) w h near in
    section_holds m q a b s some after before (omega (arith, linear, same, both.0)) (omega (arith, linear, same, both.1))

-- ---- beyond an end

-- from a number between two multiples of the grid to the last of them it goes the way that the section goes
way_on : (m : ℕ) (a b c : ℤ) → IsBetween (pos m *ℤ a) c (pos m *ℤ b) → pos 0 ≤ℤ ((b -ℤ a) *ℤ ((pos m *ℤ b) -ℤ c))
way_on m a b c h =
    by_lt_z b a
    (λ (l : b <ℤ a).
    let both = h.down (mul_le_mul_left (pos m) b a least (omega (arith, linear, l))) in
    mul_nonpos (b -ℤ a) ((pos m *ℤ b) -ℤ c) (omega (arith, linear, l)) (omega (arith, linear, both.0)))
    (λ (l : a ≤ℤ b).
    let both = h.up (mul_le_mul_left (pos m) a b least l) in
    mul_nonneg (b -ℤ a) ((pos m *ℤ b) -ℤ c) (omega (arith, linear, l)) (omega (arith, linear, both.1)))
  where
    least : pos 0 ≤ℤ pos m
    least = omega (arith, ints)

-- beyond the end and near to a point of the section, the point is near to the end
near_end : (t m : ℕ) (a b s q c : Point) → 0 < m → IsWide t s (minus b a) → IsOn (refined_edge m (a, b)) c →
    2 * length_sq (minus q c) + 2 * (m * m) < t * (m * m) → pos 0 ≤ℤ dot s (minus q (refined m b)) → IsNearPoint t m q b
near_end t m a b s q c some h on near beyond =
    let least = by_end m s (minus b a) (minus q (refined m b)) (minus (refined m b) c) h.ahead h.lean less beyond
    (omega (arith, linear, way_on m a.0 b.0 c.0 on.in_box.by_x, way_on m a.1 b.1 c.1 on.in_box.by_y)) parallel in
    omega (arith, least, near, ap length_sq through)
  where
    through : plus (minus q (refined m b)) (minus (refined m b) c) ≡ minus q c
    through =
        let x : (q.0 -ℤ (pos m *ℤ b.0)) +ℤ ((pos m *ℤ b.0) -ℤ c.0) ≡ q.0 -ℤ c.0 = omega (arith, linear) in
        let y : (q.1 -ℤ (pos m *ℤ b.1)) +ℤ ((pos m *ℤ b.1) -ℤ c.1) ≡ q.1 -ℤ c.1 = omega (arith, linear) in
        λ i. (x i, y i)

    flat : cross (minus b a) (minus (refined m b) (refined m a)) ≡ pos 0
    flat =
        let v = apart (point_var 1) (point_var 0) in
        ring (coordinates (a ∷ b ∷ []) (pos m ∷ []))
        (crossed v (apart (scaled_point_expr (var 4) (point_var 1)) (scaled_point_expr (var 4) (point_var 0))))
        (lit (pos 0))
        refl

    parallel : cross (minus b a) (minus (refined m b) c) ≡ pos 0
    parallel = sym (aside_from m (refined m b) a b c some on.on_line) ∙ flat

    less : unsigned_abs (cross (minus b a) (minus q (refined m b))) < m * unsigned_abs (dot s (minus b a))
    less =
        subst (λ (k : ℤ). unsigned_abs k < m * unsigned_abs (dot s (minus b a)))
        (sym (aside_from m q a b c some on.on_line) ∙ aside_from_ends m q a b some)
        (aside t m s (minus b a) (minus q c) h (omega (arith, near)))

-- what is near to a point of a section is held by the section's piece, or near to an end
pub section_or_end : (t m : ℕ) (a b s q c : Point) → 0 < m → IsWide t s (minus b a) → IsOn (refined_edge m (a, b)) c →
    2 * length_sq (minus q c) + 2 * (m * m) < t * (m * m) →
    HoldsSection m q a b s ⊎ (IsNearPoint t m q a ⊎ IsNearPoint t m q b)
section_or_end t m a b s q c some h on near =
    by_lt_z (dot s (minus q (refined m b))) (pos 0)
    (λ (before : dot s (minus q (refined m b)) <ℤ pos 0).
    by_lt_z (pos 0) (dot s (minus q (refined m a)))
    (λ (after : pos 0 <ℤ dot s (minus q (refined m a))).
    inl
    (held_between t m a b s q (minus q c) some h (aside_from m q a b c some on.on_line) (omega (arith, near)) after before))
    (λ (l : dot s (minus q (refined m a)) ≤ℤ pos 0).
    inr
    (inl
    (near_end t m b a (opposite s) q c some (wide_back t s a b h) (on_back (refined_edge m (a, b)) c on) near
    (omega (arith, linear, l, dot_opposite s (minus q (refined m a))))))))
    (λ (beyond : pos 0 ≤ℤ dot s (minus q (refined m b))). inr (inr (near_end t m a b s q c some h on near beyond)))

-- ---- near to an end

-- what is near to the end, and no nearer to the start, lies past the start
past_start : (t m : ℕ) (a b s q : Point) → 0 < m → IsWide t s (minus b a) → IsNearPoint t m q b →
    length_sq (minus q (refined m b)) ≤ length_sq (minus q (refined m a)) → pos 0 <ℤ dot s (minus q (refined m a))
past_start t m a b s q some h near nearest =
    by_lt_z (pos 0) (dot s (minus q (refined m a)))
    (λ (l : pos 0 <ℤ dot s (minus q (refined m a))). l)
    (λ (l : dot s (minus q (refined m a)) ≤ℤ pos 0).
    let closer =
    nearer m (opposite s) (minus a b) (minus q (refined m a)) back.ahead back.half less
    (omega (arith, linear, l, dot_opposite s (minus q (refined m a)))) in
    absurd (omega (arith, closer, nearest, ap length_sq through)))
  where
    back : IsWide t (opposite s) (minus a b)
    back = wide_back t s a b h

    less : unsigned_abs (cross (minus a b) (minus q (refined m a))) < m * unsigned_abs (dot (opposite s) (minus a b))
    less =
        subst (λ (k : ℤ). unsigned_abs k < m * unsigned_abs (dot (opposite s) (minus a b))) (aside_from_ends m q b a some)
        (aside t m (opposite s) (minus a b) (minus q (refined m b)) back near)

    through : plus (minus q (refined m a)) (refined m (minus a b)) ≡ minus q (refined m b)
    through =
        let x : (q.0 -ℤ (pos m *ℤ a.0)) +ℤ (pos m *ℤ (a.0 -ℤ b.0)) ≡ q.0 -ℤ (pos m *ℤ b.0) =
        omega (arith, linear, mul_sub (pos m) a.0 b.0) in
        let y : (q.1 -ℤ (pos m *ℤ a.1)) +ℤ (pos m *ℤ (a.1 -ℤ b.1)) ≡ q.1 -ℤ (pos m *ℤ b.1) =
        omega (arith, linear, mul_sub (pos m) a.1 b.1) in
        λ i. (x i, y i)

-- what is near to a section's end, and no nearer to its start, is held by the section's piece, or lies beyond the end
pub beyond_end : (t m : ℕ) (a b s q : Point) → 0 < m → IsWide t s (minus b a) → IsNearPoint t m q b →
    length_sq (minus q (refined m b)) ≤ length_sq (minus q (refined m a)) → dot s (minus q (refined m b)) ≢ pos 0 →
    HoldsSection m q a b s ⊎ (pos 0 <ℤ dot s (minus q (refined m b)))
beyond_end t m a b s q some h near nearest aside_of_end =
    by_lt_z (dot s (minus q (refined m b))) (pos 0)
    (λ (before : dot s (minus q (refined m b)) <ℤ pos 0).
    inl
    (held_between t m a b s q (minus q (refined m b)) some h (aside_from_ends m q a b some) near
    (past_start t m a b s q some h near nearest) before))
    (λ (l : pos 0 ≤ℤ dot s (minus q (refined m b))).
    by_lt_z (pos 0) (dot s (minus q (refined m b)))
    (λ (beyond : pos 0 <ℤ dot s (minus q (refined m b))). inr beyond)
    (λ (r : dot s (minus q (refined m b)) ≤ℤ pos 0). absurd (aside_of_end (omega (arith, linear, l, r)))))

-- what is near to a section's start, and no nearer to its end, is held by the section's piece, or lies before the start
pub before_start : (t m : ℕ) (a b s q : Point) → 0 < m → IsWide t s (minus b a) → IsNearPoint t m q a →
    length_sq (minus q (refined m a)) ≤ length_sq (minus q (refined m b)) → dot s (minus q (refined m a)) ≢ pos 0 →
    HoldsSection m q a b s ⊎ (dot s (minus q (refined m a)) <ℤ pos 0)
before_start t m a b s q some h near nearest aside_of_start =
    by_lt_z (dot s (minus q (refined m a))) (pos 0)
    (λ (before : dot s (minus q (refined m a)) <ℤ pos 0). inr before)
    (λ (l : pos 0 ≤ℤ dot s (minus q (refined m a))).
    by_lt_z (pos 0) (dot s (minus q (refined m a)))
    (λ (after : pos 0 <ℤ dot s (minus q (refined m a))).
    let short = past_start t m b a (opposite s) q some (wide_back t s a b h) near nearest in
    inl
    (held_between t m a b s q (minus q (refined m a)) some h refl near after
    (omega (arith, linear, short, dot_opposite s (minus q (refined m b))))))
    (λ (r : dot s (minus q (refined m a)) ≤ℤ pos 0). absurd (aside_of_start (omega (arith, linear, l, r)))))
