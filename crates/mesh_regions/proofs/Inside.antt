-- Lemmas over points and lists: one winding inside a segment.
use Rattle.std.specs.Prelude.{ℤ, ◌+ℤ◌, ◌-ℤ◌, ◌*ℤ◌, pos, ◌≤ℤ◌, ◌<ℤ◌}
use Rattle.mesh_plane.specs.Plane.{Point, turn, Edge}
use Rattle.std.proofs.Common.{◌≡◌, [], ◌∷◌, refl, ◌∙◌, ap, arith, sym, ◌⊎◌, inl, inr, ℕ, ◌<◌, true, List, subst}
use Rattle.mesh_plane.proofs.Ring.{ring, var, ◌⊖◌, ◌⊗◌, lit, ◌⊕◌}
use Rattle.mesh_plane.proofs.PointExprs.{point_var, coordinates, turned, scaled_point_expr}
use Rattle.mesh_plane.proofs.Grids.{scale, part, winds}
use Rattle.mesh_plane.proofs.Whole.{linear, mul_zero, mul_nonneg, mul_nonpos, mul_le_mul_left, mul_pos, square_nonneg, mul_cancel, square_zero}
use Rattle.std.proofs.lemmas.Int.{by_lt_z, ints}
use Rattle.mesh_lattice.specs.Split.{IsBetween, occurs, IsInside, is_end}
use Rattle.std.proofs.lemmas.Bool.{both_ways}
use Rattle.mesh_plane.specs.Winding.{winding}
use Rattle.mesh_lattice.specs.Boundary.{winding_beside}
use Rattle.mesh_lattice.specs.Clean.{refined_edge}
use Rattle.mesh_regions.specs.SideLaws.{AreSplit}
use Rattle.mesh_regions.proofs.FinerGrids.{winds_finer}
use Rattle.mesh_regions.proofs.LineWindings.{inside_beside}
use Rattle.mesh_lattice.proofs.Boxes.{between_back}
use Rattle.mesh_lattice.proofs.Ends.{decides_end}
use Rattle.mesh_lattice.proofs.Each.{proper_of}

-- by how much the point lies beyond `p` along the way from `p` to `r`, times the way's length
abbrev way_past : ℤ → Point → Point → Point → ℤ
way_past m p r q = ((r.0 -ℤ p.0) *ℤ (q.0 -ℤ (m *ℤ p.0))) +ℤ ((r.1 -ℤ p.1) *ℤ (q.1 -ℤ (m *ℤ p.1)))

abbrev square : Point → Point → ℤ
square p r = ((r.0 -ℤ p.0) *ℤ (r.0 -ℤ p.0)) +ℤ ((r.1 -ℤ p.1) *ℤ (r.1 -ℤ p.1))

-- what the turn is but for the factor of the grid
abbrev bare_turn : ℤ → Point → Point → Point → ℤ
bare_turn m p r q = ((r.0 -ℤ p.0) *ℤ (q.1 -ℤ (m *ℤ p.1))) -ℤ ((r.1 -ℤ p.1) *ℤ (q.0 -ℤ (m *ℤ p.0)))

turn_bare : (m : ℤ) (p r q : Point) → turn (scale m p) (scale m r) q ≡ m *ℤ bare_turn m p r q
turn_bare m p r q =
    ring (coordinates (p ∷ r ∷ q ∷ []) (m ∷ []))
    (turned (scaled_point_expr (var 6) (point_var 0)) (scaled_point_expr (var 6) (point_var 1)) (point_var 2))
    (var 6 ⊗ (((var 2 ⊖ var 0) ⊗ (var 5 ⊖ (var 6 ⊗ var 1))) ⊖ ((var 3 ⊖ var 1) ⊗ (var 4 ⊖ (var 6 ⊗ var 0)))))
    refl

part_x : (m : ℤ) (p r q : Point) →
    (((m *ℤ square p r) *ℤ pos 2) *ℤ p.0) +ℤ ((pos 2 *ℤ way_past m p r q) *ℤ (r.0 -ℤ p.0))
    ≡ ((square p r *ℤ pos 2) *ℤ q.0) +ℤ (pos 2 *ℤ ((r.1 -ℤ p.1) *ℤ bare_turn m p r q))
part_x m p r q =
    let dx = var 2 ⊖ var 0 in
    let dy = var 3 ⊖ var 1 in
    let u = var 4 ⊖ (var 6 ⊗ var 0) in
    let v = var 5 ⊖ (var 6 ⊗ var 1) in
    let n = (dx ⊗ dx) ⊕ (dy ⊗ dy) in
    ring (coordinates (p ∷ r ∷ q ∷ []) (m ∷ []))
    ((((var 6 ⊗ n) ⊗ lit (pos 2)) ⊗ var 0) ⊕ ((lit (pos 2) ⊗ ((dx ⊗ u) ⊕ (dy ⊗ v))) ⊗ dx))
    (((n ⊗ lit (pos 2)) ⊗ var 4) ⊕ (lit (pos 2) ⊗ (dy ⊗ ((dx ⊗ v) ⊖ (dy ⊗ u)))))
    refl

part_y : (m : ℤ) (p r q : Point) →
    (((m *ℤ square p r) *ℤ pos 2) *ℤ p.1) +ℤ ((pos 2 *ℤ way_past m p r q) *ℤ (r.1 -ℤ p.1))
    ≡ ((square p r *ℤ pos 2) *ℤ q.1) -ℤ (pos 2 *ℤ ((r.0 -ℤ p.0) *ℤ bare_turn m p r q))
part_y m p r q =
    let dx = var 2 ⊖ var 0 in
    let dy = var 3 ⊖ var 1 in
    let u = var 4 ⊖ (var 6 ⊗ var 0) in
    let v = var 5 ⊖ (var 6 ⊗ var 1) in
    let n = (dx ⊗ dx) ⊕ (dy ⊗ dy) in
    ring (coordinates (p ∷ r ∷ q ∷ []) (m ∷ []))
    ((((var 6 ⊗ n) ⊗ lit (pos 2)) ⊗ var 1) ⊕ ((lit (pos 2) ⊗ ((dx ⊗ u) ⊕ (dy ⊗ v))) ⊗ dy))
    (((n ⊗ lit (pos 2)) ⊗ var 5) ⊖ (lit (pos 2) ⊗ (dx ⊗ ((dx ⊗ v) ⊖ (dy ⊗ u)))))
    refl

-- a point on the line is that part of the way, on a grid on which the part is whole
is_part : (m : ℤ) (p r q : Point) → bare_turn m p r q ≡ pos 0 →
    part ((m *ℤ square p r) *ℤ pos 2) (pos 2 *ℤ way_past m p r q) p r ≡ scale (square p r *ℤ pos 2) q
is_part m p r q flat =
    let none_y : (r.1 -ℤ p.1) *ℤ bare_turn m p r q ≡ pos 0 = ap (λ (z : ℤ). (r.1 -ℤ p.1) *ℤ z) flat ∙ mul_zero (r.1 -ℤ p.1) in
    let none_x : (r.0 -ℤ p.0) *ℤ bare_turn m p r q ≡ pos 0 = ap (λ (z : ℤ). (r.0 -ℤ p.0) *ℤ z) flat ∙ mul_zero (r.0 -ℤ p.0) in
    let x : (((m *ℤ square p r) *ℤ pos 2) *ℤ p.0) +ℤ ((pos 2 *ℤ way_past m p r q) *ℤ (r.0 -ℤ p.0)) ≡ (square p r *ℤ pos 2) *ℤ q.0 =
    part_x m p r q ∙ (ap (λ (z : ℤ). ((square p r *ℤ pos 2) *ℤ q.0) +ℤ (pos 2 *ℤ z)) none_y ∙ plus_none ((square p r *ℤ pos 2) *ℤ q.0)) in
    let y : (((m *ℤ square p r) *ℤ pos 2) *ℤ p.1) +ℤ ((pos 2 *ℤ way_past m p r q) *ℤ (r.1 -ℤ p.1)) ≡ (square p r *ℤ pos 2) *ℤ q.1 =
    part_y m p r q ∙ (ap (λ (z : ℤ). ((square p r *ℤ pos 2) *ℤ q.1) -ℤ (pos 2 *ℤ z)) none_x ∙ less_none ((square p r *ℤ pos 2) *ℤ q.1)) in
    λ i. (x i, y i)
  where
    plus_none : (a : ℤ) → a +ℤ (pos 2 *ℤ pos 0) ≡ a
    plus_none a = omega (arith, linear)

    less_none : (a : ℤ) → a -ℤ (pos 2 *ℤ pos 0) ≡ a
    less_none a = omega (arith, linear)

-- two numbers of the same sign
forth : (m a b z : ℤ) → pos 0 <ℤ m → IsBetween (m *ℤ a) z (m *ℤ b) → pos 0 ≤ℤ ((b -ℤ a) *ℤ (z -ℤ (m *ℤ a)))
forth m a b z some w =
    by_lt_z b a
    (λ (h : b <ℤ a).
    let o : (m *ℤ b) ≤ℤ (m *ℤ a) = mul_le_mul_left m b a (omega (arith, linear)) (omega (arith, linear)) in
    let r = w.down o in mul_nonpos (b -ℤ a) (z -ℤ (m *ℤ a)) (omega (arith, linear)) (omega (arith, linear, r.1)))
    (λ (h : a ≤ℤ b).
    let o : (m *ℤ a) ≤ℤ (m *ℤ b) = mul_le_mul_left m a b (omega (arith, linear)) h in
    let r = w.up o in mul_nonneg (b -ℤ a) (z -ℤ (m *ℤ a)) (omega (arith, linear)) (omega (arith, linear, r.0)))

square_some : (p r : Point) → (p ≡ r → ⊥) → pos 0 <ℤ square p r
square_some p r differ =
    let x : pos 0 ≤ℤ ((r.0 -ℤ p.0) *ℤ (r.0 -ℤ p.0)) = square_nonneg (r.0 -ℤ p.0) in
    let y : pos 0 ≤ℤ ((r.1 -ℤ p.1) *ℤ (r.1 -ℤ p.1)) = square_nonneg (r.1 -ℤ p.1) in
    by_lt_z (pos 0) (square p r) (λ (h : pos 0 <ℤ square p r). h)
    (λ (h : square p r ≤ℤ pos 0).
    absurd (differ (let e = square_zero (r.0 -ℤ p.0) (omega (arith, linear)) in let f = square_zero (r.1 -ℤ p.1) (omega (arith, linear)) in
    λ i. (same p.0 r.0 e i, same p.1 r.1 f i))))
  where
    same : (a b : ℤ) → b -ℤ a ≡ pos 0 → a ≡ b
    same a b e = omega (arith, ints)

-- a point on the line that is not beyond `p` along the way is `p`
at_start : (m : ℤ) (p r q : Point) → pos 0 <ℤ square p r → bare_turn m p r q ≡ pos 0 → way_past m p r q ≡ pos 0 → q ≡ scale m p
at_start m p r q some flat none =
    let own = is_part m p r q flat in
    let twice : pos 0 <ℤ (square p r *ℤ pos 2) = mul_pos (square p r) (pos 2) some (omega (arith, ints)) in
    let at : (a d z : ℤ) → (((m *ℤ square p r) *ℤ pos 2) *ℤ a) +ℤ ((pos 2 *ℤ way_past m p r q) *ℤ d) ≡ (square p r *ℤ pos 2) *ℤ z → z ≡ m *ℤ a =
    λ (a d z : ℤ) e. sym (mul_cancel (square p r *ℤ pos 2) (m *ℤ a) z twice (start_is a d (square p r) ∙ (ap (λ (t : ℤ). (((m *ℤ square p r) *ℤ pos 2) *ℤ a) +ℤ ((pos 2 *ℤ t) *ℤ d)) (sym none) ∙ e))) in
    let x = at p.0 (r.0 -ℤ p.0) q.0 (ap (λ (v : Point). v.0) own) in
    let y = at p.1 (r.1 -ℤ p.1) q.1 (ap (λ (v : Point). v.1) own) in
    λ i. (x i, y i)
  where
    start_is : (a d n : ℤ) → (n *ℤ pos 2) *ℤ (m *ℤ a) ≡ (((m *ℤ n) *ℤ pos 2) *ℤ a) +ℤ ((pos 2 *ℤ pos 0) *ℤ d)
    start_is a d n =
        ring (m ∷ a ∷ d ∷ n ∷ []) ((var 3 ⊗ lit (pos 2)) ⊗ (var 0 ⊗ var 1)) ((((var 0 ⊗ var 3) ⊗ lit (pos 2)) ⊗ var 1) ⊕ ((lit (pos 2) ⊗ lit (pos 0)) ⊗ var 2)) refl

-- the way back
square_back : (p r : Point) → square r p ≡ square p r
square_back p r =
    ring (coordinates (p ∷ r ∷ []) [])
    (((var 0 ⊖ var 2) ⊗ (var 0 ⊖ var 2)) ⊕ ((var 1 ⊖ var 3) ⊗ (var 1 ⊖ var 3)))
    (((var 2 ⊖ var 0) ⊗ (var 2 ⊖ var 0)) ⊕ ((var 3 ⊖ var 1) ⊗ (var 3 ⊖ var 1)))
    refl

bare_back : (m : ℤ) (p r q : Point) → bare_turn m r p q +ℤ bare_turn m p r q ≡ pos 0
bare_back m p r q =
    ring (coordinates (p ∷ r ∷ q ∷ []) (m ∷ []))
    ((((var 0 ⊖ var 2) ⊗ (var 5 ⊖ (var 6 ⊗ var 3))) ⊖ ((var 1 ⊖ var 3) ⊗ (var 4 ⊖ (var 6 ⊗ var 2))))
    ⊕ (((var 2 ⊖ var 0) ⊗ (var 5 ⊖ (var 6 ⊗ var 1))) ⊖ ((var 3 ⊖ var 1) ⊗ (var 4 ⊖ (var 6 ⊗ var 0)))))
    (lit (pos 0))
    refl

way_past_back : (m : ℤ) (p r q : Point) → way_past m r p q +ℤ way_past m p r q ≡ m *ℤ square p r
way_past_back m p r q =
    ring (coordinates (p ∷ r ∷ q ∷ []) (m ∷ []))
    ((((var 0 ⊖ var 2) ⊗ (var 4 ⊖ (var 6 ⊗ var 2))) ⊕ ((var 1 ⊖ var 3) ⊗ (var 5 ⊖ (var 6 ⊗ var 3))))
    ⊕ (((var 2 ⊖ var 0) ⊗ (var 4 ⊖ (var 6 ⊗ var 0))) ⊕ ((var 3 ⊖ var 1) ⊗ (var 5 ⊖ (var 6 ⊗ var 1)))))
    (var 6 ⊗ (((var 2 ⊖ var 0) ⊗ (var 2 ⊖ var 0)) ⊕ ((var 3 ⊖ var 1) ⊗ (var 3 ⊖ var 1))))
    refl

-- a point in the box and no start lies beyond the start
along_some : (m : ℤ) (p r q : Point) → pos 0 <ℤ m → pos 0 <ℤ square p r → bare_turn m p r q ≡ pos 0 →
    IsBetween (m *ℤ p.0) q.0 (m *ℤ r.0) → IsBetween (m *ℤ p.1) q.1 (m *ℤ r.1) → (q ≡ scale m p → ⊥) → pos 0 <ℤ way_past m p r q
along_some m p r q big some flat wx wy differ =
    let x = forth m p.0 r.0 q.0 big wx in
    let y = forth m p.1 r.1 q.1 big wy in
    by_lt_z (pos 0) (way_past m p r q) (λ (h : pos 0 <ℤ way_past m p r q). h)
    (λ (h : way_past m p r q ≤ℤ pos 0). absurd (differ (at_start m p r q some flat (omega (arith, linear)))))

-- at each point inside a split segment the winding is that beside it
pub inside_winding : (es : List Edge) → AreSplit es → (e : Edge) → occurs e es ≡ true → (m : ℕ) → 0 < m → (q : Point) → IsInside (refined_edge m e) q → winding m q es ≡ winding_beside es e
inside_winding es split e stands m some q within =
    let p = e.0 in
    let r = e.1 in
    let n = square p r in
    let big : pos 0 <ℤ pos m = omega (arith, ints) in
    let long : pos 0 <ℤ n = square_some p r (proper_of es split.proper e stands) in
    let flat : bare_turn (pos m) p r q ≡ pos 0 =
    mul_cancel (pos m) (bare_turn (pos m) p r q) (pos 0) big (sym (turn_bare (pos m) p r q) ∙ (within.on_line ∙ sym (mul_zero (pos m)))) in
    let no_end : (q ≡ scale (pos m) p) ⊎ (q ≡ scale (pos m) r) → ⊥ =
    λ h. both_ways (is_end q (refined_edge m e)) within.no_end ((decides_end q (refined_edge m e)).1 h) in
    let first : pos 0 <ℤ way_past (pos m) p r q =
    along_some (pos m) p r q big long flat within.in_box.by_x within.in_box.by_y (λ (h : q ≡ scale (pos m) p). no_end (inl h)) in
    let last : pos 0 <ℤ way_past (pos m) r p q =
    along_some (pos m) r p q big (subst (λ (z : ℤ). pos 0 <ℤ z) (sym (square_back p r)) long) (omega (arith, linear, bare_back (pos m) p r q))
    (between_back (pos m *ℤ r.0) q.0 (pos m *ℤ p.0) within.in_box.by_x) (between_back (pos m *ℤ r.1) q.1 (pos m *ℤ p.1) within.in_box.by_y)
    (λ (h : q ≡ scale (pos m) r). no_end (inr h)) in
    let half : ℤ = pos m *ℤ n in
    let t : ℤ = pos 2 *ℤ way_past (pos m) p r q in
    sym (winds_finer (n *ℤ pos 2) (pos m) q es (mul_pos n (pos 2) long (omega (arith, ints))))
    ∙ (ap (λ (k : ℤ). winds k (scale (n *ℤ pos 2) q) es) (grids (pos m) n)
    ∙ (ap (λ (z : Point). winds (half *ℤ pos 2) z es) (sym (is_part (pos m) p r q flat))
    ∙ inside_beside half t es split.balanced split.clean split.proper e stands (some_twice (way_past (pos m) p r q) first)
    (less_twice (way_past (pos m) p r q) half (omega (arith, linear, way_past_back (pos m) p r q, last)))))
  where
    some_twice : (a : ℤ) → pos 0 <ℤ a → pos 0 <ℤ (pos 2 *ℤ a)
    some_twice a h = omega (arith, ints)

    less_twice : (a b : ℤ) → a <ℤ b → (pos 2 *ℤ a) <ℤ (b *ℤ pos 2)
    less_twice a b h = omega (arith, ints)

    grids : (m n : ℤ) → (n *ℤ pos 2) *ℤ m ≡ (m *ℤ n) *ℤ pos 2
    grids m n = ring (m ∷ n ∷ []) ((var 1 ⊗ lit (pos 2)) ⊗ var 0) ((var 0 ⊗ var 1) ⊗ lit (pos 2)) refl
