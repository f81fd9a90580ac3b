-- Lemmas over points and lists: a balanced list has one winding at all points inside a segment that its edges keep clear of.
use Rattle.std.proofs.Common.{◌≡◌, List, [], ◌∷◌, refl, sym, ◌∙◌, ap, subst, arith}
use Rattle.std.specs.Prelude.{ℤ, pos, neg_ℤ, ◌+ℤ◌, ◌-ℤ◌, ◌*ℤ◌, ◌≤ℤ◌, ◌<ℤ◌}
use Rattle.std.proofs.lemmas.Int.{ints, by_lt_z}
use Rattle.mesh_plane.specs.Plane.{Point, Edge, turn}
use Rattle.mesh_plane.specs.Winding.{total, IsBalanced}
use Rattle.mesh_plane.proofs.Whole.{linear, mul_nonneg, mul_pos, mul_pos_neg, mul_neg}
use Rattle.mesh_plane.proofs.Ring.{ring, var, ◌⊕◌, ◌⊖◌, ◌⊗◌, lit}
use Rattle.mesh_plane.proofs.Crossings.{turn_flip}
use Rattle.mesh_plane.proofs.Balance.{growth, growth_of_balanced}
use Rattle.mesh_plane.proofs.PointExprs.{point_var, coordinates, turned, scaled_point_expr}
use Rattle.mesh_regions.proofs.SidesPotential.{Parted, edge_left, edge_right, way_left, way_right, one_line, potential, east}
use Rattle.mesh_plane.proofs.Grids.{part, scale, winds}
use Rattle.mesh_lattice.proofs.Each.{Each, each_more}

-- the edge from `p` to `r` and the inside of the segment from `a` to `b` have no point in common, or lie on one line
pub data Clear (a b p r : Point) : Type 0 where
  on_left : pos 0 <ℤ turn a b p → pos 0 <ℤ turn a b r → Clear a b p r
  on_right : turn a b p <ℤ pos 0 → turn a b r <ℤ pos 0 → Clear a b p r
  ahead : pos 0 ≤ℤ turn p r a → pos 0 ≤ℤ turn p r b → pos 0 <ℤ (turn p r a +ℤ turn p r b) → Clear a b p r
  behind : turn p r a ≤ℤ pos 0 → turn p r b ≤ℤ pos 0 → (turn p r a +ℤ turn p r b) <ℤ pos 0 → Clear a b p r
  on_one_line : turn a b p ≡ pos 0 → turn a b r ≡ pos 0 → turn p r a ≡ pos 0 → turn p r b ≡ pos 0 → Clear a b p r

pub way_turn : (m t s : ℤ) (a b p : Point) →
    turn (part m t a b) (part m s a b) (scale m p) ≡ (s -ℤ t) *ℤ (m *ℤ turn a b p)
way_turn m t s a b p =
    ring (coordinates (a ∷ b ∷ p ∷ []) (m ∷ t ∷ s ∷ []))
    (let a' = point_var 0 in let b' = point_var 1 in
    turned (((var 6) ⊗ a'.0) ⊕ ((var 7) ⊗ (b'.0 ⊖ a'.0)), ((var 6) ⊗ a'.1) ⊕ ((var 7) ⊗ (b'.1 ⊖ a'.1)))
    (((var 6) ⊗ a'.0) ⊕ ((var 8) ⊗ (b'.0 ⊖ a'.0)), ((var 6) ⊗ a'.1) ⊕ ((var 8) ⊗ (b'.1 ⊖ a'.1)))
    (scaled_point_expr (var 6) (point_var 2)))
    ((var 8 ⊖ var 7) ⊗ (var 6 ⊗ turned (point_var 0) (point_var 1) (point_var 2)))
    refl

pub edge_turn : (m t : ℤ) (a b p r : Point) →
    turn (scale m p) (scale m r) (part m t a b) ≡ m *ℤ (((m -ℤ t) *ℤ turn p r a) +ℤ (t *ℤ turn p r b))
edge_turn m t a b p r =
    ring (coordinates (a ∷ b ∷ p ∷ r ∷ []) (m ∷ t ∷ []))
    (turned (scaled_point_expr (var 8) (point_var 2)) (scaled_point_expr (var 8) (point_var 3))
    (((var 8) ⊗ var 0) ⊕ ((var 9) ⊗ (var 2 ⊖ var 0)), ((var 8) ⊗ var 1) ⊕ ((var 9) ⊗ (var 3 ⊖ var 1))))
    (var 8 ⊗ (((var 8 ⊖ var 9) ⊗ turned (point_var 2) (point_var 3) (point_var 0)) ⊕ (var 9 ⊗ turned (point_var 2) (point_var 3) (point_var 1))))
    refl

-- ---- signs

weighed_up : (m t x y : ℤ) → pos 0 <ℤ t → t <ℤ m → pos 0 ≤ℤ x → pos 0 ≤ℤ y → pos 0 <ℤ (x +ℤ y) → pos 0 <ℤ (m *ℤ (((m -ℤ t) *ℤ x) +ℤ (t *ℤ y)))
weighed_up m t x y low high hx hy some =
    mul_pos m (((m -ℤ t) *ℤ x) +ℤ (t *ℤ y)) (omega (arith, linear))
    (by_lt_z (pos 0) x
    (λ (h : pos 0 <ℤ x). omega (arith, linear, mul_pos (m -ℤ t) x (omega (arith, linear)) h, mul_nonneg t y (omega (arith, linear)) hy))
    (λ (h : x ≤ℤ pos 0). omega (arith, linear, mul_nonneg (m -ℤ t) x (omega (arith, linear)) hx, mul_pos t y low (omega (arith, linear)))))

weighed_down : (m t x y : ℤ) → pos 0 <ℤ t → t <ℤ m → x ≤ℤ pos 0 → y ≤ℤ pos 0 → (x +ℤ y) <ℤ pos 0 → (m *ℤ (((m -ℤ t) *ℤ x) +ℤ (t *ℤ y))) <ℤ pos 0
weighed_down m t x y low high hx hy some =
    let opposite : pos 0 <ℤ (m *ℤ (((m -ℤ t) *ℤ neg_ℤ x) +ℤ (t *ℤ neg_ℤ y))) =
    weighed_up m t (neg_ℤ x) (neg_ℤ y) low high (omega (arith, linear)) (omega (arith, linear)) (omega (arith, linear)) in
    let inner : ((m -ℤ t) *ℤ neg_ℤ x) +ℤ (t *ℤ neg_ℤ y) ≡ neg_ℤ (((m -ℤ t) *ℤ x) +ℤ (t *ℤ y)) =
    omega (arith, linear, mul_neg (m -ℤ t) x, mul_neg t y) in
    omega (arith, linear, ap (λ (z : ℤ). m *ℤ z) inner, mul_neg m (((m -ℤ t) *ℤ x) +ℤ (t *ℤ y)))

weighed_none : (m t x y : ℤ) → x ≡ pos 0 → y ≡ pos 0 → m *ℤ (((m -ℤ t) *ℤ x) +ℤ (t *ℤ y)) ≡ pos 0
weighed_none m t x y hx hy =
    (λ i. m *ℤ (((m -ℤ t) *ℤ hx i) +ℤ (t *ℤ hy i)))
    ∙ ring (m ∷ t ∷ []) (var 0 ⊗ (((var 0 ⊖ var 1) ⊗ lit (pos 0)) ⊕ (var 1 ⊗ lit (pos 0)))) (lit (pos 0)) refl

between_up : (d m x : ℤ) → pos 0 <ℤ d → pos 0 <ℤ m → pos 0 <ℤ x → pos 0 <ℤ (d *ℤ (m *ℤ x))
between_up d m x hd hm hx = mul_pos d (m *ℤ x) hd (mul_pos m x hm hx)

between_down : (d m x : ℤ) → pos 0 <ℤ d → pos 0 <ℤ m → x <ℤ pos 0 → (d *ℤ (m *ℤ x)) <ℤ pos 0
between_down d m x hd hm hx = mul_pos_neg d (m *ℤ x) hd (mul_pos_neg m x hm hx)

between_none : (d m x : ℤ) → x ≡ pos 0 → d *ℤ (m *ℤ x) ≡ pos 0
between_none d m x hx = ap (λ (z : ℤ). d *ℤ (m *ℤ z)) hx ∙ ring (d ∷ m ∷ []) (var 0 ⊗ (var 1 ⊗ lit (pos 0))) (lit (pos 0)) refl

-- ---- the way between two inner points is parted from a clear edge

parted_of : (m t s : ℤ) (a b p r : Point) → pos 0 <ℤ t → t <ℤ s → s <ℤ m → Clear a b p r →
    Parted (part m t a b) (part m s a b) (scale m p) (scale m r)
parted_of m t s a b p r low order high (on_left x y) =
    edge_left
    (subst (λ (z : ℤ). pos 0 <ℤ z) (sym (way_turn m t s a b p)) (between_up (s -ℤ t) m (turn a b p) (omega (arith, linear)) (omega (arith, linear)) x))
    (subst (λ (z : ℤ). pos 0 <ℤ z) (sym (way_turn m t s a b r)) (between_up (s -ℤ t) m (turn a b r) (omega (arith, linear)) (omega (arith, linear)) y))
parted_of m t s a b p r low order high (on_right x y) =
    edge_right
    (subst (λ (z : ℤ). z <ℤ pos 0) (sym (way_turn m t s a b p)) (between_down (s -ℤ t) m (turn a b p) (omega (arith, linear)) (omega (arith, linear)) x))
    (subst (λ (z : ℤ). z <ℤ pos 0) (sym (way_turn m t s a b r)) (between_down (s -ℤ t) m (turn a b r) (omega (arith, linear)) (omega (arith, linear)) y))
parted_of m t s a b p r low order high (ahead x y some) =
    way_left
    (subst (λ (z : ℤ). pos 0 <ℤ z) (sym (edge_turn m t a b p r)) (weighed_up m t (turn p r a) (turn p r b) low (omega (arith, linear)) x y some))
    (subst (λ (z : ℤ). pos 0 <ℤ z) (sym (edge_turn m s a b p r)) (weighed_up m s (turn p r a) (turn p r b) (omega (arith, linear)) high x y some))
parted_of m t s a b p r low order high (behind x y some) =
    way_right
    (subst (λ (z : ℤ). z <ℤ pos 0) (sym (edge_turn m t a b p r)) (weighed_down m t (turn p r a) (turn p r b) low (omega (arith, linear)) x y some))
    (subst (λ (z : ℤ). z <ℤ pos 0) (sym (edge_turn m s a b p r)) (weighed_down m s (turn p r a) (turn p r b) (omega (arith, linear)) high x y some))
parted_of m t s a b p r low order high (on_one_line x y u v) =
    one_line
    (way_turn m t s a b p ∙ between_none (s -ℤ t) m (turn a b p) x)
    (way_turn m t s a b r ∙ between_none (s -ℤ t) m (turn a b r) y)
    (edge_turn m t a b p r ∙ weighed_none m t (turn p r a) (turn p r b) u v)
    (edge_turn m s a b p r ∙ weighed_none m s (turn p r a) (turn p r b) u v)

-- the way walked back
pub parted_back : (q u p r : Point) → Parted q u p r → Parted u q p r
parted_back q u p r (edge_left c d) = edge_right (omega (arith, linear, turn_flip q u p)) (omega (arith, linear, turn_flip q u r))
parted_back q u p r (edge_right c d) = edge_left (omega (arith, linear, turn_flip q u p)) (omega (arith, linear, turn_flip q u r))
parted_back q u p r (way_left a b) = way_left b a
parted_back q u p r (way_right a b) = way_right b a
parted_back q u p r (one_line c d a b) =
    one_line (omega (arith, linear, turn_flip q u p)) (omega (arith, linear, turn_flip q u r)) b a

-- ---- over a balanced list

abbrev PartedOn : ℤ → Point → Point → Edge → Type 0
PartedOn m q u e = Parted q u (scale m e.0) (scale m e.1)

difference_of : (m : ℤ) (q u : Point) → q.1 ≤ℤ u.1 → (es : List Edge) → Each (PartedOn m q u) es →
    winds m q es -ℤ winds m u es ≡ total (growth (λ (v : Point). east q u (scale m v))) es
difference_of m q u up [] parted = refl
difference_of m q u up (e ∷ es) parted =
    omega (arith, linear, potential q u (scale m e.0) (scale m e.1) up parted.0, difference_of m q u up es parted.1)

up_same : (m : ℤ) (q u : Point) (es : List Edge) → IsBalanced es → q.1 ≤ℤ u.1 → Each (PartedOn m q u) es → winds m q es ≡ winds m u es
up_same m q u es balanced up parted =
    omega (arith, linear, difference_of m q u up es parted, growth_of_balanced es balanced (λ (v : Point). east q u (scale m v)))

-- a balanced list has one winding at the ends of a way that is parted from its edges
pub way_same : (m : ℤ) (q u : Point) (es : List Edge) → IsBalanced es → Each (PartedOn m q u) es → winds m q es ≡ winds m u es
way_same m q u es balanced parted =
    by_lt_z u.1 q.1
    (λ (h : u.1 <ℤ q.1).
    sym (up_same m u q es balanced (omega (arith, linear))
    (each_more (PartedOn m q u) (PartedOn m u q) (λ (e : Edge) (x : PartedOn m q u e). parted_back q u (scale m e.0) (scale m e.1) x) es parted)))
    (λ (h : q.1 ≤ℤ u.1). up_same m q u es balanced h parted)

abbrev pub ClearOf : Point → Point → Edge → Type 0
ClearOf a b e = Clear a b e.0 e.1

ordered_same : (m t s : ℤ) (a b : Point) (es : List Edge) → IsBalanced es → Each (ClearOf a b) es →
    pos 0 <ℤ t → t <ℤ s → s <ℤ m → winds m (part m t a b) es ≡ winds m (part m s a b) es
ordered_same m t s a b es balanced clear low order high =
    way_same m (part m t a b) (part m s a b) es balanced
    (each_more (ClearOf a b) (PartedOn m (part m t a b) (part m s a b))
    (λ (e : Edge) (x : ClearOf a b e). parted_of m t s a b e.0 e.1 low order high x) es clear)

-- a balanced list has one winding at all points inside a segment that its edges keep clear of
pub inside_same : (m t s : ℤ) (a b : Point) (es : List Edge) → IsBalanced es → Each (ClearOf a b) es →
    pos 0 <ℤ t → t <ℤ m → pos 0 <ℤ s → s <ℤ m → winds m (part m t a b) es ≡ winds m (part m s a b) es
inside_same m t s a b es balanced clear tl th sl sh =
    by_lt_z t s
    (λ (h : t <ℤ s). ordered_same m t s a b es balanced clear tl h sh)
    (λ (h : s ≤ℤ t).
    by_lt_z s t
    (λ (k : s <ℤ t). sym (ordered_same m s t a b es balanced clear sl k th))
    (λ (k : t ≤ℤ s). ap (λ (z : ℤ). winds m (part m z a b) es) (omega (arith, ints))))
