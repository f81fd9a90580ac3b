-- Lemmas over edges: how an edge of a convex loop crosses the ray to the east from the midpoint of another one.
use Rattle.std.proofs.Common.{◌≡◌, ◌⊎◌, ⊎_elim, Bool, true, cond, [], ◌∷◌, refl, sym, ◌∙◌, ap, subst, arith}
use Rattle.std.specs.Prelude.{ℤ, pos, negsuc, ◌<ℤ◌, ◌≤ℤ◌, ◌+ℤ◌, ◌-ℤ◌, ◌*ℤ◌, int_le}
use Rattle.std.proofs.lemmas.Int.{ints}
use Rattle.mesh_plane.specs.Plane.{Point, Edge, plus, turn}
use Rattle.mesh_plane.specs.Winding.{crossing_on, refined, same_point}
use Rattle.mesh_plane.proofs.Balance.{growth}
use Rattle.mesh_plane.proofs.Comparing.{at_most_test, decides_point, points_apart}
use Rattle.mesh_plane.proofs.Crossings.{crossing_low, crossing_high, crossing_up, crossing_down}
use Rattle.mesh_plane.proofs.PointExprs.{coordinates, point_var, scaled_point_expr, turned, PointExpr}
use Rattle.mesh_plane.proofs.Ring.{ring, lit, var, ◌⊕◌, ◌⊖◌, ◌⊗◌}
use Rattle.mesh_plane.proofs.Whole.{mul_nonneg, mul_nonpos_nonneg, mul_neg_pos, mul_pos_neg, mul_pos, mul_zero, zero_mul}
use Rattle.mesh_lattice.specs.Boundary.{middle}
use Rattle.mesh_lattice.specs.Split.{back, is_end}
use Rattle.mesh_lattice.proofs.Ends.{decides_end}
use Rattle.mesh_convex.proofs.Clear.{IsLeftOrEnd, back_again, last_twice}

-- two edges of a convex loop, or one of them twice
pub record AreOfLoop (e f : Edge) : Type 0 where
  pub start_beside : IsLeftOrEnd e f.0
  pub end_beside : IsLeftOrEnd e f.1
  pub own_start_beside : IsLeftOrEnd f e.0
  pub own_end_beside : IsLeftOrEnd f e.1
  pub not_back : f ≡ back e → ⊥
  pub by_start : f.0 ≡ e.0 → f ≡ e
  pub by_end : f.1 ≡ e.1 → f ≡ e
  pub proper : e.0 ≡ e.1 → ⊥

-- ---- turns

-- what is not to the right
pub not_negative : (e : Edge) (z : Point) → IsLeftOrEnd e z → pos 0 ≤ℤ turn e.0 e.1 z
not_negative e z beside =
    ⊎_elim (λ (h : pos 0 <ℤ turn e.0 e.1 z). omega (arith, ints, h))
    (λ (h : is_end z e ≡ true).
    let flat : turn e.0 e.1 z ≡ pos 0 =
    ⊎_elim (λ (s : z ≡ e.0). ap (turn e.0 e.1) s ∙ back_again e.0 e.1) (λ (s : z ≡ e.1). ap (turn e.0 e.1) s ∙ last_twice e.0 e.1)
    ((decides_end z e).0 h) in
    omega (arith, ints, flat))
    beside

-- what is on the line is an end
pub end_on_line : (e : Edge) (z : Point) → IsLeftOrEnd e z → turn e.0 e.1 z ≤ℤ pos 0 → (z ≡ e.0) ⊎ (z ≡ e.1)
end_on_line e z beside low =
    ⊎_elim (λ (h : pos 0 <ℤ turn e.0 e.1 z). absurd (omega (arith, ints, h, low))) (λ (h : is_end z e ≡ true). (decides_end z e).0 h) beside

sum_expr : PointExpr → PointExpr → PointExpr
sum_expr p q = (p.0 ⊕ q.0, p.1 ⊕ q.1)

-- the turns of two points from an edge, added
abbrev pub both_turns : Edge → Edge → ℤ
both_turns e f = turn f.0 f.1 e.0 +ℤ turn f.0 f.1 e.1

midpoint_turn : (a b c d : Point) → turn (refined 2 c) (refined 2 d) (plus a b) ≡ pos 2 *ℤ (turn c d a +ℤ turn c d b)
unfolding sum_expr
midpoint_turn a b c d =
    ring (coordinates (a ∷ b ∷ c ∷ d ∷ []) [])
    (turned (scaled_point_expr (lit (pos 2)) (point_var 2)) (scaled_point_expr (lit (pos 2)) (point_var 3)) (sum_expr (point_var 0) (point_var 1)))
    (lit (pos 2) ⊗ (turned (point_var 2) (point_var 3) (point_var 0) ⊕ turned (point_var 2) (point_var 3) (point_var 1))) refl

-- where the edge from `c` to `d` passes the height of the midpoint of that from `a` to `b`, seen from both
seen_from_both : (a b c d : Point) →
    (((pos 2 *ℤ d.1) -ℤ (a.1 +ℤ b.1)) *ℤ turn a b c) +ℤ (((a.1 +ℤ b.1) -ℤ (pos 2 *ℤ c.1)) *ℤ turn a b d) ≡ (a.1 -ℤ b.1) *ℤ (turn c d a +ℤ turn c d b)
seen_from_both a b c d =
    ring (coordinates (a ∷ b ∷ c ∷ d ∷ []) [])
    ((((lit (pos 2) ⊗ var 7) ⊖ (var 1 ⊕ var 3)) ⊗ turned (point_var 0) (point_var 1) (point_var 2))
    ⊕ (((var 1 ⊕ var 3) ⊖ (lit (pos 2) ⊗ var 5)) ⊗ turned (point_var 0) (point_var 1) (point_var 3)))
    ((var 1 ⊖ var 3) ⊗ (turned (point_var 2) (point_var 3) (point_var 0) ⊕ turned (point_var 2) (point_var 3) (point_var 1))) refl

-- ---- crossings by heights

abbrev pub crossing_at : Edge → Edge → ℤ
crossing_at e f = crossing_on 2 (middle e) f.0 f.1

-- the height of the midpoint of an edge, and those of a point on the same grid
abbrev pub height_of : Edge → ℤ
height_of e = e.0.1 +ℤ e.1.1

abbrev pub twice_as_high : Point → ℤ
twice_as_high p = pos 2 *ℤ p.1

-- the edge starts at most so high, and ends above
abbrev PassesUp : Edge → Edge → Type 0
PassesUp e f = (twice_as_high f.0 ≤ℤ height_of e) × (height_of e <ℤ twice_as_high f.1)

abbrev PassesDown : Edge → Edge → Type 0
PassesDown e f = (height_of e <ℤ twice_as_high f.0) × (twice_as_high f.1 ≤ℤ height_of e)

pub le_or_lt : (a b : ℤ) → (a ≤ℤ b) ⊎ (b <ℤ a)
le_or_lt a b = grind (arith, ints)

not_less : (a b : ℤ) → a ≤ℤ b → b <ℤ a → ⊥
not_less a b h k = absurd (omega (arith, ints, h, k))

-- by where an edge starts and ends: not above, from there up, down to there, or above
by_heights : (P : Type 0) (e f : Edge) → (twice_as_high f.0 ≤ℤ height_of e → twice_as_high f.1 ≤ℤ height_of e → P) → (PassesUp e f → P) → (PassesDown e f → P) →
    (height_of e <ℤ twice_as_high f.0 → height_of e <ℤ twice_as_high f.1 → P) → P
by_heights P e f low up down high =
    ⊎_elim
    (λ (a : twice_as_high f.0 ≤ℤ height_of e).
    ⊎_elim (λ (b : twice_as_high f.1 ≤ℤ height_of e). low a b) (λ (b : height_of e <ℤ twice_as_high f.1). up (a, b)) (le_or_lt (twice_as_high f.1) (height_of e)))
    (λ (a : height_of e <ℤ twice_as_high f.0).
    ⊎_elim (λ (b : twice_as_high f.1 ≤ℤ height_of e). down (a, b)) (λ (b : height_of e <ℤ twice_as_high f.1). high a b) (le_or_lt (twice_as_high f.1) (height_of e)))
    (le_or_lt (twice_as_high f.0) (height_of e))

both_not_negative : (e f : Edge) → AreOfLoop e f → pos 0 ≤ℤ both_turns e f
both_not_negative e f o =
    let a = not_negative f e.0 o.own_start_beside in
    let b = not_negative f e.1 o.own_end_beside in
    omega (arith, ints, a, b)

-- the turn of the midpoint
abbrev pub middle_turn : Edge → Edge → ℤ
middle_turn e f = turn (refined 2 f.0) (refined 2 f.1) (middle e)

middle_not_negative : (e f : Edge) → AreOfLoop e f → pos 0 ≤ℤ middle_turn e f
middle_not_negative e f o =
    let m = midpoint_turn e.0 e.1 f.0 f.1 in
    let b = both_not_negative e f o in
    omega (arith, ints, m, b)

-- the midpoint of an edge is never to the right of another, so no edge crosses downwards
never_down : (e f : Edge) → AreOfLoop e f → PassesDown e f → crossing_at e f ≡ pos 0
never_down e f o h =
    ⊎_elim (λ (k : (crossing_at e f ≡ negsuc 0) × (middle_turn e f <ℤ pos 0)). absurd (not_less (pos 0) (middle_turn e f) (middle_not_negative e f o) k.1))
    (λ (k : (crossing_at e f ≡ pos 0) × (pos 0 ≤ℤ middle_turn e f)). k.0)
    (crossing_down (twice_as_high f.0) (twice_as_high f.1) (height_of e) (middle_turn e f) h.0 h.1)

up_on_line : (e f : Edge) → both_turns e f ≤ℤ pos 0 → PassesUp e f → crossing_at e f ≡ pos 0
up_on_line e f flat h =
    ⊎_elim
    (λ (k : (crossing_at e f ≡ pos 1) × (pos 0 <ℤ middle_turn e f)).
    let m = midpoint_turn e.0 e.1 f.0 f.1 in
    let t = k.1 in
    absurd (omega (arith, ints, m, t, flat)))
    (λ (k : (crossing_at e f ≡ pos 0) × (middle_turn e f ≤ℤ pos 0)). k.0)
    (crossing_up (twice_as_high f.0) (twice_as_high f.1) (height_of e) (middle_turn e f) h.0 h.1)

up_beside : (e f : Edge) → pos 0 <ℤ both_turns e f → PassesUp e f → crossing_at e f ≡ pos 1
up_beside e f left h =
    ⊎_elim (λ (k : (crossing_at e f ≡ pos 1) × (pos 0 <ℤ middle_turn e f)). k.0)
    (λ (k : (crossing_at e f ≡ pos 0) × (middle_turn e f ≤ℤ pos 0)).
    let m = midpoint_turn e.0 e.1 f.0 f.1 in
    let t = k.1 in
    absurd (omega (arith, ints, m, t, left)))
    (crossing_up (twice_as_high f.0) (twice_as_high f.1) (height_of e) (middle_turn e f) h.0 h.1)

-- ---- an edge that rises: none crosses

sum_nonneg : (x y : ℤ) → pos 0 ≤ℤ x → pos 0 ≤ℤ y → pos 0 ≤ℤ (x +ℤ y)
sum_nonneg x y h k = omega (arith, ints)

difference_nonneg : (x y : ℤ) → x ≤ℤ y → pos 0 ≤ℤ (y -ℤ x)
difference_nonneg x y h = omega (arith, ints)

difference_pos : (x y : ℤ) → x <ℤ y → pos 0 <ℤ (y -ℤ x)
difference_pos x y h = omega (arith, ints)

difference_neg : (x y : ℤ) → x <ℤ y → (x -ℤ y) <ℤ pos 0
difference_neg x y h = omega (arith, ints)

less_nonneg : (x y : ℤ) → x <ℤ y → pos 0 ≤ℤ (y -ℤ x)
less_nonneg x y h = omega (arith, ints)

rising_flat : (e f : Edge) → AreOfLoop e f → e.0.1 <ℤ e.1.1 → PassesUp e f → both_turns e f ≤ℤ pos 0
rising_flat e f o rise h =
    ⊎_elim (λ (l : both_turns e f ≤ℤ pos 0). l)
    (λ (l : pos 0 <ℤ both_turns e f).
    let left =
    sum_nonneg (((twice_as_high f.1) -ℤ height_of e) *ℤ turn e.0 e.1 f.0) ((height_of e -ℤ twice_as_high f.0) *ℤ turn e.0 e.1 f.1)
    (mul_nonneg (twice_as_high f.1 -ℤ height_of e) (turn e.0 e.1 f.0) (less_nonneg (height_of e) (twice_as_high f.1) h.1) (not_negative e f.0 o.start_beside))
    (mul_nonneg (height_of e -ℤ twice_as_high f.0) (turn e.0 e.1 f.1) (difference_nonneg (twice_as_high f.0) (height_of e) h.0) (not_negative e f.1 o.end_beside)) in
    let right = mul_neg_pos (e.0.1 -ℤ e.1.1) (both_turns e f) (difference_neg e.0.1 e.1.1 rise) l in
    absurd (not_less (pos 0) ((e.0.1 -ℤ e.1.1) *ℤ both_turns e f) (subst (λ (n : ℤ). pos 0 ≤ℤ n) (seen_from_both e.0 e.1 f.0 f.1) left) right))
    (le_or_lt (both_turns e f) (pos 0))

-- a level edge to the west has nothing above
nothing_above : (e : Edge) (z : Point) → e.0.1 ≡ e.1.1 → e.1.0 <ℤ e.0.0 → IsLeftOrEnd e z → e.0.1 <ℤ z.1 → ⊥
nothing_above e z level west beside high =
    let product = mul_neg_pos (e.1.0 -ℤ e.0.0) (z.1 -ℤ e.0.1) (difference_neg e.1.0 e.0.0 west) (difference_pos e.0.1 z.1 high) in
    let none : e.1.1 -ℤ e.0.1 ≡ pos 0 = omega (arith, ints, level) in
    let rest = ap (λ (n : ℤ). n *ℤ (z.0 -ℤ e.0.0)) none ∙ zero_mul (z.0 -ℤ e.0.0) in
    let turn_left = not_negative e z beside in
    absurd (omega (arith, ints, product, rest, turn_left))

pub none_crosses : (e f : Edge) → AreOfLoop e f → (e.0.1 <ℤ e.1.1) ⊎ ((e.0.1 ≡ e.1.1) × (e.1.0 <ℤ e.0.0)) → crossing_at e f ≡ pos 0
none_crosses e f o rises =
    by_heights (crossing_at e f ≡ pos 0) e f
    (λ a b. crossing_low (twice_as_high f.0) (twice_as_high f.1) (height_of e) (middle_turn e f) a b)
    (λ (h : PassesUp e f).
    ⊎_elim (λ (up : e.0.1 <ℤ e.1.1). up_on_line e f (rising_flat e f o up h) h)
    (λ (level : (e.0.1 ≡ e.1.1) × (e.1.0 <ℤ e.0.0)).
    let same = level.0 in
    let above = h.1 in
    absurd (nothing_above e f.1 level.0 level.1 o.end_beside (omega (arith, ints, same, above))))
    rises)
    (λ (h : PassesDown e f). never_down e f o h)
    (λ a b. crossing_high (twice_as_high f.0) (twice_as_high f.1) (height_of e) (middle_turn e f) a b)

-- ---- how far edges sink below a height

-- below 0 where a point is at most as high as the midpoint
abbrev pub sunk : Edge → Point → ℤ
sunk e p = cond (int_le (twice_as_high p) (height_of e)) (negsuc 0) (pos 0)

-- 1 where two points are the same
abbrev pub mark : Point → Point → ℤ
mark p q = cond (same_point p q) (pos 1) (pos 0)

sunk_low : (e : Edge) (p : Point) → twice_as_high p ≤ℤ height_of e → sunk e p ≡ negsuc 0
sunk_low e p h = ap (λ (b : Bool). cond b (negsuc 0) (pos 0)) (at_most_test (twice_as_high p) (height_of e) h)

sunk_high : (e : Edge) (p : Point) → height_of e <ℤ twice_as_high p → sunk e p ≡ pos 0
sunk_high e p h = grind (arith, ints)

pub marked : (p q : Point) → q ≡ p → mark p q ≡ pos 1
marked p q s = ap (λ (b : Bool). cond b (pos 1) (pos 0)) ((decides_point p q).1 (sym s))

pub unmarked : (p q : Point) → (q ≡ p → ⊥) → mark p q ≡ pos 0
unmarked p q n = ap (λ (b : Bool). cond b (pos 1) (pos 0)) (points_apart p q (λ s. n (sym s)))

-- the crossing, as the growth and a mark
abbrev pub CrossesAs : Edge → Edge → ℤ → Type 0
CrossesAs e f m = crossing_at e f ≡ growth (sunk e) f.0 f.1 +ℤ m

crosses_as : (e f : Edge) (m x a b n : ℤ) → crossing_at e f ≡ x → sunk e f.0 ≡ a → sunk e f.1 ≡ b → m ≡ n → x ≡ (b -ℤ a) +ℤ n → CrossesAs e f m
crosses_as e f m x a b n is first second marks sum = is ∙ (sum ∙ λ i. (sym second i -ℤ sym first i) +ℤ sym marks i)

low_crossing : (e f : Edge) (m : ℤ) → twice_as_high f.0 ≤ℤ height_of e → twice_as_high f.1 ≤ℤ height_of e → m ≡ pos 0 → CrossesAs e f m
low_crossing e f m a b none =
    crosses_as e f m (pos 0) (negsuc 0) (negsuc 0) (pos 0) (crossing_low (twice_as_high f.0) (twice_as_high f.1) (height_of e) (middle_turn e f) a b)
    (sunk_low e f.0 a) (sunk_low e f.1 b) none refl

up_crossing : (e f : Edge) (m : ℤ) → PassesUp e f → pos 0 <ℤ both_turns e f → m ≡ pos 0 → CrossesAs e f m
up_crossing e f m h left none =
    crosses_as e f m (pos 1) (negsuc 0) (pos 0) (pos 0) (up_beside e f left h) (sunk_low e f.0 h.0) (sunk_high e f.1 h.1) none refl

down_crossing : (e f : Edge) (m : ℤ) → AreOfLoop e f → PassesDown e f → m ≡ pos 1 → CrossesAs e f m
down_crossing e f m o h one =
    crosses_as e f m (pos 0) (pos 0) (negsuc 0) (pos 1) (never_down e f o h) (sunk_high e f.0 h.0) (sunk_low e f.1 h.1) one refl

high_crossing : (e f : Edge) (m : ℤ) → height_of e <ℤ twice_as_high f.0 → height_of e <ℤ twice_as_high f.1 → m ≡ pos 0 → CrossesAs e f m
high_crossing e f m a b none =
    crosses_as e f m (pos 0) (pos 0) (pos 0) (pos 0) (crossing_high (twice_as_high f.0) (twice_as_high f.1) (height_of e) (middle_turn e f) a b)
    (sunk_high e f.0 a) (sunk_high e f.1 b) none refl

-- where both ends of an edge are on the line of another, they are its ends
ends_on_line : (e f : Edge) → AreOfLoop e f → both_turns e f ≤ℤ pos 0 → ((e.0 ≡ f.0) ⊎ (e.0 ≡ f.1)) × ((e.1 ≡ f.0) ⊎ (e.1 ≡ f.1))
ends_on_line e f o flat =
    let a = not_negative f e.0 o.own_start_beside in
    let b = not_negative f e.1 o.own_end_beside in (
      end_on_line f e.0 o.own_start_beside (omega (arith, ints, a, b, flat)),
      end_on_line f e.1 o.own_end_beside (omega (arith, ints, a, b, flat)),
    )

height_same : (p q : Point) → p ≡ q → p.1 ≡ q.1
height_same p q s = ap (λ (z : Point). z.1) s

-- ---- an edge that falls

falling_flat : (e f : Edge) → AreOfLoop e f → e.1.1 <ℤ e.0.1 → PassesDown e f → both_turns e f ≤ℤ pos 0
falling_flat e f o fall h =
    ⊎_elim (λ (l : both_turns e f ≤ℤ pos 0). l)
    (λ (l : pos 0 <ℤ both_turns e f).
    let first = mul_nonpos_nonneg (twice_as_high f.1 -ℤ height_of e) (turn e.0 e.1 f.0) (difference_nonpos (twice_as_high f.1) (height_of e) h.1) (not_negative e f.0 o.start_beside) in
    let second = mul_nonpos_nonneg (height_of e -ℤ twice_as_high f.0) (turn e.0 e.1 f.1) (less_nonpos (height_of e) (twice_as_high f.0) h.0) (not_negative e f.1 o.end_beside) in
    let right = mul_pos (e.0.1 -ℤ e.1.1) (both_turns e f) (difference_pos e.1.1 e.0.1 fall) l in
    absurd
    (not_less ((e.0.1 -ℤ e.1.1) *ℤ both_turns e f) (pos 0)
    (subst (λ (n : ℤ). n ≤ℤ pos 0) (seen_from_both e.0 e.1 f.0 f.1)
    (sum_nonpos (((twice_as_high f.1) -ℤ height_of e) *ℤ turn e.0 e.1 f.0) ((height_of e -ℤ twice_as_high f.0) *ℤ turn e.0 e.1 f.1) first second))
    right))
    (le_or_lt (both_turns e f) (pos 0))
  where
    sum_nonpos : (x y : ℤ) → x ≤ℤ pos 0 → y ≤ℤ pos 0 → (x +ℤ y) ≤ℤ pos 0
    sum_nonpos x y h k = omega (arith, ints)

    difference_nonpos : (x y : ℤ) → x ≤ℤ y → (x -ℤ y) ≤ℤ pos 0
    difference_nonpos x y h = omega (arith, ints)

    less_nonpos : (x y : ℤ) → x <ℤ y → (x -ℤ y) ≤ℤ pos 0
    less_nonpos x y h = omega (arith, ints)

-- the start of a falling edge is above its midpoint
start_high : (e : Edge) (p : Point) → e.1.1 <ℤ e.0.1 → p ≡ e.0 → height_of e <ℤ twice_as_high p
start_high e p fall s = let t = height_same p e.0 s in omega (arith, ints, fall, t)

end_low : (e : Edge) (p : Point) → e.1.1 <ℤ e.0.1 → p ≡ e.1 → twice_as_high p ≤ℤ height_of e
end_low e p fall s = let t = height_same p e.1 s in omega (arith, ints, fall, t)

-- of a falling edge just one crosses more than edges sink: itself
pub falling_crossing : (e f : Edge) → AreOfLoop e f → e.1.1 <ℤ e.0.1 → CrossesAs e f (mark e.0 f.0)
falling_crossing e f o fall =
    by_heights (CrossesAs e f (mark e.0 f.0)) e f
    (λ a b. low_crossing e f (mark e.0 f.0) a b (unmarked e.0 f.0 (low_apart a)))
    (λ (h : PassesUp e f). up_crossing e f (mark e.0 f.0) h (up_left h) (unmarked e.0 f.0 (low_apart h.0)))
    (λ (h : PassesDown e f). down_crossing e f (mark e.0 f.0) o h (marked e.0 f.0 (down_same h)))
    (λ a b. high_crossing e f (mark e.0 f.0) a b (unmarked e.0 f.0 (high_apart b)))
  where
    low_apart : twice_as_high f.0 ≤ℤ height_of e → f.0 ≡ e.0 → ⊥
    low_apart a s = not_less (twice_as_high f.0) (height_of e) a (start_high e f.0 fall s)

    high_apart : height_of e <ℤ twice_as_high f.1 → f.0 ≡ e.0 → ⊥
    high_apart b s = not_less (twice_as_high f.1) (height_of e) (end_low e f.1 fall (ap (λ (g : Edge). g.1) (o.by_start s))) b

    up_left : PassesUp e f → pos 0 <ℤ both_turns e f
    up_left h =
        ⊎_elim
        (λ (l : both_turns e f ≤ℤ pos 0).
        let ends = ends_on_line e f o l in
        absurd
        (⊎_elim (λ (s : e.0 ≡ f.0). low_apart h.0 (sym s))
        (λ (s : e.0 ≡ f.1).
        ⊎_elim (λ (t : e.1 ≡ f.0). o.not_back (λ i. (sym t i, sym s i)))
        (λ (t : e.1 ≡ f.1). not_less (twice_as_high f.1) (height_of e) (end_low e f.1 fall (sym t)) h.1)
        ends.1)
        ends.0))
        (λ (l : pos 0 <ℤ both_turns e f). l)
        (le_or_lt (both_turns e f) (pos 0))

    down_same : PassesDown e f → f.0 ≡ e.0
    down_same h =
        ⊎_elim (λ (s : e.0 ≡ f.0). sym s) (λ (s : e.0 ≡ f.1). absurd (not_less (twice_as_high f.1) (height_of e) h.1 (start_high e f.1 fall (sym s))))
        (ends_on_line e f o (falling_flat e f o fall h)).0

-- ---- a level edge to the east

not_below : (e : Edge) (z : Point) → e.0.1 ≡ e.1.1 → e.0.0 <ℤ e.1.0 → IsLeftOrEnd e z → e.0.1 ≤ℤ z.1
not_below e z level east beside =
    ⊎_elim (λ (h : e.0.1 ≤ℤ z.1). h)
    (λ (h : z.1 <ℤ e.0.1).
    let product = mul_pos_neg (e.1.0 -ℤ e.0.0) (z.1 -ℤ e.0.1) (difference_pos e.0.0 e.1.0 east) (difference_neg z.1 e.0.1 h) in
    let none : e.1.1 -ℤ e.0.1 ≡ pos 0 = omega (arith, ints, level) in
    let rest = ap (λ (n : ℤ). n *ℤ (z.0 -ℤ e.0.0)) none ∙ zero_mul (z.0 -ℤ e.0.0) in
    let turn_left = not_negative e z beside in
    absurd (omega (arith, ints, product, rest, turn_left)))
    (le_or_lt e.0.1 z.1)

on_level : (e : Edge) (z : Point) → e.0.1 ≡ e.1.1 → e.0.0 <ℤ e.1.0 → IsLeftOrEnd e z → twice_as_high z ≤ℤ height_of e → (z ≡ e.0) ⊎ (z ≡ e.1)
on_level e z level east beside low =
    let least = not_below e z level east beside in
    let same : z.1 -ℤ e.0.1 ≡ pos 0 = omega (arith, ints, level, low, least) in
    let first = ap (λ (n : ℤ). (e.1.0 -ℤ e.0.0) *ℤ n) same ∙ mul_zero (e.1.0 -ℤ e.0.0) in
    let none : e.1.1 -ℤ e.0.1 ≡ pos 0 = omega (arith, ints, level) in
    let second = ap (λ (n : ℤ). n *ℤ (z.0 -ℤ e.0.0)) none ∙ zero_mul (z.0 -ℤ e.0.0) in
    end_on_line e z beside (omega (arith, ints, first, second))

level_height : (e : Edge) (p : Point) → e.0.1 ≡ e.1.1 → p ≡ e.0 → twice_as_high p ≤ℤ height_of e
level_height e p level s = let t = height_same p e.0 s in omega (arith, ints, level, t)

level_height_end : (e : Edge) (p : Point) → e.0.1 ≡ e.1.1 → p ≡ e.1 → twice_as_high p ≤ℤ height_of e
level_height_end e p level s = let t = height_same p e.1 s in omega (arith, ints, level, t)

-- of a level edge to the east just one crosses more than edges sink: that which ends at its start
pub eastward_crossing : (e f : Edge) → AreOfLoop e f → e.0.1 ≡ e.1.1 → e.0.0 <ℤ e.1.0 → CrossesAs e f (mark e.0 f.1)
eastward_crossing e f o level east =
    by_heights (CrossesAs e f (mark e.0 f.1)) e f
    (λ a b. low_crossing e f (mark e.0 f.1) a b (unmarked e.0 f.1 (low_apart a)))
    (λ (h : PassesUp e f). up_crossing e f (mark e.0 f.1) h (up_left h) (unmarked e.0 f.1 (high_apart h.1)))
    (λ (h : PassesDown e f). down_crossing e f (mark e.0 f.1) o h (marked e.0 f.1 (down_same h)))
    (λ a b. high_crossing e f (mark e.0 f.1) a b (unmarked e.0 f.1 (high_apart b)))
  where
    low_apart : twice_as_high f.0 ≤ℤ height_of e → f.1 ≡ e.0 → ⊥
    low_apart a s =
        ⊎_elim (λ (t : f.0 ≡ e.0). o.proper (sym s ∙ ap (λ (g : Edge). g.1) (o.by_start t))) (λ (t : f.0 ≡ e.1). o.not_back (λ i. (t i, s i)))
        (on_level e f.0 level east o.start_beside a)

    high_apart : height_of e <ℤ twice_as_high f.1 → f.1 ≡ e.0 → ⊥
    high_apart b s = not_less (twice_as_high f.1) (height_of e) (level_height e f.1 level s) b

    up_left : PassesUp e f → pos 0 <ℤ both_turns e f
    up_left h =
        ⊎_elim
        (λ (l : both_turns e f ≤ℤ pos 0).
        let ends = ends_on_line e f o l in
        absurd
        (⊎_elim
        (λ (s : e.0 ≡ f.0).
        ⊎_elim (λ (t : e.1 ≡ f.0). o.proper (s ∙ sym t))
        (λ (t : e.1 ≡ f.1). not_less (twice_as_high f.1) (height_of e) (level_height_end e f.1 level (sym t)) h.1)
        ends.1)
        (λ (s : e.0 ≡ f.1). high_apart h.1 (sym s))
        ends.0))
        (λ (l : pos 0 <ℤ both_turns e f). l)
        (le_or_lt (both_turns e f) (pos 0))

    down_same : PassesDown e f → f.1 ≡ e.0
    down_same h =
        ⊎_elim (λ (s : f.1 ≡ e.0). s)
        (λ (s : f.1 ≡ e.1). absurd (not_less (twice_as_high f.0) (height_of e) (level_height e f.0 level (ap (λ (g : Edge). g.0) (o.by_end s))) h.0))
        (on_level e f.1 level east o.end_beside h.1)
