-- Lemmas over edges: how a convex loop winds beside its edges.
use Rattle.std.proofs.Common.{◌≡◌, ◌⊎◌, ⊎_elim, inl, inr, ℕ, zero, suc, ◌<◌, Bool, true, false, cond, ◌||◌, ◌&&◌, List, [], ◌∷◌, length, refl, sym, ◌∙◌, ap, arith}
use Rattle.std.specs.Prelude.{ℤ, pos, ◌<ℤ◌, ◌≤ℤ◌, ◌+ℤ◌, int_lt}
use Rattle.std.specs.List.{All}
use Rattle.std.specs.Ordering.{int_eq}
use Rattle.std.proofs.lemmas.Bool.Decides.{Decides-int_eq}
use Rattle.std.proofs.lemmas.Int.{ints}
use Rattle.std.proofs.lemmas.List.Elements.{All-cons, All-nil}
use Rattle.mesh_plane.specs.Plane.{Point, Edge}
use Rattle.mesh_plane.specs.Winding.{sum_of, IsBalanced}
use Rattle.mesh_plane.proofs.Balance.{growth, growth_of_balanced, growth_parts}
use Rattle.mesh_plane.proofs.Comparing.{less_test, not_less_test}
use Rattle.mesh_plane.proofs.Sums.{sum_of_add, sum_of_equal, sum_of_zero}
use Rattle.mesh_plane.proofs.Whole.{both_le}
use Rattle.mesh_lattice.specs.Boundary.{rises, winding_beside}
use Rattle.mesh_lattice.specs.Split.{back}
use Rattle.mesh_lattice.proofs.Ends.{decides_ends}
use Rattle.mesh_convex.specs.Convex.{edge_at, start_at, IsConvexLoop}
use Rattle.mesh_convex.proofs.Clear.{edges_differ, end_left, start_left, starts_differ}
use Rattle.mesh_convex.proofs.Crossings.{crossing_at, eastward_crossing, falling_crossing, le_or_lt, mark, marked, none_crosses, sunk, unmarked, AreOfLoop, CrossesAs}
use Rattle.mesh_convex.proofs.Turns.{less_or_same}

-- what holds at each place holds of all
pub all_at : (P : Edge → Type 0) (es : List Edge) → ((i : ℕ) → i < length es → P (edge_at es i)) → All P es
all_at P [] h = All-nil P
all_at P (e ∷ es) h = All-cons P e es (h 0 (omega arith)) (all_at P es (λ i l. h (suc i) (omega (arith, l))))

-- ---- two edges of a loop

by_order : (P : Type 0) (i j : ℕ) → (i < j → P) → (i ≡ j → P) → (j < i → P) → P
by_order P zero zero low same high = same refl
by_order P zero (suc j) low same high = low (omega arith)
by_order P (suc i) zero low same high = high (omega arith)
by_order P (suc i) (suc j) low same high =
    by_order P i j (λ (h : i < j). low (omega (arith, h))) (λ (e : i ≡ j). same (ap suc e)) (λ (h : j < i). high (omega (arith, h)))

ends_differ : (es : List Edge) → IsConvexLoop es → (i j : ℕ) → i < j → j < length es → (edge_at es i).1 ≡ (edge_at es j).1 → ⊥
ends_differ es c i j low hj same =
    let next = c.chained i (omega (arith, low, hj)) in
    ⊎_elim (λ (l : suc j < length es). starts_differ es c (suc i) (suc j) (omega (arith, low)) l (sym next ∙ (same ∙ c.chained j l)))
    (λ (l : suc j ≡ length es). starts_differ es c 0 (suc i) (omega arith) (omega (arith, low, hj)) (sym (c.closed j l) ∙ (sym same ∙ next)))
    (less_or_same (suc j) (length es) (omega (arith, hj)))

proper_at : (es : List Edge) → IsConvexLoop es → (k : ℕ) → k < length es → (edge_at es k).0 ≡ (edge_at es k).1 → ⊥
proper_at es c k h same =
    ⊎_elim (λ (l : suc k < length es). starts_differ es c k (suc k) (omega arith) l (same ∙ c.chained k l))
    (λ (l : suc k ≡ length es). starts_differ es c 0 k (omega (arith, l, c.many)) h (sym (same ∙ c.closed k l)))
    (less_or_same (suc k) (length es) (omega (arith, h)))

pub of_loop : (es : List Edge) → IsConvexLoop es → (k i : ℕ) → k < length es → i < length es → AreOfLoop (edge_at es k) (edge_at es i)
of_loop es c k i hk hi = record {
  start_beside = start_left es c k i hk hi;
  end_beside = end_left es c k i hk hi;
  own_start_beside = start_left es c i k hi hk;
  own_end_beside = end_left es c i k hi hk;
  not_back = turned;
  by_start = λ (s : f.0 ≡ e.0).
      by_order (f ≡ e) i k (λ (l : i < k). absurd (starts_differ es c i k l hk s)) (λ (same : i ≡ k). ap (edge_at es) same)
      (λ (l : k < i). absurd (starts_differ es c k i l hi (sym s)));
  by_end = λ (s : f.1 ≡ e.1).
      by_order (f ≡ e) i k (λ (l : i < k). absurd (ends_differ es c i k l hk s)) (λ (same : i ≡ k). ap (edge_at es) same)
      (λ (l : k < i). absurd (ends_differ es c k i l hi (sym s)));
  proper = proper_at es c k hk;
}
  where
    e : Edge
    e = edge_at es k

    f : Edge
    f = edge_at es i

    turned : f ≡ back e → ⊥
    turned s =
        by_order ⊥ i k (λ (l : i < k). edges_differ es c i k l hk ((decides_ends f e).1 (inr s)))
        (λ (same : i ≡ k). proper_at es c k hk (ap (λ (g : Edge). g.0) (sym (ap (edge_at es) same) ∙ s)))
        (λ (l : k < i). edges_differ es c k i l hi ((decides_ends e f).1 (inr (sym (ap back s)))))

-- ---- one edge of a loop starts at a point, and one ends there

none_marked : (p : Point) (es : List Edge) → ((i : ℕ) → i < length es → start_at es i ≡ p → ⊥) → sum_of (λ (f : Edge). mark p f.0) es ≡ pos 0
none_marked p es h = sum_of_zero (λ (f : Edge). mark p f.0) es (all_at (λ (f : Edge). mark p f.0 ≡ pos 0) es (λ i l. unmarked p (start_at es i) (h i l)))

abbrev StartApart : List Edge → Type 0
StartApart es = (i j : ℕ) → i < j → j < length es → start_at es i ≡ start_at es j → ⊥

one_starts : (es : List Edge) → StartApart es → (k : ℕ) → k < length es → sum_of (λ (f : Edge). mark (start_at es k) f.0) es ≡ pos 1
one_starts [] d k h = absurd (omega (arith, h))
one_starts (e ∷ es) d zero h = λ i. marked e.0 e.0 refl i +ℤ none_marked e.0 es (λ j l s. d 0 (suc j) (omega arith) (omega (arith, l)) (sym s)) i
one_starts (e ∷ es) d (suc k) h =
    λ i. unmarked (start_at es k) e.0 (λ s. d 0 (suc k) (omega arith) h s) i
    +ℤ one_starts es (λ a b low l. d (suc a) (suc b) (omega (arith, low)) (omega (arith, l))) k (omega (arith, h)) i

one_ends : (es : List Edge) → StartApart es → IsBalanced es → (k : ℕ) → k < length es → sum_of (λ (f : Edge). mark (start_at es k) f.1) es ≡ pos 1
one_ends es d balanced k h =
    let starts = one_starts es d k h in
    let none = growth_of_balanced es balanced (mark (start_at es k)) in
    let parts = growth_parts (mark (start_at es k)) es in
    omega (arith, ints, starts, none, parts)

-- ---- windings

-- where the crossings are what edges sink and the marks of one of them, the edges wind once
winds_once : (es : List Edge) (e : Edge) (m : Edge → ℤ) → IsBalanced es → All (λ (f : Edge). CrossesAs e f (m f)) es → sum_of m es ≡ pos 1 → winding_beside es e ≡ pos 1
winds_once es e m balanced each one =
    sum_of_equal (crossing_at e) (λ (f : Edge). growth (sunk e) f.0 f.1 +ℤ m f) es each
    ∙ (sum_of_add (λ (f : Edge). growth (sunk e) f.0 f.1) m es ∙ λ i. growth_of_balanced es balanced (sunk e) i +ℤ one i)

-- how an edge leads, and whether it rises
data Way (e : Edge) : Type 0 where
  rising : (e.0.1 <ℤ e.1.1) ⊎ ((e.0.1 ≡ e.1.1) × (e.1.0 <ℤ e.0.0)) → rises e ≡ true → Way e
  falling : e.1.1 <ℤ e.0.1 → rises e ≡ false → Way e
  eastward : e.0.1 ≡ e.1.1 → e.0.0 <ℤ e.1.0 → rises e ≡ false → Way e

not_equal : (a b : ℤ) → a <ℤ b → int_eq b a ≡ false
not_equal a b h = by (int_eq b a) (λ t. (Decides-int_eq b a).0 t)
  where
    by : (x : Bool) → (x ≡ true → b ≡ a) → x ≡ false
    by true f = absurd (let s = f refl in omega (arith, ints, h, s))
    by false f = refl

rises_up : (e : Edge) → e.0.1 <ℤ e.1.1 → rises e ≡ true
unfolding rises
rises_up e h = ap (λ (b : Bool). b || (int_eq e.0.1 e.1.1 && int_lt e.1.0 e.0.0)) (less_test e.0.1 e.1.1 h)

rises_west : (e : Edge) → e.0.1 ≡ e.1.1 → e.1.0 <ℤ e.0.0 → rises e ≡ true
unfolding rises
rises_west e level west =
    λ i. not_less_test e.0.1 e.1.1 (omega (arith, ints, level)) i || ((Decides-int_eq e.0.1 e.1.1).1 level i && less_test e.1.0 e.0.0 west i)

falls_down : (e : Edge) → e.1.1 <ℤ e.0.1 → rises e ≡ false
unfolding rises
falls_down e h = λ i. not_less_test e.0.1 e.1.1 (omega (arith, ints, h)) i || (not_equal e.1.1 e.0.1 h i && int_lt e.1.0 e.0.0)

falls_east : (e : Edge) → e.0.1 ≡ e.1.1 → e.0.0 <ℤ e.1.0 → rises e ≡ false
unfolding rises
falls_east e level east =
    λ i. not_less_test e.0.1 e.1.1 (omega (arith, ints, level)) i
    || ((Decides-int_eq e.0.1 e.1.1).1 level i && not_less_test e.1.0 e.0.0 (omega (arith, ints, east)) i)

way_of : (e : Edge) → (e.0 ≡ e.1 → ⊥) → Way e
way_of e proper =
    ⊎_elim
    (λ (low : e.1.1 ≤ℤ e.0.1).
    ⊎_elim
    (λ (high : e.0.1 ≤ℤ e.1.1).
    let level = both_le e.0.1 e.1.1 high low in
    ⊎_elim
    (λ (right : e.0.0 ≤ℤ e.1.0).
    ⊎_elim (λ (left : e.1.0 ≤ℤ e.0.0). absurd (proper (λ i. (both_le e.0.0 e.1.0 right left i, level i))))
    (λ (east : e.0.0 <ℤ e.1.0). eastward level east (falls_east e level east))
    (le_or_lt e.1.0 e.0.0))
    (λ (west : e.1.0 <ℤ e.0.0). rising (inr (level, west)) (rises_west e level west))
    (le_or_lt e.0.0 e.1.0))
    (λ (down : e.1.1 <ℤ e.0.1). falling down (falls_down e down))
    (le_or_lt e.0.1 e.1.1))
    (λ (up : e.0.1 <ℤ e.1.1). rising (inl up) (rises_up e up))
    (le_or_lt e.1.1 e.0.1)

-- to the east of an edge that rises a convex loop winds 0 times, and to the east of one that falls once
pub loop_beside : (es : List Edge) → IsConvexLoop es → IsBalanced es → (k : ℕ) → k < length es
    → winding_beside es (edge_at es k) ≡ cond (rises (edge_at es k)) (pos 0) (pos 1)
loop_beside es c balanced k h = by (way_of e (proper_at es c k h))
  where
    e : Edge
    e = edge_at es k

    at : Bool → ℤ
    at b = cond b (pos 0) (pos 1)

    by : Way e → winding_beside es e ≡ at (rises e)
    by (rising way t) =
        sum_of_zero (crossing_at e) es (all_at (λ (f : Edge). crossing_at e f ≡ pos 0) es (λ i l. none_crosses e (edge_at es i) (of_loop es c k i h l) way))
        ∙ sym (ap at t)
    by (falling down t) =
        winds_once es e (λ (f : Edge). mark e.0 f.0) balanced
        (all_at (λ (f : Edge). CrossesAs e f (mark e.0 f.0)) es (λ i l. falling_crossing e (edge_at es i) (of_loop es c k i h l) down))
        (one_starts es (starts_differ es c) k h)
        ∙ sym (ap at t)
    by (eastward level east t) =
        winds_once es e (λ (f : Edge). mark e.0 f.1) balanced
        (all_at (λ (f : Edge). CrossesAs e f (mark e.0 f.1)) es (λ i l. eastward_crossing e (edge_at es i) (of_loop es c k i h l) level east))
        (one_ends es (starts_differ es c) balanced k h)
        ∙ sym (ap at t)
