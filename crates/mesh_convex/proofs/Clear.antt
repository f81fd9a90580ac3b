-- Lemmas over edges: those of a convex loop meet in common ends alone.
use Rattle.std.proofs.Common.{◌≡◌, ◌⊎◌, ⊎_elim, inl, inr, ℕ, zero, suc, ◌<◌, Bool, true, false, ◌||◌, ◌≤◌, List, [], ◌∷◌, length, refl, sym, ◌∙◌, ap, subst, arith}
use Rattle.std.specs.Prelude.{ℤ, pos, ◌<ℤ◌}
use Rattle.std.proofs.lemmas.Bool.{both_ways, cases_Bool}
use Rattle.std.proofs.lemmas.Int.{ints}
use Rattle.mesh_plane.specs.Plane.{Point, Edge, turn}
use Rattle.mesh_plane.proofs.PointExprs.{coordinates, point_var, turned}
use Rattle.mesh_plane.proofs.Ring.{ring, lit}
use Rattle.mesh_lattice.specs.Clean.{IsClean, IsProper}
use Rattle.mesh_lattice.specs.Split.{back, is_end, occurs, same_ends, AreClear, IsInside, at_start_of_second, at_end_of_second, at_start_of_first, at_end_of_first, at_crossing}
use Rattle.mesh_lattice.proofs.Ends.{decides_end, decides_ends}
use Rattle.mesh_rounds.proofs.Clean.{apart_of, share_of_apart}
use Rattle.mesh_rounds.proofs.Sharing.{ShareNoInside, apart_back, apart_swap}
use Rattle.mesh_convex.specs.Convex.{edge_at, start_at, IsConvexLoop}
use Rattle.mesh_convex.proofs.Turns.{cycled, less_or_same, twice}

-- an edge has a point to its left, or as one of its ends
abbrev pub IsLeftOrEnd : Edge → Point → Type 0
IsLeftOrEnd e z = (pos 0 <ℤ turn e.0 e.1 z) ⊎ (is_end z e ≡ true)

-- ---- turns of points that are the same

first_twice : (p r : Point) → turn p p r ≡ pos 0
first_twice p r = ring (coordinates (p ∷ r ∷ []) []) (turned (point_var 0) (point_var 0) (point_var 1)) (lit (pos 0)) refl

pub last_twice : (p r : Point) → turn p r r ≡ pos 0
last_twice p r = ring (coordinates (p ∷ r ∷ []) []) (turned (point_var 0) (point_var 1) (point_var 1)) (lit (pos 0)) refl

pub back_again : (p r : Point) → turn p r p ≡ pos 0
back_again p r = ring (coordinates (p ∷ r ∷ []) []) (turned (point_var 0) (point_var 1) (point_var 0)) (lit (pos 0)) refl

none_left : (t : ℤ) → t ≡ pos 0 → pos 0 <ℤ t → ⊥
none_left t e h = absurd (omega (arith, ints, e, h))

-- ---- two edges

not_inside : (e : Edge) (z : Point) → IsLeftOrEnd e z → IsInside e z → ⊥
not_inside e z beside inside =
    ⊎_elim (λ (h : pos 0 <ℤ turn e.0 e.1 z). none_left (turn e.0 e.1 z) inside.on_line h)
    (λ (h : is_end z e ≡ true). both_ways (is_end z e) inside.no_end h)
    beside

not_right : (e : Edge) (z : Point) → IsLeftOrEnd e z → turn e.0 e.1 z <ℤ pos 0 → ⊥
not_right e z beside right =
    ⊎_elim (λ (h : pos 0 <ℤ turn e.0 e.1 z). absurd (omega (arith, ints, h, right)))
    (λ (h : is_end z e ≡ true).
    let flat : turn e.0 e.1 z ≡ pos 0 =
    ⊎_elim (λ (s : z ≡ e.0). ap (turn e.0 e.1) s ∙ back_again e.0 e.1) (λ (s : z ≡ e.1). ap (turn e.0 e.1) s ∙ last_twice e.0 e.1)
    ((decides_end z e).0 h) in
    absurd (omega (arith, ints, flat, right)))
    beside

clear_of : (e f : Edge) → IsLeftOrEnd e f.0 → IsLeftOrEnd e f.1 → IsLeftOrEnd f e.0 → IsLeftOrEnd f e.1 → AreClear e f
clear_of e f a b c d z (at_start_of_second i) = not_inside e f.0 a i
clear_of e f a b c d z (at_end_of_second i) = not_inside e f.1 b i
clear_of e f a b c d z (at_start_of_first i) = not_inside f e.0 c i
clear_of e f a b c d z (at_end_of_first i) = not_inside f e.1 d i
clear_of e f a b c d z (at_crossing x) =
    ⊎_elim (λ (p : (pos 0 <ℤ turn e.0 e.1 f.0) × (turn e.0 e.1 f.1 <ℤ pos 0)). not_right e f.1 b p.1)
    (λ (p : (turn e.0 e.1 f.0 <ℤ pos 0) × (pos 0 <ℤ turn e.0 e.1 f.1)). not_right e f.0 a p.0)
    x.second_parted

-- ---- the edges of a loop

-- the place at which a point starts an edge
record IsStart (es : List Edge) (z : Point) : Type 0 where
  pub place : ℕ
  pub within : place < length es
  pub same : start_at es place ≡ z

end_starts : (es : List Edge) → IsConvexLoop es → (j : ℕ) → j < length es → IsStart es (edge_at es j).1
end_starts es c j h =
    ⊎_elim (λ (l : suc j < length es). record { place = suc j; within = l; same = sym (c.chained j l) })
    (λ (l : suc j ≡ length es). record { place = 0; within = omega (arith, h); same = sym (c.closed j l) })
    (less_or_same (suc j) (length es) (omega (arith, h)))

below_or : (a b : ℕ) → (a < b) ⊎ (b ≤ a)
below_or zero zero = inr (omega arith)
below_or zero (suc b) = inl (omega arith)
below_or (suc a) zero = inr (omega arith)
below_or (suc a) (suc b) = ⊎_elim (λ (h : a < b). inl (omega (arith, h))) (λ (h : b ≤ a). inr (omega (arith, h))) (below_or a b)

-- each edge has each start of an edge to its left, or as an end
pub start_left : (es : List Edge) → IsConvexLoop es → (i m : ℕ) → i < length es → m < length es → IsLeftOrEnd (edge_at es i) (start_at es m)
start_left es c i m hi hm =
    ⊎_elim (λ (l : suc i < length es). inner l) (λ (l : suc i ≡ length es). last l) (less_or_same (suc i) (length es) (omega (arith, hi)))
  where
    p : ℕ → Point
    p = start_at es

    own : m ≡ i → IsLeftOrEnd (edge_at es i) (p m)
    own s = inr ((decides_end (p m) (edge_at es i)).1 (inl (ap p s)))

    at_end : p m ≡ (edge_at es i).1 → IsLeftOrEnd (edge_at es i) (p m)
    at_end s = inr ((decides_end (p m) (edge_at es i)).1 (inr s))

    ended : (r : Point) → (edge_at es i).1 ≡ r → pos 0 <ℤ turn (p i) r (p m) → IsLeftOrEnd (edge_at es i) (p m)
    ended r s h = inl (subst (λ (q : Point). pos 0 <ℤ turn (p i) q (p m)) (sym s) h)

    inner : suc i < length es → IsLeftOrEnd (edge_at es i) (p m)
    inner l =
        ⊎_elim
        (λ (low : m < i). ended (p (suc i)) (c.chained i l) (cycled (p m) (p i) (p (suc i)) (c.left m i (suc i) low (omega arith) l)))
        (λ (high : i ≤ m).
        ⊎_elim
        (λ (more : i < m).
        ⊎_elim (λ (far : suc i < m). ended (p (suc i)) (c.chained i l) (c.left i (suc i) m (omega arith) far hm))
        (λ (next : suc i ≡ m). at_end (ap p (sym next) ∙ sym (c.chained i l)))
        (less_or_same (suc i) m (omega (arith, more))))
        (λ (s : i ≡ m). own (sym s))
        (less_or_same i m high))
        (below_or m i)

    last : suc i ≡ length es → IsLeftOrEnd (edge_at es i) (p m)
    last l =
        ⊎_elim
        (λ (some : 0 < m).
        ⊎_elim (λ (low : m < i). ended (p 0) (c.closed i l) (twice (p 0) (p m) (p i) (c.left 0 m i some low hi)))
        (λ (s : m ≡ i). own s)
        (less_or_same m i (omega (arith, hm, l))))
        (λ (none : 0 ≡ m). at_end (ap p (sym none) ∙ sym (c.closed i l)))
        (less_or_same 0 m (omega arith))

pub end_left : (es : List Edge) → IsConvexLoop es → (i j : ℕ) → i < length es → j < length es → IsLeftOrEnd (edge_at es i) (edge_at es j).1
end_left es c i j hi hj =
    let s = end_starts es c j hj in
    subst (IsLeftOrEnd (edge_at es i)) s.same (start_left es c i s.place hi s.within)

-- any two edges are clear of each other
pub loop_clear : (es : List Edge) → IsConvexLoop es → (i j : ℕ) → i < length es → j < length es → AreClear (edge_at es i) (edge_at es j)
loop_clear es c i j hi hj =
    clear_of (edge_at es i) (edge_at es j) (start_left es c i j hi hj) (end_left es c i j hi hj) (start_left es c j i hj hi) (end_left es c j i hj hi)

-- ---- the starts of edges differ

pub starts_differ : (es : List Edge) → IsConvexLoop es → (i j : ℕ) → i < j → j < length es → start_at es i ≡ start_at es j → ⊥
starts_differ es c i j low hj same =
    ⊎_elim
    (λ (l : suc j < length es).
    none_left (turn (p i) (p j) (p (suc j))) (ap (λ (z : Point). turn z (p j) (p (suc j))) same ∙ first_twice (p j) (p (suc j)))
    (c.left i j (suc j) low (omega arith) l))
    (λ (l : suc j ≡ length es).
    ⊎_elim
    (λ (some : 0 < i).
    none_left (turn (p 0) (p i) (p j)) (ap (λ (z : Point). turn (p 0) z (p j)) same ∙ last_twice (p 0) (p j)) (c.left 0 i j some low hj))
    (λ (none : 0 ≡ i).
    none_left (turn (p 0) (p 1) (p j)) (ap (λ (z : Point). turn z (p 1) (p j)) (ap p none ∙ same) ∙ back_again (p j) (p 1))
    (c.left 0 1 j (omega arith) (omega (arith, l, c.many)) hj))
    (less_or_same 0 i (omega arith)))
    (less_or_same (suc j) (length es) (omega (arith, hj)))
  where
    p : ℕ → Point
    p = start_at es

-- two edges do not have the same ends
pub edges_differ : (es : List Edge) → IsConvexLoop es → (i j : ℕ) → i < j → j < length es → same_ends (edge_at es i) (edge_at es j) ≡ true → ⊥
edges_differ es c i j low hj t =
    ⊎_elim (λ (s : edge_at es i ≡ edge_at es j). starts_differ es c i j low hj (ap (λ (e : Edge). e.0) s))
    (λ (s : edge_at es i ≡ back (edge_at es j)). turned_round (ap (λ (e : Edge). e.0) s) (ap (λ (e : Edge). e.1) s))
    ((decides_ends (edge_at es i) (edge_at es j)).0 t)
  where
    p : ℕ → Point
    p = start_at es

    turned_round : p i ≡ (edge_at es j).1 → (edge_at es i).1 ≡ p j → ⊥
    turned_round from to =
        ⊎_elim
        (λ (far : suc i < j). starts_differ es c (suc i) j far hj (sym (c.chained i (omega (arith, low, hj))) ∙ to))
        (λ (next : suc i ≡ j).
        ⊎_elim (λ (l : suc j < length es). starts_differ es c i (suc j) (omega (arith, low)) l (from ∙ c.chained j l))
        (λ (l : suc j ≡ length es).
        ⊎_elim (λ (some : 0 < i). starts_differ es c 0 i some (omega (arith, low, hj)) (sym (from ∙ c.closed j l)))
        (λ (none : 0 ≡ i). absurd (omega (arith, none, next, l, c.many)))
        (less_or_same 0 i (omega arith)))
        (less_or_same (suc j) (length es) (omega (arith, hj))))
        (less_or_same (suc i) j (omega (arith, low)))

-- ---- what stands in the list

pub record Stands (es : List Edge) (e : Edge) : Type 0 where
  pub place : ℕ
  pub within : place < length es
  pub same : same_ends e (edge_at es place) ≡ true

pub stands : (es : List Edge) (e : Edge) → occurs e es ≡ true → Stands es e
stands [] e h = absurd (both_ways false refl h)
stands (f ∷ es) e h =
    ⊎_elim (λ (t : same_ends e f ≡ true). record { place = 0; within = omega arith; same = t })
    (λ (n : same_ends e f ≡ false).
    let rest = stands es e (sym (ap (λ (b : Bool). b || occurs e es) n) ∙ h) in
    record { place = suc rest.place; within = omega (arith, rest.within); same = rest.same })
    (cases_Bool (same_ends e f))

turned_apart : (q e f : Edge) → same_ends q e ≡ true → ShareNoInside e f → ShareNoInside q f
turned_apart q e f t h =
    ⊎_elim (λ (m : q ≡ e). subst (λ (x : Edge). ShareNoInside x f) (sym m) h)
    (λ (m : q ≡ back e). subst (λ (x : Edge). ShareNoInside x f) (sym m) (apart_back e f h))
    ((decides_ends q e).0 t)

pub loop_clean : (es : List Edge) → IsConvexLoop es → IsProper es → IsClean es
loop_clean es c proper e f oe of other m some = share_of_apart m e f some (proper e oe) (proper f of) apart other
  where
    a : Stands es e
    a = stands es e oe

    b : Stands es f
    b = stands es f of

    apart : ShareNoInside e f
    apart =
        turned_apart e (edge_at es a.place) f a.same
        (apart_swap f (edge_at es a.place)
        (turned_apart f (edge_at es b.place) (edge_at es a.place) b.same
        (apart_of (edge_at es b.place) (edge_at es a.place) (loop_clear es c b.place a.place b.within a.within))))
