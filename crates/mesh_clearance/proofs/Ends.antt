-- Lemmas over points: how far a point is from an edge: from an end of it, or from its line.
use Rattle.std.proofs.Common.{◌≡◌, ℕ, ◌*◌, ◌<◌, ◌≤◌, refl, sym, ◌∙◌, ap, subst, arith, [], ◌∷◌}
use Rattle.std.specs.Prelude.{ℤ, pos, neg_ℤ, ◌+ℤ◌, ◌-ℤ◌, ◌*ℤ◌, ◌≤ℤ◌, ◌<ℤ◌}
use Rattle.std.proofs.lemmas.Int.{ints, by_lt_z}
use Rattle.mesh_plane.specs.Plane.{Point, Edge, minus, dot, cross, length_sq}
use Rattle.mesh_plane.specs.Winding.{refined}
use Rattle.mesh_plane.proofs.Ring.{ring, var, lit, neg, ◌⊕◌, ◌⊖◌, ◌⊗◌, dot_of, cross_of}
use Rattle.mesh_plane.proofs.PointExprs.{coordinates}
use Rattle.mesh_plane.proofs.Sizes.{dot_self}
use Rattle.mesh_plane.proofs.Whole.{linear, le_of_mul_le_mul, mul_le_mul_left}
use Rattle.mesh_lattice.specs.Clean.{IsOn, refined_edge}
use Rattle.mesh_lattice.proofs.Boxes.{turn_start, turn_end, start_box, end_box}
use Rattle.mesh_clearance.specs.Clearance.{AreApart}
use Rattle.mesh_clearance.proofs.CommonPoints.{weighted, weighed}
use Rattle.mesh_clearance.proofs.Measures.{IsParting, apart_of_measure}
use Rattle.mesh_clearance.proofs.Symmetries.{apart_none}

-- ---- what lies so far from each point of an edge

pub start_on : (e : Edge) → IsOn e e.0
start_on e = record { on_line = turn_start e.0 e.1; in_box = start_box e }

pub end_on : (e : Edge) → IsOn e e.1
end_on e = record { on_line = turn_end e.0 e.1; in_box = end_box e }

far_at : (t : ℕ) (p : Point) (e : Edge) → AreApart t (p, p) e → (m : ℕ) (z : Point) → IsOn (refined_edge m e) z →
    pos (t * (m * m)) ≤ℤ dot (minus (refined m p) z) (minus (refined m p) z)
far_at t p e h m z on = let l = h m (refined m p) z (start_on (refined m p, refined m p)) on in let s = dot_self (minus (refined m p) z) in omega (arith, ints)

once : (p a : Point) → dot (minus (refined 1 p) (refined 1 a)) (minus (refined 1 p) (refined 1 a)) ≡ dot (minus p a) (minus p a)
once p a =
    ring (coordinates (p ∷ a ∷ []) [])
    (dot_of ((lit (pos 1) ⊗ var 0) ⊖ (lit (pos 1) ⊗ var 2)) ((lit (pos 1) ⊗ var 1) ⊖ (lit (pos 1) ⊗ var 3)) ((lit (pos 1) ⊗ var 0) ⊖ (lit (pos 1) ⊗ var 2)) ((lit (pos 1) ⊗ var 1) ⊖ (lit (pos 1) ⊗ var 3)))
    (dot_of (var 0 ⊖ var 2) (var 1 ⊖ var 3) (var 0 ⊖ var 2) (var 1 ⊖ var 3))
    refl

pub far_from_start : (t : ℕ) (p : Point) (e : Edge) → AreApart t (p, p) e → pos t ≤ℤ dot (minus p e.0) (minus p e.0)
far_from_start t p e h = let l = far_at t p e h 1 (refined 1 e.0) (start_on (refined_edge 1 e)) in let s = once p e.0 in omega (arith, ints, l, s)

pub far_from_end : (t : ℕ) (p : Point) (e : Edge) → AreApart t (p, p) e → pos t ≤ℤ dot (minus p e.1) (minus p e.1)
far_from_end t p e h = let l = far_at t p e h 1 (refined 1 e.1) (end_on (refined_edge 1 e)) in let s = once p e.1 in omega (arith, ints, l, s)

-- the way from the foot of the point on the line, times the squared length
foot_way : (l s : ℤ) (p a b : Point) →
    dot (minus (l *ℤ p.0, l *ℤ p.1) (weighted (l -ℤ s) s a b)) (minus (l *ℤ p.0, l *ℤ p.1) (weighted (l -ℤ s) s a b))
    ≡ dot ((l *ℤ (p.0 -ℤ a.0)) -ℤ (s *ℤ (b.0 -ℤ a.0)), (l *ℤ (p.1 -ℤ a.1)) -ℤ (s *ℤ (b.1 -ℤ a.1))) ((l *ℤ (p.0 -ℤ a.0)) -ℤ (s *ℤ (b.0 -ℤ a.0)), (l *ℤ (p.1 -ℤ a.1)) -ℤ (s *ℤ (b.1 -ℤ a.1)))
foot_way l s p a b = λ i. (one p.0 a.0 b.0 i *ℤ one p.0 a.0 b.0 i) +ℤ (one p.1 a.1 b.1 i *ℤ one p.1 a.1 b.1 i)
  where
    one : (x y z : ℤ) → (l *ℤ x) -ℤ (((l -ℤ s) *ℤ y) +ℤ (s *ℤ z)) ≡ (l *ℤ (x -ℤ y)) -ℤ (s *ℤ (z -ℤ y))
    one x y z =
        ring (l ∷ s ∷ x ∷ y ∷ z ∷ []) ((var 0 ⊗ var 2) ⊖ (((var 0 ⊖ var 1) ⊗ var 3) ⊕ (var 1 ⊗ var 4))) ((var 0 ⊗ (var 2 ⊖ var 3)) ⊖ (var 1 ⊗ (var 4 ⊖ var 3))) refl

foot_length : (v u : Point) →
    dot ((dot v v *ℤ u.0) -ℤ (dot v u *ℤ v.0), (dot v v *ℤ u.1) -ℤ (dot v u *ℤ v.1)) ((dot v v *ℤ u.0) -ℤ (dot v u *ℤ v.0), (dot v v *ℤ u.1) -ℤ (dot v u *ℤ v.1))
    ≡ dot v v *ℤ (cross v u *ℤ cross v u)
foot_length v u =
    let l = dot_of (var 0) (var 1) (var 0) (var 1) in
    let s = dot_of (var 0) (var 1) (var 2) (var 3) in
    let x = (l ⊗ var 2) ⊖ (s ⊗ var 0) in
    let y = (l ⊗ var 3) ⊖ (s ⊗ var 1) in
    ring (v.0 ∷ v.1 ∷ u.0 ∷ u.1 ∷ []) (dot_of x y x y) (l ⊗ (cross_of (var 0) (var 1) (var 2) (var 3) ⊗ cross_of (var 0) (var 1) (var 2) (var 3))) refl

-- a point whose foot lies on the edge is that far from the line
pub far_from_line : (t : ℕ) (p : Point) (e : Edge) → AreApart t (p, p) e → pos 0 <ℤ dot (minus e.1 e.0) (minus e.1 e.0) →
    pos 0 ≤ℤ dot (minus e.1 e.0) (minus p e.0) → dot (minus e.1 e.0) (minus p e.0) ≤ℤ dot (minus e.1 e.0) (minus e.1 e.0) →
    (pos t *ℤ dot (minus e.1 e.0) (minus e.1 e.0)) ≤ℤ (cross (minus e.1 e.0) (minus p e.0) *ℤ cross (minus e.1 e.0) (minus p e.0))
far_from_line t p e h some after before =
    le_of_mul_le_mul l (pos t *ℤ l) (x *ℤ x) some
    (omega (arith, linear, left, far_at t p e h n (weighted (pos n -ℤ s) s e.0 e.1) (weighed n (pos n -ℤ s) s e.0 e.1 (omega (arith, linear, length)) after (omega (arith, ints, length)) (omega (arith, linear))), foot_way (pos n) s p e.0 e.1, right))
  where
    v : Point
    v = minus e.1 e.0

    u : Point
    u = minus p e.0

    l : ℤ
    l = dot v v

    s : ℤ
    s = dot v u

    x : ℤ
    x = cross v u

    n : ℕ
    n = length_sq v

    length : l ≡ pos n
    length = dot_self v

    left : l *ℤ (pos t *ℤ l) ≡ pos (t * (n * n))
    left = ring (l ∷ pos t ∷ []) (var 0 ⊗ (var 1 ⊗ var 0)) (var 1 ⊗ (var 0 ⊗ var 0)) refl ∙ ap (λ (k : ℤ). pos t *ℤ (k *ℤ k)) length

    right : dot ((pos n *ℤ u.0) -ℤ (s *ℤ v.0), (pos n *ℤ u.1) -ℤ (s *ℤ v.1)) ((pos n *ℤ u.0) -ℤ (s *ℤ v.0), (pos n *ℤ u.1) -ℤ (s *ℤ v.1)) ≡ l *ℤ (x *ℤ x)
    right =
        ap (λ (k : ℤ). dot ((k *ℤ u.0) -ℤ (s *ℤ v.0), (k *ℤ u.1) -ℤ (s *ℤ v.1)) ((k *ℤ u.0) -ℤ (s *ℤ v.0), (k *ℤ u.1) -ℤ (s *ℤ v.1))) (sym length)
        ∙ foot_length v u

-- ---- measures that part two edges

-- the way from one edge to the other, where both lie beyond its ends
pub apart_of_way : (t : ℕ) (n : Point) (e f : Edge) → pos t ≤ℤ dot n n → IsParting n (dot n n) e f → AreApart t e f
apart_of_way t n e f far parting =
    by_lt_z (pos 0) (dot n n)
    (λ (some : pos 0 <ℤ dot n n).
    apart_of_measure t n (dot n n) e f (omega (arith, linear)) some
    (omega (arith, linear, mul_le_mul_left (dot n n) (pos t) (dot n n) (omega (arith, linear)) far, ring (dot n n ∷ pos t ∷ []) (var 1 ⊗ var 0) (var 0 ⊗ var 1) refl)) parting)
    (λ (none : dot n n ≤ℤ pos 0). apart_none t e f (omega (arith, ints)))

-- the sides of an edge's line
abbrev pub left_of : Point → Point
left_of v = (neg_ℤ v.1, v.0)

abbrev pub right_of : Point → Point
right_of v = (v.1, neg_ℤ v.0)

pub left_length : (v : Point) → dot (left_of v) (left_of v) ≡ dot v v
left_length v = ring (v.0 ∷ v.1 ∷ []) (dot_of (neg (var 1)) (var 0) (neg (var 1)) (var 0)) (dot_of (var 0) (var 1) (var 0) (var 1)) refl

pub left_measure : (v z : Point) → dot (left_of v) z ≡ cross v z
left_measure v z = ring (v.0 ∷ v.1 ∷ z.0 ∷ z.1 ∷ []) (dot_of (neg (var 1)) (var 0) (var 2) (var 3)) (cross_of (var 0) (var 1) (var 2) (var 3)) refl

pub apart_by_left : (t : ℕ) (v : Point) (k : ℤ) (e f : Edge) → pos 0 ≤ℤ k → pos 0 <ℤ dot v v → (pos t *ℤ dot v v) ≤ℤ (k *ℤ k) →
    k ≤ℤ cross v (minus f.0 e.0) → k ≤ℤ cross v (minus f.0 e.1) → k ≤ℤ cross v (minus f.1 e.0) → k ≤ℤ cross v (minus f.1 e.1) → AreApart t e f
apart_by_left t v k e f least some far a b c d =
    apart_of_measure t (left_of v) k e f least (subst (λ (x : ℤ). pos 0 <ℤ x) (sym (left_length v)) some)
    (subst (λ (x : ℤ). (pos t *ℤ x) ≤ℤ (k *ℤ k)) (sym (left_length v)) far) (record {
      start_start = subst (λ (x : ℤ). k ≤ℤ x) (sym (left_measure v (minus f.0 e.0))) a;
      end_start = subst (λ (x : ℤ). k ≤ℤ x) (sym (left_measure v (minus f.0 e.1))) b;
      start_end = subst (λ (x : ℤ). k ≤ℤ x) (sym (left_measure v (minus f.1 e.0))) c;
      end_end = subst (λ (x : ℤ). k ≤ℤ x) (sym (left_measure v (minus f.1 e.1))) d;
    })
