-- Lemmas over points: the squared distance of a point from an edge.
use Rattle.std.proofs.Common.{◌≡◌, ℕ, ◌+◌, ◌-◌, ◌*◌, ◌<◌, ◌≤◌, ◌⊎◌, inl, inr, refl, sym, ◌∙◌, ap, subst, arith, List, [], ◌∷◌, suc}
use Rattle.std.specs.Prelude.{ℤ, pos, neg_ℤ, ◌+ℤ◌, ◌-ℤ◌, ◌*ℤ◌, ◌≤ℤ◌, ◌<ℤ◌, unsigned_abs, min}
use Rattle.std.proofs.lemmas.Int.{ints, by_lt_z}
use Rattle.mesh_plane.specs.Plane.{Point, Edge, minus, dot, cross}
use Rattle.mesh_plane.proofs.Identities.{lagrange}
use Rattle.mesh_plane.proofs.PointExprs.{PointExpr, coordinates, point_var, apart, crossed}
use Rattle.mesh_plane.proofs.Ring.{Expr, ring, var, lit, neg, ◌⊕◌, ◌⊖◌, ◌⊗◌}
use Rattle.mesh_plane.proofs.Sizes.{size_square}
use Rattle.mesh_plane.proofs.Whole.{linear, mul_le_mul_left, square_nonneg}
use Rattle.mesh_lattice.specs.Clean.{IsOn, refined_edge}
use Rattle.mesh_lattice.specs.Split.{back, IsCrossing}
use Rattle.mesh_clearance.specs.Clearance.{AreApart, IsSeparation}
use Rattle.mesh_clearance.proofs.Ends.{apart_by_left, apart_of_way, far_from_start, far_from_line, start_on, end_on}
use Rattle.mesh_clearance.proofs.EndsApart.{AreEndsApart, apart_of_ends, crossing_not_apart}
use Rattle.mesh_clearance.proofs.Symmetries.{apart_back, apart_less, apart_none, apart_swapped}

abbrev dotted : PointExpr → PointExpr → Expr
dotted v w = (v.0 ⊗ w.0) ⊕ (v.1 ⊗ w.1)

abbrev a' : PointExpr
a' = point_var 0

abbrev b' : PointExpr
b' = point_var 1

abbrev p' : PointExpr
p' = point_var 2

abbrev ends : Point → Point → Point → List ℤ
ends a b p = coordinates (a ∷ b ∷ p ∷ []) []

-- the start is nearest
pub start_separation : (p : Point) (e : Edge) (n : ℕ) → dot (minus e.1 e.0) (minus p e.0) ≤ℤ pos 0 → pos n ≡ dot (minus p e.0) (minus p e.0) → IsSeparation (p, p) e n
start_separation p e n before size =
    let a = e.0 in
    let b = e.1 in
    record {
      apart =
          apart_of_way n (minus a p) (p, p) e
          (omega (arith, linear, size, ring (ends a b p) (dotted (apart p' a') (apart p' a')) (dotted (apart a' p') (apart a' p')) refl)) (record {
            start_start = omega (arith, linear);
            end_start = omega (arith, linear);
            start_end = beside;
            end_end = beside;
          });
      greatest = λ (h : AreApart (suc n) (p, p) e). let l = far_from_start (suc n) p e h in omega (arith, ints, size, l);
    }
  where
    beside : dot (minus e.0 p) (minus e.0 p) ≤ℤ dot (minus e.0 p) (minus e.1 p)
    beside =
        omega (arith, linear, before, ring (ends e.0 e.1 p) (dotted (apart a' p') (apart b' p')) (dotted (apart a' p') (apart a' p') ⊖ dotted (apart b' a') (apart p' a')) refl)

-- numbers of a point beside an edge: its squared distance from the start, the square of the way to its foot by the
-- edge's squared length, rounded up, and the rest of them
record IsFoot (far r : ℕ) (l s x : ℤ) : Type 0 where
  less : r ≤ far
  low : (pos (far - r) *ℤ l) ≤ℤ (x *ℤ x)
  high : (x *ℤ x) <ℤ (pos (suc (far - r)) *ℤ l)

foot_of : (far r : ℕ) (l s x : ℤ) → pos 0 <ℤ l → (s *ℤ s) +ℤ (x *ℤ x) ≡ l *ℤ pos far → (s *ℤ s) ≤ℤ (pos r *ℤ l) → (pos r *ℤ l) <ℤ ((s *ℤ s) +ℤ l) → IsFoot far r l s x
foot_of far r l s x some sum least most = record {
  less = less;
  low = omega (arith, linear, rest, sum, least);
  high = omega (arith, linear, more, rest, sum, most);
}
  where
    turned : l *ℤ pos r ≡ pos r *ℤ l
    turned = ring (l ∷ pos r ∷ []) (var 0 ⊗ var 1) (var 1 ⊗ var 0) refl

    less : r ≤ far
    less =
        by_lt_z (pos far) (pos r)
        (λ (h : pos far <ℤ pos r).
        let grown = mul_le_mul_left l (pos far +ℤ pos 1) (pos r) (omega (arith, linear)) (omega (arith, ints)) in
        let parts : l *ℤ (pos far +ℤ pos 1) ≡ (l *ℤ pos far) +ℤ l = ring (l ∷ pos far ∷ []) (var 0 ⊗ (var 1 ⊕ lit (pos 1))) ((var 0 ⊗ var 1) ⊕ var 0) refl in
        absurd (omega (arith, linear, grown, parts, turned, sum, most, square_nonneg x)))
        (λ (h : pos r ≤ℤ pos far). omega (arith, ints))

    difference : pos (far - r) ≡ pos far -ℤ pos r
    difference = omega (arith, ints, less)

    rest : pos (far - r) *ℤ l ≡ (l *ℤ pos far) -ℤ (pos r *ℤ l)
    rest = ap (λ (k : ℤ). k *ℤ l) difference ∙ ring (pos far ∷ pos r ∷ l ∷ []) ((var 0 ⊖ var 1) ⊗ var 2) ((var 2 ⊗ var 0) ⊖ (var 1 ⊗ var 2)) refl

    more : pos (suc (far - r)) *ℤ l ≡ (pos (far - r) *ℤ l) +ℤ l
    more =
        let one : pos (suc (far - r)) ≡ pos (far - r) +ℤ pos 1 = omega (arith, ints) in
        ap (λ (k : ℤ). k *ℤ l) one ∙ ring (pos (far - r) ∷ l ∷ []) ((var 0 ⊕ lit (pos 1)) ⊗ var 1) ((var 0 ⊗ var 1) ⊕ var 1) refl

foot_known : (p : Point) (e : Edge) (far along length r : ℕ) → pos 0 <ℤ dot (minus e.1 e.0) (minus p e.0) →
    pos far ≡ dot (minus p e.0) (minus p e.0) → along ≡ unsigned_abs (dot (minus e.1 e.0) (minus p e.0)) → pos length ≡ dot (minus e.1 e.0) (minus e.1 e.0) →
    pos 0 <ℤ dot (minus e.1 e.0) (minus e.1 e.0) →
    along * along ≤ r * length → r * length < along * along + length →
    IsFoot far r (dot (minus e.1 e.0) (minus e.1 e.0)) (dot (minus e.1 e.0) (minus p e.0)) (cross (minus e.1 e.0) (minus p e.0))
foot_known p e far along length r after size part whole some least most =
    foot_of far r l s x some (lagrange v u ∙ ap (λ (k : ℤ). l *ℤ k) (sym size)) (omega (arith, ints, square, product, least)) (omega (arith, ints, square, product, whole, most))
  where
    v : Point
    v = minus e.1 e.0

    u : Point
    u = minus p e.0

    l : ℤ
    l = dot v v

    s : ℤ
    s = dot v u

    x : ℤ
    x = cross v u

    square : s *ℤ s ≡ pos (along * along)
    square = size_square s ∙ ap (λ (k : ℕ). pos (k * k)) (sym part)

    product : pos r *ℤ l ≡ pos (r * length)
    product = ap (λ (k : ℤ). pos r *ℤ k) (sym whole)

-- the foot is nearest
pub foot_separation : (p : Point) (e : Edge) (far along length r : ℕ) → pos 0 <ℤ dot (minus e.1 e.0) (minus p e.0) →
    (dot (minus e.1 e.0) (minus p e.0) +ℤ dot (minus e.1 e.0) (minus p e.0)) ≤ℤ dot (minus e.1 e.0) (minus e.1 e.0) →
    pos far ≡ dot (minus p e.0) (minus p e.0) → along ≡ unsigned_abs (dot (minus e.1 e.0) (minus p e.0)) → pos length ≡ dot (minus e.1 e.0) (minus e.1 e.0) →
    along * along ≤ r * length → r * length < along * along + length →
    (r ≤ far) × IsSeparation (p, p) e (far - r)
foot_separation p e far along length r after half size part whole least most = (known.less, record { apart = far_enough; greatest = not_farther })
  where
    a : Point
    a = e.0

    b : Point
    b = e.1

    v : Point
    v = minus e.1 e.0

    x : ℤ
    x = cross v (minus p e.0)

    some : pos 0 <ℤ dot v v
    some = omega (arith, linear, after, half)

    known : IsFoot far r (dot v v) (dot v (minus p e.0)) x
    known = foot_known p e far along length r after size part whole some least most

    far_enough : AreApart (far - r) (p, p) e
    far_enough =
        by_lt_z x (pos 0)
        (λ (right : x <ℤ pos 0).
        apart_by_left (far - r) v (neg_ℤ x) (p, p) e (omega (arith, linear)) some
        (let low = known.low in omega (arith, linear, low, ring (x ∷ []) (neg (var 0) ⊗ neg (var 0)) (var 0 ⊗ var 0) refl))
        (omega (arith, linear, to_a)) (omega (arith, linear, to_a)) (omega (arith, linear, to_b)) (omega (arith, linear, to_b)))
        (λ (left : pos 0 ≤ℤ x).
        apart_swapped (far - r) e (p, p)
        (apart_by_left (far - r) v x e (p, p) left some known.low
        (omega (arith, linear)) (omega (arith, linear, from_b)) (omega (arith, linear)) (omega (arith, linear, from_b))))
      where
        to_a : cross v (minus a p) ≡ neg_ℤ x
        to_a = ring (ends a b p) (crossed (apart b' a') (apart a' p')) (neg (crossed (apart b' a') (apart p' a'))) refl

        to_b : cross v (minus b p) ≡ neg_ℤ x
        to_b = ring (ends a b p) (crossed (apart b' a') (apart b' p')) (neg (crossed (apart b' a') (apart p' a'))) refl

        from_b : cross v (minus p b) ≡ x
        from_b = ring (ends a b p) (crossed (apart b' a') (apart p' b')) (crossed (apart b' a') (apart p' a')) refl

    not_farther : AreApart (suc (far - r)) (p, p) e → ⊥
    not_farther h =
        let l = far_from_line (suc (far - r)) p e h some (omega (arith, linear, after)) (omega (arith, linear, after, half)) in
        let high = known.high in
        omega (arith, linear, l, high)

-- an edge and the edge the other way are as far
pub separation_back : (p : Point) (e : Edge) (t : ℕ) → IsSeparation (p, p) (back e) t → IsSeparation (p, p) e t
separation_back p e t h = record {
  apart = turned t e h.apart;
  greatest = λ (k : AreApart (suc t) (p, p) e). h.greatest (turned (suc t) (back e) k);
}
  where
    turned : (s : ℕ) (f : Edge) → AreApart s (p, p) (back f) → AreApart s (p, p) f
    turned s f k = apart_swapped s f (p, p) (apart_back s f (p, p) (apart_swapped s (p, p) (back f) k))

pub less_or_same : {a b : ℤ} → a <ℤ b → a ≤ℤ b
less_or_same {a} {b} h = omega (arith, linear)

-- a foot that is not nearer to the end
pub half_way : (p : Point) (e : Edge) → dot (minus e.1 e.0) (minus p e.0) ≤ℤ dot (minus e.0 e.1) (minus p e.1) →
    (dot (minus e.1 e.0) (minus p e.0) +ℤ dot (minus e.1 e.0) (minus p e.0)) ≤ℤ dot (minus e.1 e.0) (minus e.1 e.0)
half_way p e h =
    omega (
      arith,
      linear,
      h,
      ring (ends e.0 e.1 p) (dotted (apart a' b') (apart p' b')) (dotted (apart b' a') (apart b' a') ⊖ dotted (apart b' a') (apart p' a')) refl,
    )

-- ---- two edges by their ends

at_point : (p z : Point) → IsOn (p, p) z → z ≡ p
at_point p z h = λ i. (x i, y i)
  where
    x : z.0 ≡ p.0
    x = let w = h.in_box.by_x.up (omega (arith, linear)) in omega (arith, linear, w.0, w.1)

    y : z.1 ≡ p.1
    y = let w = h.in_box.by_y.up (omega (arith, linear)) in omega (arith, linear, w.0, w.1)

-- what is so far from an edge is so far from its ends
pub apart_start : (t : ℕ) (e f : Edge) → AreApart t e f → AreApart t (e.0, e.0) f
apart_start t e f h m p q first second = h m p q (subst (λ (z : Point). IsOn (refined_edge m e) z) (sym (at_point (refined_edge m e).0 p first)) (start_on (refined_edge m e))) second

pub apart_end : (t : ℕ) (e f : Edge) → AreApart t e f → AreApart t (e.1, e.1) f
apart_end t e f h m p q first second = h m p q (subst (λ (z : Point). IsOn (refined_edge m e) z) (sym (at_point (refined_edge m e).1 p first)) (end_on (refined_edge m e))) second

pub ends_separation : (e f : Edge) (a b c d : ℕ) → (IsCrossing e f → ⊥) → IsSeparation (e.0, e.0) f a → IsSeparation (e.1, e.1) f b →
    IsSeparation (f.0, f.0) e c → IsSeparation (f.1, f.1) e d → IsSeparation e f (min (min a b) (min c d))
ends_separation e f a b c d uncrossed first second third fourth = record {
  apart =
      apart_of_ends t e f uncrossed (record {
        start_first = apart_less t a (e.0, e.0) f (omega arith) first.apart;
        end_first = apart_less t b (e.1, e.1) f (omega arith) second.apart;
        start_second = apart_less t c (f.0, f.0) e (omega arith) third.apart;
        end_second = apart_less t d (f.1, f.1) e (omega arith) fourth.apart;
      });
  greatest = λ (h : AreApart (suc t) e f). by h (which (min a b) (min c d)) (which a b) (which c d);
}
  where
    t : ℕ
    t = min (min a b) (min c d)

    which : (x y : ℕ) → (min x y ≡ x) ⊎ (min x y ≡ y)
    which x y = grind arith

    by : AreApart (suc t) e f → (t ≡ min a b) ⊎ (t ≡ min c d) → (min a b ≡ a) ⊎ (min a b ≡ b) → (min c d ≡ c) ⊎ (min c d ≡ d) → ⊥
    by h (inl x) (inl y) z = first.greatest (apart_start (suc a) e f (apart_less (suc a) (suc t) e f (omega arith) h))
    by h (inl x) (inr y) z = second.greatest (apart_end (suc b) e f (apart_less (suc b) (suc t) e f (omega arith) h))
    by h (inr x) y (inl z) = third.greatest (apart_start (suc c) f e (apart_swapped (suc c) e f (apart_less (suc c) (suc t) e f (omega arith) h)))
    by h (inr x) y (inr z) = fourth.greatest (apart_end (suc d) f e (apart_swapped (suc d) e f (apart_less (suc d) (suc t) e f (omega arith) h)))

pub crossing_separation : (e f : Edge) → IsCrossing e f → IsSeparation e f 0
crossing_separation e f h = record { apart = apart_none 0 e f refl; greatest = crossing_not_apart e f h }
