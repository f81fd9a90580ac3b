-- Lemmas over points: points of segments, on a finer grid and between each other.
use Rattle.std.proofs.Common.{◌≡◌, ℕ, ◌*◌, refl, sym, ◌∙◌, ap, subst, arith, [], ◌∷◌}
use Rattle.std.specs.Prelude.{ℤ, pos, ◌+ℤ◌, ◌*ℤ◌, ◌≤ℤ◌, ◌<ℤ◌}
use Rattle.std.proofs.lemmas.Int.{by_lt_z}
use Rattle.mesh_plane.specs.Plane.{Point, Edge}
use Rattle.mesh_plane.specs.Winding.{refined}
use Rattle.mesh_plane.proofs.Ring.{ring, var, ◌⊕◌, ◌⊗◌}
use Rattle.mesh_plane.proofs.Whole.{linear, mul_nonneg, mul_pos, mul_cancel, one_mul, zero_mul}
use Rattle.mesh_lattice.specs.Clean.{IsOn, refined_edge}
use Rattle.mesh_lattice.proofs.Boxes.{turn_start, turn_end, start_box, end_box}
use Rattle.mesh_lattice.proofs.Means.{IsMean, mean_of_on, on_of_mean}
use Rattle.mesh_regions.proofs.FinerGrids.{scale_twice}

pub one_refined : (p : Point) → refined 1 p ≡ p
one_refined p = λ i. (one_mul p.0 i, one_mul p.1 i)

pub start_on : (a b : Point) → IsOn (a, b) a
start_on a b = record { on_line = turn_start a b; in_box = start_box (a, b) }

pub end_on : (a b : Point) → IsOn (a, b) b
end_on a b = record { on_line = turn_end a b; in_box = end_box (a, b) }

-- a point of a segment is one on a finer grid
pub on_finer : (k : ℕ) (a b z : Point) → IsOn (a, b) z → IsOn (refined k a, refined k b) (refined k z)
on_finer k a b z on =
    on_of_mean (refined k a) (refined k b) (refined k z) (record {
      first = mean.first;
      second = mean.second;
      first_least = mean.first_least;
      second_least = mean.second_least;
      some = mean.some;
      by_x = multiplied a.0 b.0 z.0 mean.by_x;
      by_y = multiplied a.1 b.1 z.1 mean.by_y;
    })
  where
    mean : IsMean a b z
    mean = mean_of_on a b z on

    multiplied : (x y z : ℤ) → (mean.first +ℤ mean.second) *ℤ z ≡ (mean.first *ℤ x) +ℤ (mean.second *ℤ y) →
        (mean.first +ℤ mean.second) *ℤ (pos k *ℤ z) ≡ (mean.first *ℤ (pos k *ℤ x)) +ℤ (mean.second *ℤ (pos k *ℤ y))
    multiplied x y z e =
        ring (mean.first ∷ mean.second ∷ pos k ∷ z ∷ []) ((var 0 ⊕ var 1) ⊗ (var 2 ⊗ var 3)) (var 2 ⊗ ((var 0 ⊕ var 1) ⊗ var 3)) refl
        ∙ (ap (λ (w : ℤ). pos k *ℤ w) e
        ∙ ring (mean.first ∷ mean.second ∷ pos k ∷ x ∷ y ∷ []) (var 2 ⊗ ((var 0 ⊗ var 3) ⊕ (var 1 ⊗ var 4))) ((var 0 ⊗ (var 2 ⊗ var 3)) ⊕ (var 1 ⊗ (var 2 ⊗ var 4))) refl)

pub refined_twice : (k n : ℕ) (e : Edge) → (refined k (refined n e.0), refined k (refined n e.1)) ≡ refined_edge (k * n) e
refined_twice k n e = λ i. (sym (scale_twice (pos k) (pos n) e.0) i, sym (scale_twice (pos k) (pos n) e.1) i)

-- so is a point of an edge, on a finer grid
pub finer_on : (k n : ℕ) (e : Edge) (z : Point) → IsOn (refined_edge n e) z → IsOn (refined_edge (k * n) e) (refined k z)
finer_on k n e z on = subst (λ (g : Edge). IsOn g (refined k z)) (refined_twice k n e) (on_finer k (refined n e.0) (refined n e.1) z on)

-- what lies between two points of a segment is a point of it
pub on_between : (a b p q z : Point) → IsOn (a, b) p → IsOn (a, b) q → IsOn (p, q) z → IsOn (a, b) z
on_between a b p q z first second between =
    on_of_mean a b z (record {
      first = (s *ℤ (c *ℤ (f +ℤ g))) +ℤ (t *ℤ (f *ℤ (c +ℤ d)));
      second = (s *ℤ (d *ℤ (f +ℤ g))) +ℤ (t *ℤ (g *ℤ (c +ℤ d)));
      first_least = least s t c f (f +ℤ g) (c +ℤ d) n.first_least n.second_least l.first_least r.first_least (omega (arith, linear, r.some)) (omega (arith, linear, l.some));
      second_least = least s t d g (f +ℤ g) (c +ℤ d) n.first_least n.second_least l.second_least r.second_least (omega (arith, linear, r.some)) (omega (arith, linear, l.some));
      some = subst (λ (w : ℤ). pos 0 <ℤ w) parts (mul_pos (s +ℤ t) ((c +ℤ d) *ℤ (f +ℤ g)) n.some (mul_pos (c +ℤ d) (f +ℤ g) l.some r.some));
      by_x = coordinate a.0 b.0 p.0 q.0 z.0 l.by_x r.by_x n.by_x;
      by_y = coordinate a.1 b.1 p.1 q.1 z.1 l.by_y r.by_y n.by_y;
    })
  where
    l : IsMean a b p
    l = mean_of_on a b p first

    r : IsMean a b q
    r = mean_of_on a b q second

    n : IsMean p q z
    n = mean_of_on p q z between

    c : ℤ
    c = l.first

    d : ℤ
    d = l.second

    f : ℤ
    f = r.first

    g : ℤ
    g = r.second

    s : ℤ
    s = n.first

    t : ℤ
    t = n.second

    least : (s t c f u w : ℤ) → pos 0 ≤ℤ s → pos 0 ≤ℤ t → pos 0 ≤ℤ c → pos 0 ≤ℤ f → pos 0 ≤ℤ u → pos 0 ≤ℤ w → pos 0 ≤ℤ ((s *ℤ (c *ℤ u)) +ℤ (t *ℤ (f *ℤ w)))
    least s t c f u w hs ht hc hf hu hw =
        let x = mul_nonneg s (c *ℤ u) hs (mul_nonneg c u hc hu) in
        let y = mul_nonneg t (f *ℤ w) ht (mul_nonneg f w hf hw) in
        omega (arith, linear, x, y)

    parts : (s +ℤ t) *ℤ ((c +ℤ d) *ℤ (f +ℤ g)) ≡ ((s *ℤ (c *ℤ (f +ℤ g))) +ℤ (t *ℤ (f *ℤ (c +ℤ d)))) +ℤ ((s *ℤ (d *ℤ (f +ℤ g))) +ℤ (t *ℤ (g *ℤ (c +ℤ d))))
    parts =
        ring (s ∷ t ∷ c ∷ d ∷ f ∷ g ∷ []) ((var 0 ⊕ var 1) ⊗ ((var 2 ⊕ var 3) ⊗ (var 4 ⊕ var 5)))
        (((var 0 ⊗ (var 2 ⊗ (var 4 ⊕ var 5))) ⊕ (var 1 ⊗ (var 4 ⊗ (var 2 ⊕ var 3)))) ⊕ ((var 0 ⊗ (var 3 ⊗ (var 4 ⊕ var 5))) ⊕ (var 1 ⊗ (var 5 ⊗ (var 2 ⊕ var 3)))))
        refl

    coordinate : (a b p q z : ℤ) → (c +ℤ d) *ℤ p ≡ (c *ℤ a) +ℤ (d *ℤ b) → (f +ℤ g) *ℤ q ≡ (f *ℤ a) +ℤ (g *ℤ b) → (s +ℤ t) *ℤ z ≡ (s *ℤ p) +ℤ (t *ℤ q) →
        (((s *ℤ (c *ℤ (f +ℤ g))) +ℤ (t *ℤ (f *ℤ (c +ℤ d)))) +ℤ ((s *ℤ (d *ℤ (f +ℤ g))) +ℤ (t *ℤ (g *ℤ (c +ℤ d))))) *ℤ z
        ≡ (((s *ℤ (c *ℤ (f +ℤ g))) +ℤ (t *ℤ (f *ℤ (c +ℤ d)))) *ℤ a) +ℤ (((s *ℤ (d *ℤ (f +ℤ g))) +ℤ (t *ℤ (g *ℤ (c +ℤ d)))) *ℤ b)
    coordinate a b p q z x y w =
        ap (λ (k : ℤ). k *ℤ z) (sym parts)
        ∙ (ring (s ∷ t ∷ (c +ℤ d) ∷ (f +ℤ g) ∷ z ∷ []) (((var 0 ⊕ var 1) ⊗ (var 2 ⊗ var 3)) ⊗ var 4) ((var 2 ⊗ var 3) ⊗ ((var 0 ⊕ var 1) ⊗ var 4)) refl
        ∙ (ap (λ (k : ℤ). ((c +ℤ d) *ℤ (f +ℤ g)) *ℤ k) w
        ∙ (ring (s ∷ t ∷ (c +ℤ d) ∷ (f +ℤ g) ∷ p ∷ q ∷ []) ((var 2 ⊗ var 3) ⊗ ((var 0 ⊗ var 4) ⊕ (var 1 ⊗ var 5))) (((var 0 ⊗ var 3) ⊗ (var 2 ⊗ var 4)) ⊕ ((var 1 ⊗ var 2) ⊗ (var 3 ⊗ var 5))) refl
        ∙ ((λ i. ((s *ℤ (f +ℤ g)) *ℤ x i) +ℤ ((t *ℤ (c +ℤ d)) *ℤ y i))
        ∙ ring (s ∷ t ∷ c ∷ d ∷ f ∷ g ∷ a ∷ b ∷ [])
        (((var 0 ⊗ (var 4 ⊕ var 5)) ⊗ ((var 2 ⊗ var 6) ⊕ (var 3 ⊗ var 7))) ⊕ ((var 1 ⊗ (var 2 ⊕ var 3)) ⊗ ((var 4 ⊗ var 6) ⊕ (var 5 ⊗ var 7))))
        ((((var 0 ⊗ (var 2 ⊗ (var 4 ⊕ var 5))) ⊕ (var 1 ⊗ (var 4 ⊗ (var 2 ⊕ var 3)))) ⊗ var 6) ⊕ (((var 0 ⊗ (var 3 ⊗ (var 4 ⊕ var 5))) ⊕ (var 1 ⊗ (var 5 ⊗ (var 2 ⊕ var 3)))) ⊗ var 7))
        refl))))

-- where `p` comes before `y` on the way from `q`, and `y` before `x`, then `y` lies between `p` and `x`
pub on_turned : (q p y x : Point) → IsOn (q, y) p → IsOn (q, x) y → IsOn (p, x) y
on_turned q p y x first second =
    by_lt_z (pos 0) a
    (λ (h : pos 0 <ℤ a).
    on_of_mean p x y (record {
      first = c *ℤ (a +ℤ b);
      second = a *ℤ d;
      first_least = mul_nonneg c (a +ℤ b) r.first_least (omega (arith, linear, l.some));
      second_least = mul_nonneg a d l.first_least r.second_least;
      some = some h;
      by_x = coordinate q.0 p.0 y.0 x.0 l.by_x r.by_x;
      by_y = coordinate q.1 p.1 y.1 x.1 l.by_y r.by_y;
    }))
    (λ (h : a ≤ℤ pos 0).
    subst (λ (z : Point). IsOn (z, x) y) (same (omega (arith, linear, h, l.first_least))) (start_on y x))
  where
    l : IsMean q y p
    l = mean_of_on q y p first

    r : IsMean q x y
    r = mean_of_on q x y second

    a : ℤ
    a = l.first

    b : ℤ
    b = l.second

    c : ℤ
    c = r.first

    d : ℤ
    d = r.second

    some : pos 0 <ℤ a → pos 0 <ℤ ((c *ℤ (a +ℤ b)) +ℤ (a *ℤ d))
    some h =
        let e : (c *ℤ (a +ℤ b)) +ℤ (a *ℤ d) ≡ (a *ℤ (c +ℤ d)) +ℤ (c *ℤ b) =
        ring (a ∷ b ∷ c ∷ d ∷ []) ((var 2 ⊗ (var 0 ⊕ var 1)) ⊕ (var 0 ⊗ var 3)) ((var 0 ⊗ (var 2 ⊕ var 3)) ⊕ (var 2 ⊗ var 1)) refl in
        let u = mul_pos a (c +ℤ d) h r.some in
        let v = mul_nonneg c b r.first_least l.second_least in
        omega (arith, linear, e, u, v)

    coordinate : (q p y x : ℤ) → (a +ℤ b) *ℤ p ≡ (a *ℤ q) +ℤ (b *ℤ y) → (c +ℤ d) *ℤ y ≡ (c *ℤ q) +ℤ (d *ℤ x) →
        ((c *ℤ (a +ℤ b)) +ℤ (a *ℤ d)) *ℤ y ≡ ((c *ℤ (a +ℤ b)) *ℤ p) +ℤ ((a *ℤ d) *ℤ x)
    coordinate q p y x u v =
        ring (a ∷ b ∷ c ∷ d ∷ y ∷ []) (((var 2 ⊗ (var 0 ⊕ var 1)) ⊕ (var 0 ⊗ var 3)) ⊗ var 4) ((var 0 ⊗ ((var 2 ⊕ var 3) ⊗ var 4)) ⊕ (var 2 ⊗ (var 1 ⊗ var 4))) refl
        ∙ (ap (λ (k : ℤ). (a *ℤ k) +ℤ (c *ℤ (b *ℤ y))) v
        ∙ (ring (a ∷ b ∷ c ∷ d ∷ q ∷ x ∷ y ∷ []) ((var 0 ⊗ ((var 2 ⊗ var 4) ⊕ (var 3 ⊗ var 5))) ⊕ (var 2 ⊗ (var 1 ⊗ var 6))) ((var 2 ⊗ ((var 0 ⊗ var 4) ⊕ (var 1 ⊗ var 6))) ⊕ ((var 0 ⊗ var 3) ⊗ var 5)) refl
        ∙ (ap (λ (k : ℤ). (c *ℤ k) +ℤ ((a *ℤ d) *ℤ x)) (sym u)
        ∙ ring (a ∷ b ∷ c ∷ d ∷ p ∷ x ∷ []) ((var 2 ⊗ ((var 0 ⊕ var 1) ⊗ var 4)) ⊕ ((var 0 ⊗ var 3) ⊗ var 5)) (((var 2 ⊗ (var 0 ⊕ var 1)) ⊗ var 4) ⊕ ((var 0 ⊗ var 3) ⊗ var 5)) refl)))

    level : (q p y : ℤ) → a ≡ pos 0 → (a +ℤ b) *ℤ p ≡ (a *ℤ q) +ℤ (b *ℤ y) → y ≡ p
    level q p y none u =
        mul_cancel b y p (omega (arith, linear, none, l.some))
        (let e : (pos 0 +ℤ b) *ℤ p ≡ (pos 0 *ℤ q) +ℤ (b *ℤ y) = subst (λ (k : ℤ). (k +ℤ b) *ℤ p ≡ (k *ℤ q) +ℤ (b *ℤ y)) none u in
        let left : (pos 0 +ℤ b) *ℤ p ≡ b *ℤ p = ap (λ (k : ℤ). k *ℤ p) (omega (arith, linear)) in
        let right : (pos 0 *ℤ q) +ℤ (b *ℤ y) ≡ b *ℤ y = omega (arith, linear, zero_mul q) in
        sym right ∙ (sym e ∙ left))

    same : a ≡ pos 0 → y ≡ p
    same none = λ i. (level q.0 p.0 y.0 none l.by_x i, level q.1 p.1 y.1 none l.by_y i)
