-- Lemmas over points: the point of an edge that is nearest to a point, on a grid that is fine enough.
use Rattle.std.proofs.Common.{◌≡◌, ℕ, ◌*◌, ◌<◌, refl, sym, ◌∙◌, ap, [], ◌∷◌, arith}
use Rattle.std.specs.Prelude.{ℤ, pos, neg_ℤ, ◌+ℤ◌, ◌-ℤ◌, ◌*ℤ◌, ◌≤ℤ◌, ◌<ℤ◌}
use Rattle.std.proofs.lemmas.Int.{ints, by_lt_z}
use lib.IntN.{*ℤ_comm}
use Rattle.mesh_plane.specs.Plane.{Point, Edge, minus, dot, length_sq}
use Rattle.mesh_plane.specs.Winding.{refined}
use Rattle.mesh_plane.proofs.Grids.{scale}
use Rattle.mesh_plane.proofs.Ring.{ring, var, neg, ◌⊕◌, ◌⊖◌, ◌⊗◌, dot_of}
use Rattle.mesh_plane.proofs.Sizes.{dot_self}
use Rattle.mesh_plane.proofs.Whole.{linear, times_zero}
use Rattle.mesh_lattice.specs.Clean.{IsOn, refined_edge}
use Rattle.mesh_lattice.proofs.Means.{on_of_mean}

-- a point of the edge before which, as it is seen from `q`, neither end of the edge lies
pub record IsFoot (m : ℕ) (e : Edge) (q : Point) : Type 0 where
  pub grid : ℕ
  pub some : 0 < grid
  pub nearest : Point
  pub on_edge : IsOn (refined_edge (grid * m) e) nearest
  pub start : dot (minus (refined grid q) nearest) (minus (refined (grid * m) e.0) nearest) ≤ℤ pos 0
  pub end : dot (minus (refined grid q) nearest) (minus (refined (grid * m) e.1) nearest) ≤ℤ pos 0

-- the point `t` parts of `g` on the way between the refined ends of an edge
abbrev foot : ℤ → ℤ → ℤ → Point → Point → Point
foot g t m a b = (
  ((g -ℤ t) *ℤ (m *ℤ a.0)) +ℤ (t *ℤ (m *ℤ b.0)),
  ((g -ℤ t) *ℤ (m *ℤ a.1)) +ℤ (t *ℤ (m *ℤ b.1)),
)

-- how far along the edge `q` lies beyond that point
abbrev along : ℤ → Point → Point → Point → ℤ
along m a b q = dot (minus q (scale m a)) (minus (scale m b) (scale m a))

abbrev span : ℤ → Point → Point → ℤ
span m a b = dot (minus (scale m b) (scale m a)) (minus (scale m b) (scale m a))

abbrev beyond : ℤ → ℤ → ℤ → Point → Point → Point → ℤ
beyond g t m a b q = (g *ℤ along m a b q) -ℤ (t *ℤ span m a b)

before_start : (g t m : ℤ) (a b q : Point) →
    dot (minus (scale g q) (foot g t m a b)) (minus (scale (g *ℤ m) a) (foot g t m a b)) ≡ neg_ℤ
    (t *ℤ beyond g t m a b q)
before_start g t m a b q =
    let at = λ (i : ℕ). λ (j : ℕ). ((var 0 ⊖ var 1) ⊗ (var 2 ⊗ var i)) ⊕ (var 1 ⊗ (var 2 ⊗ var j)) in
    let way = λ (i : ℕ). λ (j : ℕ). (var 2 ⊗ var j) ⊖ (var 2 ⊗ var i) in
    ring (g ∷ t ∷ m ∷ a.0 ∷ a.1 ∷ b.0 ∷ b.1 ∷ q.0 ∷ q.1 ∷ [])
    (dot_of ((var 0 ⊗ var 7) ⊖ at 3 5) ((var 0 ⊗ var 8) ⊖ at 4 6) (((var 0 ⊗ var 2) ⊗ var 3) ⊖ at 3 5)
    (((var 0 ⊗ var 2) ⊗ var 4) ⊖ at 4 6))
    (neg (var 1 ⊗ ((var 0 ⊗ dot_of (var 7 ⊖ (var 2 ⊗ var 3)) (var 8 ⊖ (var 2 ⊗ var 4)) (way 3 5) (way 4 6)) ⊖
    (var 1 ⊗ dot_of (way 3 5) (way 4 6) (way 3 5) (way 4 6)))))
    refl

before_end : (g t m : ℤ) (a b q : Point) →
    dot (minus (scale g q) (foot g t m a b)) (minus (scale (g *ℤ m) b) (foot g t m a b)) ≡
    (g -ℤ t) *ℤ beyond g t m a b q
before_end g t m a b q =
    let at = λ (i : ℕ). λ (j : ℕ). ((var 0 ⊖ var 1) ⊗ (var 2 ⊗ var i)) ⊕ (var 1 ⊗ (var 2 ⊗ var j)) in
    let way = λ (i : ℕ). λ (j : ℕ). (var 2 ⊗ var j) ⊖ (var 2 ⊗ var i) in
    ring (g ∷ t ∷ m ∷ a.0 ∷ a.1 ∷ b.0 ∷ b.1 ∷ q.0 ∷ q.1 ∷ [])
    (dot_of ((var 0 ⊗ var 7) ⊖ at 3 5) ((var 0 ⊗ var 8) ⊖ at 4 6) (((var 0 ⊗ var 2) ⊗ var 5) ⊖ at 3 5)
    (((var 0 ⊗ var 2) ⊗ var 6) ⊖ at 4 6))
    ((var 0 ⊖ var 1) ⊗ ((var 0 ⊗ dot_of (var 7 ⊖ (var 2 ⊗ var 3)) (var 8 ⊖ (var 2 ⊗ var 4)) (way 3 5) (way 4 6)) ⊖
    (var 1 ⊗ dot_of (way 3 5) (way 4 6) (way 3 5) (way 4 6))))
    refl

foot_mean : (g t m x y : ℤ) →
    ((g -ℤ t) +ℤ t) *ℤ (((g -ℤ t) *ℤ (m *ℤ x)) +ℤ (t *ℤ (m *ℤ y))) ≡ ((g -ℤ t) *ℤ ((g *ℤ m) *ℤ x)) +ℤ
    (t *ℤ ((g *ℤ m) *ℤ y))
foot_mean g t m x y =
    ring (g ∷ t ∷ m ∷ x ∷ y ∷ [])
    (((var 0 ⊖ var 1) ⊕ var 1) ⊗ (((var 0 ⊖ var 1) ⊗ (var 2 ⊗ var 3)) ⊕ (var 1 ⊗ (var 2 ⊗ var 4))))
    (((var 0 ⊖ var 1) ⊗ ((var 0 ⊗ var 2) ⊗ var 3)) ⊕ (var 1 ⊗ ((var 0 ⊗ var 2) ⊗ var 4)))
    refl

foot_at : (m : ℕ) (e : Edge) (q : Point) (g : ℕ) (t : ℤ) → 0 < g → pos 0 ≤ℤ t → t ≤ℤ pos g →
    pos 0 ≤ℤ (t *ℤ beyond (pos g) t (pos m) e.0 e.1 q) → ((pos g -ℤ t) *ℤ beyond (pos g) t (pos m) e.0 e.1 q) ≤ℤ pos 0
    → IsFoot m e q
foot_at m e q g t some least most first second = record {
  grid = g;
  some = some;
  nearest = foot (pos g) t (pos m) e.0 e.1;
  on_edge =
      on_of_mean (refined (g * m) e.0) (refined (g * m) e.1) (foot (pos g) t (pos m) e.0 e.1) (record {
        first = pos g -ℤ t;
        second = t;
        first_least = omega (arith, linear, most);
        second_least = least;
        some = let l : pos 0 <ℤ pos g = omega (arith, ints) in omega (arith, linear, l);
        by_x = foot_mean (pos g) t (pos m) e.0.0 e.1.0;
        by_y = foot_mean (pos g) t (pos m) e.0.1 e.1.1;
      });
  start = omega (arith, linear, before_start (pos g) t (pos m) e.0 e.1 q, first);
  end = omega (arith, linear, before_end (pos g) t (pos m) e.0 e.1 q, second);
}

at_start : (s n : ℤ) → s ≤ℤ pos 0 → (pos 0 ≤ℤ (pos 0 *ℤ ((pos 1 *ℤ s) -ℤ (pos 0 *ℤ n)))) ×
    (((pos 1 -ℤ pos 0) *ℤ ((pos 1 *ℤ s) -ℤ (pos 0 *ℤ n))) ≤ℤ pos 0)
at_start s n h = (omega (arith, ints), omega (arith, ints))

at_end : (s n : ℤ) → n ≤ℤ s → (pos 0 ≤ℤ (pos 1 *ℤ ((pos 1 *ℤ s) -ℤ (pos 1 *ℤ n)))) ×
    (((pos 1 -ℤ pos 1) *ℤ ((pos 1 *ℤ s) -ℤ (pos 1 *ℤ n))) ≤ℤ pos 0)
at_end s n h = (omega (arith, ints), omega (arith, ints))

between : (g s n : ℤ) → n ≡ g → (pos 0 ≤ℤ (s *ℤ ((g *ℤ s) -ℤ (s *ℤ n)))) ×
    (((g -ℤ s) *ℤ ((g *ℤ s) -ℤ (s *ℤ n))) ≤ℤ pos 0)
between g s n e = (
  omega (arith, linear, times_zero s ((g *ℤ s) -ℤ (s *ℤ n)) none),
  omega (arith, linear, times_zero (g -ℤ s) ((g *ℤ s) -ℤ (s *ℤ n)) none),
)
  where
    same : g *ℤ s ≡ s *ℤ n
    same = *ℤ_comm g s ∙ ap (λ (x : ℤ). s *ℤ x) (sym e)

    none : (g *ℤ s) -ℤ (s *ℤ n) ≡ pos 0
    none = omega (arith, linear, same)

-- each point has such a point on each edge: an end of it, or the foot of the point
pub nearest_foot : (m : ℕ) (e : Edge) (q : Point) → IsFoot m e q
nearest_foot m e q =
    by_lt_z (pos 0) s
    (λ (h : pos 0 <ℤ s).
    by_lt_z s n
    (λ (l : s <ℤ n).
    let both = between (pos (length_sq way)) s n (dot_self way) in
    let size = dot_self way in
    foot_at m e q (length_sq way) s (omega (arith, ints, size, h, l)) (omega (arith, linear, h))
    (omega (arith, linear, size, l)) both.0 both.1)
    (λ (l : n ≤ℤ s). let both = at_end s n l in foot_at m e q 1 (pos 1) (omega arith) (omega (arith, ints))
    (omega (arith, ints)) both.0 both.1))
    (λ (h : s ≤ℤ pos 0). let both = at_start s n h in foot_at m e q 1 (pos 0) (omega arith) (omega (arith, ints))
    (omega (arith, ints)) both.0 both.1)
  where
    way : Point
    way = minus (scale (pos m) e.1) (scale (pos m) e.0)

    s : ℤ
    s = dot (minus q (scale (pos m) e.0)) way

    n : ℤ
    n = dot way way
