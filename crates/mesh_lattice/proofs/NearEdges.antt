-- Lemmas over points: near points on finer grids, between near points, and through an edge between.
use Rattle.std.proofs.Common.{◌≡◌, ℕ, ◌+◌, ◌*◌, ◌<◌, ◌≤◌, ⊎_elim, true, List, [], ◌∷◌, refl, ◌∙◌, ap, subst, arith}
use Rattle.std.specs.Prelude.{ℤ, pos, negsuc, ◌+ℤ◌, ◌-ℤ◌, ◌*ℤ◌, ◌≤ℤ◌, ◌<ℤ◌, unsigned_abs}
use Rattle.std.specs.List.{All}
use Rattle.std.proofs.Math.Nat.{mul-le-mul_left}
use Rattle.std.proofs.lemmas.Int.{ints}
use Rattle.std.proofs.lemmas.List.Elements.{All-weaker}
use Rattle.mesh_plane.specs.Plane.{Point, Edge}
use Rattle.mesh_plane.specs.Winding.{refined, winding, boundary}
use Rattle.mesh_plane.proofs.HalfPlanes.{along_by, closed_before}
use Rattle.mesh_plane.proofs.Ring.{ring, var, ◌⊕◌, ◌⊖◌, ◌⊗◌}
use Rattle.mesh_plane.proofs.Whole.{mul_pos}
use Rattle.mesh_lattice.specs.Clean.{IsOn, refined_edge}
use Rattle.mesh_lattice.specs.Nearness.{IsNearTo, IsNearSome, IsFarFrom, StaysNear}
use Rattle.mesh_lattice.specs.Split.{occurs}
use Rattle.mesh_lattice.proofs.Beyond.{LiesBeyond, near_or_beyond, far_beyond, before}
use Rattle.mesh_lattice.proofs.Means.{IsMean, mean_of_on, on_of_mean, mean_most}
use Rattle.mesh_lattice.proofs.Nearness.{mean_along, near_more}

-- ---- on finer grids

finer_mean : (n g m : ℕ) (s t a b z : ℤ) → (s +ℤ t) *ℤ z ≡ (s *ℤ (pos (g * m) *ℤ a)) +ℤ (t *ℤ (pos (g * m) *ℤ b)) →
    (s +ℤ t) *ℤ (pos n *ℤ z) ≡ (s *ℤ (pos (g * (n * m)) *ℤ a)) +ℤ (t *ℤ (pos (g * (n * m)) *ℤ b))
finer_mean n g m s t a b z e =
    ring (pos n ∷ s ∷ t ∷ z ∷ []) ((var 1 ⊕ var 2) ⊗ (var 0 ⊗ var 3)) (var 0 ⊗ ((var 1 ⊕ var 2) ⊗ var 3)) refl
    ∙ (ap (λ (x : ℤ). pos n *ℤ x) e
    ∙ ring (pos n ∷ pos g ∷ pos m ∷ s ∷ t ∷ a ∷ b ∷ [])
    (var 0 ⊗ ((var 3 ⊗ ((var 1 ⊗ var 2) ⊗ var 5)) ⊕ (var 4 ⊗ ((var 1 ⊗ var 2) ⊗ var 6))))
    ((var 3 ⊗ ((var 1 ⊗ (var 0 ⊗ var 2)) ⊗ var 5)) ⊕ (var 4 ⊗ ((var 1 ⊗ (var 0 ⊗ var 2)) ⊗ var 6)))
    refl)

size_times : (n : ℕ) (d : ℤ) → unsigned_abs (pos n *ℤ d) ≡ n * unsigned_abs d
size_times n (pos j) = omega (arith, ints)
size_times n (negsuc j) = omega (arith, ints)

finer_gap : (k n g m : ℕ) (q z : ℤ) → 64 * unsigned_abs ((pos g *ℤ q) -ℤ z) ≤ k * (g * m) →
    64 * unsigned_abs ((pos g *ℤ (pos n *ℤ q)) -ℤ (pos n *ℤ z)) ≤ k * (g * (n * m))
finer_gap k n g m q z h =
    let whole : (pos g *ℤ (pos n *ℤ q)) -ℤ (pos n *ℤ z) ≡ pos n *ℤ ((pos g *ℤ q) -ℤ z) =
    ring (pos g ∷ pos n ∷ q ∷ z ∷ []) ((var 0 ⊗ (var 1 ⊗ var 2)) ⊖ (var 1 ⊗ var 3)) (var 1 ⊗ ((var 0 ⊗ var 2) ⊖ var 3)) refl in
    let size : unsigned_abs ((pos g *ℤ (pos n *ℤ q)) -ℤ (pos n *ℤ z)) ≡ n * unsigned_abs ((pos g *ℤ q) -ℤ z) =
    ap unsigned_abs whole ∙ size_times n ((pos g *ℤ q) -ℤ z) in
    let bound : n * (64 * unsigned_abs ((pos g *ℤ q) -ℤ z)) ≤ n * (k * (g * m)) = mul-le-mul_left n h in
    let right : pos (n * (k * (g * m))) ≡ pos (k * (g * (n * m))) =
    ring (pos n ∷ pos k ∷ pos g ∷ pos m ∷ []) (var 0 ⊗ (var 1 ⊗ (var 2 ⊗ var 3))) (var 1 ⊗ (var 2 ⊗ (var 0 ⊗ var 3))) refl in
    let left : n * (64 * unsigned_abs ((pos g *ℤ q) -ℤ z)) ≡ 64 * (n * unsigned_abs ((pos g *ℤ q) -ℤ z)) = omega arith in
    omega (arith, ints)

pub near_finer : (k n m : ℕ) (e : Edge) (q : Point) → IsNearTo k m e q → IsNearTo k (n * m) e (refined n q)
near_finer k n m e q h = record {
  grid = h.grid;
  positive = h.positive;
  nearest = refined n h.nearest;
  on_edge = on_of_mean (refined (h.grid * (n * m)) e.0) (refined (h.grid * (n * m)) e.1) (refined n h.nearest) (record {
    first = mean.first;
    second = mean.second;
    first_least = mean.first_least;
    second_least = mean.second_least;
    some = mean.some;
    by_x = finer_mean n h.grid m mean.first mean.second e.0.0 e.1.0 h.nearest.0 mean.by_x;
    by_y = finer_mean n h.grid m mean.first mean.second e.0.1 e.1.1 h.nearest.1 mean.by_y;
  });
  by_x = finer_gap k n h.grid m q.0 h.nearest.0 h.by_x;
  by_y = finer_gap k n h.grid m q.1 h.nearest.1 h.by_y;
}
  where
    mean : IsMean (refined (h.grid * m) e.0) (refined (h.grid * m) e.1) h.nearest
    mean = mean_of_on (refined (h.grid * m) e.0) (refined (h.grid * m) e.1) h.nearest h.on_edge

-- a whole point, on any grid
pub near_refined : (k m : ℕ) (e : Edge) (p : Point) → IsNearTo k 1 e p → IsNearTo k m e (refined m p)
near_refined k m e p h =
    let same : m * 1 ≡ m = omega arith in
    subst (λ (n : ℕ). IsNearTo k n e (refined m p)) same (near_finer k m 1 e p h)

-- ---- what lies between near points is near

pub near_mean : (k m : ℕ) → 0 < m → (e : Edge) (p r q : Point) → IsNearTo k m e p → IsNearTo k m e r → IsMean p r q → IsNearTo k m e q
near_mean k m some e p r q first second mean = ⊎_elim (λ (h : IsNearTo k m e q). h) (λ (h : LiesBeyond k m e q). absurd (not_beyond h)) (near_or_beyond k m some e q)
  where
    not_beyond : LiesBeyond k m e q → ⊥
    not_beyond h =
        let start = before k m e q p h first in
        let end = before k m e q r h second in
        let least : along_by h.u h.v q ≤ℤ (along_by h.u h.v q -ℤ pos 1) =
        mean_most mean.first mean.second (along_by h.u h.v q -ℤ pos 1) (along_by h.u h.v p) (along_by h.u h.v r) (along_by h.u h.v q)
        mean.first_least mean.second_least mean.some (mean_along h.u h.v mean.first mean.second p r q mean.by_x mean.by_y)
        (omega (arith, ints, start)) (omega (arith, ints, end)) in
        omega (arith, ints, least)

-- an edge whose ends are near stays near
pub near_between : (k : ℕ) (e f : Edge) → IsNearTo k 1 e f.0 → IsNearTo k 1 e f.1 → (m : ℕ) → 0 < m → (q : Point) → IsOn (refined_edge m f) q → IsNearTo k m e q
near_between k e f start end m some q on =
    near_mean k m some e (refined m f.0) (refined m f.1) q (near_refined k m e f.0 start) (near_refined k m e f.1 end) (mean_of_on (refined m f.0) (refined m f.1) q on)

pub stays_near : (k : ℕ) (es : List Edge) (e f : Edge) → occurs e es ≡ true → IsNearTo k 1 e f.0 → IsNearTo k 1 e f.1 → StaysNear k es f
stays_near k es e f listed start end m some q on = record { edge = e; listed = listed; near = near_between k e f start end m some q on }

-- ---- distances add up

sum_gap : (k l m g h : ℕ) (q y z : ℤ) → 64 * unsigned_abs ((pos g *ℤ q) -ℤ y) ≤ l * (g * m) → 64 * unsigned_abs ((pos h *ℤ y) -ℤ z) ≤ k * (h * (g * m)) →
    64 * unsigned_abs ((pos (h * g) *ℤ q) -ℤ z) ≤ (k + l) * ((h * g) * m)
sum_gap k l m g h q y z first second =
    let parts : (pos (h * g) *ℤ q) -ℤ z ≡ (pos h *ℤ ((pos g *ℤ q) -ℤ y)) +ℤ ((pos h *ℤ y) -ℤ z) =
    ring (pos g ∷ pos h ∷ q ∷ y ∷ z ∷ []) (((var 1 ⊗ var 0) ⊗ var 2) ⊖ var 4) ((var 1 ⊗ ((var 0 ⊗ var 2) ⊖ var 3)) ⊕ ((var 1 ⊗ var 3) ⊖ var 4)) refl in
    let bound : h * (64 * unsigned_abs ((pos g *ℤ q) -ℤ y)) ≤ h * (l * (g * m)) = mul-le-mul_left h first in
    let left : h * (64 * unsigned_abs ((pos g *ℤ q) -ℤ y)) ≡ 64 * (h * unsigned_abs ((pos g *ℤ q) -ℤ y)) = omega arith in
    let right : pos (h * (l * (g * m))) +ℤ pos (k * (h * (g * m))) ≡ pos ((k + l) * ((h * g) * m)) =
    ring (pos h ∷ pos l ∷ pos g ∷ pos m ∷ pos k ∷ []) ((var 0 ⊗ (var 1 ⊗ (var 2 ⊗ var 3))) ⊕ (var 4 ⊗ (var 0 ⊗ (var 2 ⊗ var 3)))) ((var 4 ⊕ var 1) ⊗ ((var 0 ⊗ var 2) ⊗ var 3)) refl in
    added ((pos (h * g) *ℤ q) -ℤ z) (pos h *ℤ ((pos g *ℤ q) -ℤ y)) ((pos h *ℤ y) -ℤ z) (h * (l * (g * m))) (k * (h * (g * m))) ((k + l) * ((h * g) * m))
    parts (omega (arith, size_times h ((pos g *ℤ q) -ℤ y))) second right
  where
    added : (d a b : ℤ) (x y n : ℕ) → d ≡ a +ℤ b → 64 * unsigned_abs a ≤ x → 64 * unsigned_abs b ≤ y → pos x +ℤ pos y ≡ pos n → 64 * unsigned_abs d ≤ n
    added d a b x y n e ha hb s = omega (arith, ints)

pub near_through : (k l m : ℕ) → 0 < m → (es : List Edge) (f : Edge) (q : Point) → StaysNear k es f → IsNearTo l m f q → IsNearSome (k + l) m es q
near_through k l m some es f q stays h = record {
  edge = s.edge;
  listed = s.listed;
  near = record {
    grid = s.near.grid * h.grid;
    positive = product s.near.grid h.grid s.near.positive h.positive;
    nearest = s.near.nearest;
    on_edge = subst (λ (n : ℕ). IsOn (refined_edge n s.edge) s.near.nearest) regrouped s.near.on_edge;
    by_x = sum_gap k l m h.grid s.near.grid q.0 h.nearest.0 s.near.nearest.0 h.by_x s.near.by_x;
    by_y = sum_gap k l m h.grid s.near.grid q.1 h.nearest.1 s.near.nearest.1 h.by_y s.near.by_y;
  };
}
  where
    product : (a b : ℕ) → 0 < a → 0 < b → 0 < a * b
    product a b x y = let p : pos 0 <ℤ (pos a *ℤ pos b) = mul_pos (pos a) (pos b) (omega (arith, ints)) (omega (arith, ints)) in omega (arith, ints)

    s : IsNearSome k (h.grid * m) es h.nearest
    s = stays (h.grid * m) (product h.grid m h.positive some) h.nearest h.on_edge

    regrouped : s.near.grid * (h.grid * m) ≡ (s.near.grid * h.grid) * m
    regrouped = omega arith

-- so a point that lies far from edges lies far from an edge that stays near them
pub far_through : (k l m : ℕ) → 0 < m → (es : List Edge) (f : Edge) (q : Point) → StaysNear k es f → IsFarFrom (k + l) m es q → IsNearTo l m f q → ⊥
far_through k l m some es f q stays far h = let s = near_through k l m some es f q stays h in far s.edge s.listed s.near

-- and from each of some edges that do: for answers that are made edges and split again
pub far_from_through : (k l m : ℕ) → 0 < m → (es fs : List Edge) (q : Point) → ((f : Edge) → occurs f fs ≡ true → StaysNear k es f) → IsFarFrom (k + l) m es q → IsFarFrom l m fs q
far_from_through k l m some es fs q stays far f listed h = far_through k l m some es f q (stays f listed) far h

-- ---- of more edges, and at a greater distance: for the greatest distance of several answers

pub stays_more : (k l : ℕ) (es ds : List Edge) (f : Edge) → k ≤ l → ((e : Edge) → occurs e es ≡ true → occurs e ds ≡ true) → StaysNear k es f → StaysNear l ds f
stays_more k l es ds f more wider h m some q on =
    let s = h m some q on in
    record { edge = s.edge; listed = wider s.edge s.listed; near = near_more k l m s.edge q more s.near }

pub far_less : (k l m : ℕ) (es : List Edge) (q : Point) → k ≤ l → IsFarFrom l m es q → IsFarFrom k m es q
far_less k l m es q more far e listed h = far e listed (near_more k l m e q more h)

-- ---- a closed list of points near one edge winds round no point far from it

pub closed_near : (k m : ℕ) → 0 < m → (e : Edge) (q : Point) → (IsNearTo k m e q → ⊥) → (points : List Point) → All (IsNearTo k 1 e) points → winding m q (boundary points) ≡ pos 0
closed_near k m some e q far points near =
    let h = far_beyond k m some e q far in
    closed_before h.u h.v m q points
    (All-weaker (IsNearTo k 1 e) (λ (p : Point). along_by h.u h.v (refined m p) <ℤ along_by h.u h.v q)
    (λ (p : Point) (n : IsNearTo k 1 e p). before k m e q (refined m p) h (near_refined k m e p n)) points near)
