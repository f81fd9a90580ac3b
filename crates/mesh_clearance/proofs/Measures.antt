-- Lemmas over points: a linear measure that parts two edges tells how far they are apart at least.
use Rattle.std.proofs.Common.{◌≡◌, ℕ, ◌*◌, ◌<◌, ◌≤◌, refl, arith, [], ◌∷◌}
use Rattle.std.specs.Prelude.{ℤ, pos, ◌+ℤ◌, ◌-ℤ◌, ◌*ℤ◌, ◌≤ℤ◌, ◌<ℤ◌}
use Rattle.std.proofs.lemmas.Int.{ints}
use Rattle.mesh_plane.specs.Plane.{Point, Edge, minus, dot, cross, length_sq}
use Rattle.mesh_plane.specs.Winding.{refined}
use Rattle.mesh_plane.proofs.Identities.{lagrange}
use Rattle.mesh_plane.proofs.Ring.{ring, var, ◌⊖◌, ◌⊗◌, dot_of}
use Rattle.mesh_plane.proofs.Sizes.{dot_self}
use Rattle.mesh_plane.proofs.Whole.{linear, mul_le_mul_left, le_of_mul_le_mul, square_nonneg, mul_nonneg}
use Rattle.mesh_lattice.proofs.Means.{IsMean, mean_of_on, mean_least, mean_most}
use Rattle.mesh_lattice.proofs.Nearness.{mean_along}
use Rattle.mesh_clearance.specs.Clearance.{AreApart}

-- a square is at least that of a lesser number that is not below 0
pub square_most : (a b : ℤ) → pos 0 ≤ℤ a → a ≤ℤ b → (a *ℤ a) ≤ℤ (b *ℤ b)
square_most a b least h =
    let first = mul_le_mul_left a a b least h in
    let second : (b *ℤ a) ≤ℤ (b *ℤ b) = mul_le_mul_left b a b (omega (arith, linear)) h in
    let same : a *ℤ b ≡ b *ℤ a = ring (a ∷ b ∷ []) (var 0 ⊗ var 1) (var 1 ⊗ var 0) refl in
    omega (arith, linear, first, second, same)

-- a measure at a refined point
refined_measure : (n : Point) (m : ℕ) (p : Point) → dot n (refined m p) ≡ pos m *ℤ dot n p
refined_measure n m p =
    ring (n.0 ∷ n.1 ∷ pos m ∷ p.0 ∷ p.1 ∷ []) (dot_of (var 0) (var 1) (var 2 ⊗ var 3) (var 2 ⊗ var 4)) (var 2 ⊗ dot_of (var 0) (var 1) (var 3) (var 4)) refl

-- two points whose measures differ by that much are so far from each other
far_of_measure : (t m : ℕ) (n p q : Point) (k : ℤ) → pos 0 ≤ℤ k → pos 0 <ℤ dot n n → (pos t *ℤ dot n n) ≤ℤ (k *ℤ k) →
    (pos m *ℤ k) ≤ℤ (dot n q -ℤ dot n p) → t * (m * m) ≤ length_sq (minus p q)
far_of_measure t m n p q k least some small beyond =
    of_pos (le_of_mul_le_mul (dot n n) (pos (t * (m * m))) (dot (minus p q) (minus p q)) some
    (omega (
      arith,
      linear,
      left,
      mul_le_mul_left (pos m *ℤ pos m) (pos t *ℤ dot n n) (k *ℤ k) (square_nonneg (pos m)) small,
      middle,
      square_most (pos m *ℤ k) x (mul_nonneg (pos m) k (omega (arith, ints)) least) beyond,
      right,
      lagrange n (minus p q),
      square_nonneg (cross n (minus p q)),
    )))
  where
    x : ℤ
    x = dot n q -ℤ dot n p

    of_pos : pos (t * (m * m)) ≤ℤ dot (minus p q) (minus p q) → t * (m * m) ≤ length_sq (minus p q)
    of_pos h = let e = dot_self (minus p q) in omega (arith, ints)

    left : dot n n *ℤ pos (t * (m * m)) ≡ (pos m *ℤ pos m) *ℤ (pos t *ℤ dot n n)
    left = ring (dot n n ∷ pos t ∷ pos m ∷ []) (var 0 ⊗ (var 1 ⊗ (var 2 ⊗ var 2))) ((var 2 ⊗ var 2) ⊗ (var 1 ⊗ var 0)) refl

    middle : (pos m *ℤ pos m) *ℤ (k *ℤ k) ≡ (pos m *ℤ k) *ℤ (pos m *ℤ k)
    middle = ring (pos m ∷ k ∷ []) ((var 0 ⊗ var 0) ⊗ (var 1 ⊗ var 1)) ((var 0 ⊗ var 1) ⊗ (var 0 ⊗ var 1)) refl

    right : x *ℤ x ≡ dot n (minus p q) *ℤ dot n (minus p q)
    right =
        ring (n.0 ∷ n.1 ∷ p.0 ∷ p.1 ∷ q.0 ∷ q.1 ∷ [])
        ((dot_of (var 0) (var 1) (var 4) (var 5) ⊖ dot_of (var 0) (var 1) (var 2) (var 3)) ⊗ (dot_of (var 0) (var 1) (var 4) (var 5) ⊖ dot_of (var 0) (var 1) (var 2) (var 3)))
        (dot_of (var 0) (var 1) (var 2 ⊖ var 4) (var 3 ⊖ var 5) ⊗ dot_of (var 0) (var 1) (var 2 ⊖ var 4) (var 3 ⊖ var 5))
        refl

-- a measure `n` by which each end of the second edge is at least `k` beyond each end of the first
pub record IsParting (n : Point) (k : ℤ) (e f : Edge) : Type 0 where
  pub start_start : k ≤ℤ dot n (minus f.0 e.0)
  pub end_start : k ≤ℤ dot n (minus f.0 e.1)
  pub start_end : k ≤ℤ dot n (minus f.1 e.0)
  pub end_end : k ≤ℤ dot n (minus f.1 e.1)

pub apart_of_measure : (t : ℕ) (n : Point) (k : ℤ) (e f : Edge) → pos 0 ≤ℤ k → pos 0 <ℤ dot n n → (pos t *ℤ dot n n) ≤ℤ (k *ℤ k) →
    IsParting n k e f → AreApart t e f
apart_of_measure t n k e f least some small parting m p q on_first on_second = far_of_measure t m n p q k least some small beyond
  where
    first : IsMean (refined m e.0) (refined m e.1) p
    first = mean_of_on (refined m e.0) (refined m e.1) p on_first

    second : IsMean (refined m f.0) (refined m f.1) q
    second = mean_of_on (refined m f.0) (refined m f.1) q on_second

    scaled : (z c : Point) → k ≤ℤ dot n (minus c z) → dot n (refined m z) ≤ℤ (dot n (refined m c) -ℤ (pos m *ℤ k))
    scaled z c h =
        let l = mul_le_mul_left (pos m) k (dot n (minus c z)) (omega (arith, ints)) h in
        let parts : pos m *ℤ dot n (minus c z) ≡ (pos m *ℤ dot n c) -ℤ (pos m *ℤ dot n z) =
        ring (n.0 ∷ n.1 ∷ pos m ∷ z.0 ∷ z.1 ∷ c.0 ∷ c.1 ∷ [])
        (var 2 ⊗ dot_of (var 0) (var 1) (var 5 ⊖ var 3) (var 6 ⊖ var 4))
        ((var 2 ⊗ dot_of (var 0) (var 1) (var 5) (var 6)) ⊖ (var 2 ⊗ dot_of (var 0) (var 1) (var 3) (var 4)))
        refl in
        omega (arith, linear, l, parts, refined_measure n m z, refined_measure n m c)

    below : (c : Point) → k ≤ℤ dot n (minus c e.0) → k ≤ℤ dot n (minus c e.1) → dot n p ≤ℤ (dot n (refined m c) -ℤ (pos m *ℤ k))
    below c h l =
        mean_most first.first first.second (dot n (refined m c) -ℤ (pos m *ℤ k)) (dot n (refined m e.0)) (dot n (refined m e.1)) (dot n p)
        first.first_least first.second_least first.some
        (mean_along n.0 n.1 first.first first.second (refined m e.0) (refined m e.1) p first.by_x first.by_y)
        (scaled e.0 c h) (scaled e.1 c l)

    above : (dot n p +ℤ (pos m *ℤ k)) ≤ℤ dot n q
    above =
        mean_least second.first second.second (dot n p +ℤ (pos m *ℤ k)) (dot n (refined m f.0)) (dot n (refined m f.1)) (dot n q)
        second.first_least second.second_least second.some
        (mean_along n.0 n.1 second.first second.second (refined m f.0) (refined m f.1) q second.by_x second.by_y)
        (omega (arith, linear, below f.0 parting.start_start parting.end_start)) (omega (arith, linear, below f.1 parting.start_end parting.end_end))

    beyond : (pos m *ℤ k) ≤ℤ (dot n q -ℤ dot n p)
    beyond = omega (arith, linear, above)
