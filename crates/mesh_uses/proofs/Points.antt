-- Lemmas over points: bounds that are safe, and points beside others.
use Rattle.std.proofs.Common.{◌≡◌, ℕ, ◌≤◌, Bool, List, map, arith}
use Rattle.std.specs.Prelude.{ℤ, pos, unsigned_abs, ◌↔◌, IsTrue}
use Rattle.std.specs.List.{All, Contains}
use Rattle.std.proofs.lemmas.Int.{ints}
use Rattle.std.proofs.lemmas.List.Elements.{All-map, All-weaker, All-contains}
use Rattle.mesh_num.specs.Bounds.{IsSafe, IsSmall}
use Rattle.mesh_num.specs.Plane.{Point, Edge, minus, plus, right_quarter}
use Rattle.mesh_num.specs.Rectangle.{IsInRectangle, IsBounds, IsSafeRectangle}

-- what holds of a coordinate of each point holds of a side that is one of them
of_side : (f : Point → ℤ) (P : ℤ → Type 0) (points : List Point) (side : ℤ) →
    All (λ (p : Point). P (f p)) points → Contains (map f points) side → P side
of_side f P points side all found = All-contains P (map f points) side (All-map P f points all) found

-- bounds are safe where each of their points is
bounds_safe : (unit : ℕ) (bounds : Edge) (points : List Point) → IsBounds bounds points →
    IsSafeRectangle unit bounds ↔ All (IsSafe unit) points
bounds_safe unit bounds points h = (there, back)
  where
    inside : IsSafeRectangle unit bounds → (p : Point) → IsInRectangle bounds p → IsSafe unit p
    inside s p i = record {
      x = record { low = omega (arith, ints, s.0.x.low, i.west); high = omega (arith, ints, s.1.x.high, i.east) };
      y = record { low = omega (arith, ints, s.0.y.low, i.south); high = omega (arith, ints, s.1.y.high, i.north) };
    }

    there : IsSafeRectangle unit bounds → All (IsSafe unit) points
    there s = All-weaker (IsInRectangle bounds) (IsSafe unit) (inside s) points h.inside

    back : All (IsSafe unit) points → IsSafeRectangle unit bounds
    back all =
        let xs = All-weaker (IsSafe unit) (λ (p : Point). IsSmall unit p.0) (λ p s. s.x) points all in
        let ys = All-weaker (IsSafe unit) (λ (p : Point). IsSmall unit p.1) (λ p s. s.y) points all in
        let x = λ (side : ℤ) (f : Contains (map (λ (p : Point). p.0) points) side). of_side (λ p. p.0) (IsSmall unit) points side xs f in
        let y = λ (side : ℤ) (f : Contains (map (λ (p : Point). p.1) points) side). of_side (λ p. p.1) (IsSmall unit) points side ys f in
        (record { x = x bounds.0.0 h.west; y = y bounds.0.1 h.south }, record { x = x bounds.1.0 h.east; y = y bounds.1.1 h.north })

-- a test of the bounds is one of the points
pub bounds_tested : (unit : ℕ) (bounds : Edge) (points path : List Point) (b : Bool) → IsBounds bounds points → points ≡ path →
    IsTrue b ↔ IsSafeRectangle unit bounds → IsTrue b ↔ All (IsSafe unit) path
bounds_tested unit bounds points path b h e t =
    let w : IsSafeRectangle unit bounds ↔ All (IsSafe unit) path = rw (← e) (bounds_safe unit bounds points h) in
    (λ r. w.0 (t.0 r), λ a. t.1 (w.1 a))

-- the vector from a point to itself
pub minus_self : (p : Point) → minus p p ≡ (pos 0, pos 0)
minus_self p =
    let x : (minus p p).0 ≡ pos 0 = omega (arith, ints) in
    let y : (minus p p).1 ≡ pos 0 = omega (arith, ints) in
    λ i. (x i, y i)

-- a point moved to the side by no more than a distance is no farther away
pub beside_near : (n : ℕ) (p v : Point) → unsigned_abs v.0 ≤ n → unsigned_abs v.1 ≤ n →
    IsInRectangle (minus p (pos n, pos n), plus p (pos n, pos n)) (plus p (right_quarter v))
beside_near n p v x y = record {
  west = omega (arith, ints, x, y);
  south = omega (arith, ints, x, y);
  east = omega (arith, ints, x, y);
  north = omega (arith, ints, x, y);
}
