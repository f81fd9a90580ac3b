-- Lemmas over points and lists: what is within a padding is near and safe.
use Rattle.std.proofs.Common.{ℕ, arith, List, ◌*◌, ◌≤◌, ◌≡◌}
use Rattle.std.specs.Prelude.{ℤ, pos, ◌≤ℤ◌, unsigned_abs}
use Rattle.std.proofs.lemmas.Int.{ints}
use Rattle.mesh_plane.specs.Plane.{Point, plus, right_quarter, Edge, minus}
use Rattle.mesh_num.specs.Rectangle.{IsSafeWidened}
use Rattle.mesh_num.proofs.Moving.{safe_difference, stays_safe}
use Rattle.std.specs.List.{All, Contains}
use Rattle.std.proofs.lemmas.List.Elements.{All-weaker, All-contains}
use Rattle.mesh_offset.specs.Padding.{ArePathsSafe, IsNear}
use Rattle.mesh_plane.specs.Bounds.{IsSafe, IsWithin}
use Rattle.mesh_join.proofs.Joints.{within_safe}

-- what is safe within a padding is so within a smaller one
pub safe_within_less : (unit : ℕ) (padding less : ℤ) (p : Point) → pos 0 ≤ℤ less → less ≤ℤ padding → IsSafeWidened unit padding p → IsSafeWidened unit less p
safe_within_less unit padding less p least h s = (
  record {
    x = record { low = omega (arith, ints, s.0.x.low); high = omega (arith, ints, s.1.x.high) };
    y = record { low = omega (arith, ints, s.0.y.low); high = omega (arith, ints, s.1.y.high) };
  },
  record {
    x = record { low = omega (arith, ints, s.0.x.low); high = omega (arith, ints, s.1.x.high) };
    y = record { low = omega (arith, ints, s.0.y.low); high = omega (arith, ints, s.1.y.high) };
  },
)

-- paths that are safe within the padding of an outline are so within that of each of its offsets
pub paths_safe_less : (unit : ℕ) (padding less : ℤ) (paths : List (List Point)) → pos 0 ≤ℤ less → less ≤ℤ padding → ArePathsSafe unit padding paths → ArePathsSafe unit less paths
paths_safe_less unit padding less paths least h safe =
    All-weaker (λ (path : List Point). All (IsSafeWidened unit padding) path) (λ (path : List Point). All (IsSafeWidened unit less) path)
    (λ path all. All-weaker (IsSafeWidened unit padding) (IsSafeWidened unit less) (λ p s. safe_within_less unit padding less p least h s) path all) paths safe

-- a point near vertices that stay safe is safe
pub near_safe : (unit : ℕ) (padding : ℤ) (vertices : List Point) (p : Point) → All (λ (v : Point). IsSafeWidened unit padding v) vertices → IsNear padding vertices p → IsSafe unit p
near_safe unit padding vertices p all n =
    within_safe unit padding n.vertex p (All-contains (λ (v : Point). IsSafeWidened unit padding v) vertices n.vertex all n.listed) n.within

-- a vertex is near
pub vertex_near : (padding : ℤ) (vertices : List Point) (v : Point) → pos 0 ≤ℤ padding → Contains vertices v → IsNear padding vertices v
vertex_near padding vertices v least listed = record {
  vertex = v;
  listed = listed;
  within = record { west = omega (arith, ints); south = omega (arith, ints); east = omega (arith, ints); north = omega (arith, ints) };
}

-- a point beside a vertex is near
pub beside_near : (padding : ℤ) (vertices : List Point) (v s : Point) → pos (unsigned_abs s.0) ≤ℤ padding → pos (unsigned_abs s.1) ≤ℤ padding → Contains vertices v →
    IsNear padding vertices (plus v (right_quarter s))
beside_near padding vertices v s x y listed = record {
  vertex = v;
  listed = listed;
  within = record { west = omega (arith, ints); south = omega (arith, ints); east = omega (arith, ints); north = omega (arith, ints) };
}

-- ends near vertices that stay safe are safe
pub ends_safe : (unit : ℕ) (padding : ℤ) (vertices : List Point) (es : List Edge) → All (λ (v : Point). IsSafeWidened unit padding v) vertices →
    All (λ (e : Edge). IsNear padding vertices e.0 × IsNear padding vertices e.1) es → All (λ (e : Edge). IsSafe unit e.0 × IsSafe unit e.1) es
ends_safe unit padding vertices es safe near =
    All-weaker (λ (e : Edge). IsNear padding vertices e.0 × IsNear padding vertices e.1) (λ (e : Edge). IsSafe unit e.0 × IsSafe unit e.1)
    (λ e n. (near_safe unit padding vertices e.0 safe n.0, near_safe unit padding vertices e.1 safe n.1)) es near

-- the vector between two safe points is short enough for products
pub between_safe : (unit n : ℕ) (a b : Point) → IsSafeWidened unit (pos n) a → IsSafeWidened unit (pos n) b → IsSafe (2 * unit) (minus b a)
between_safe unit n a b s t =
    safe_difference unit b a (stays_safe unit (pos n) b (omega (arith, ints)) t)
    (stays_safe unit (pos n) a (omega (arith, ints)) s)

-- a point moved by no more than the padding is safe
pub beside_safe : (unit n : ℕ) (a s : Point) → IsSafeWidened unit (pos n) a → unsigned_abs s.0 ≤ n → unsigned_abs s.1 ≤ n → IsSafe unit (plus a (right_quarter s))
beside_safe unit n a s w x y = record {
  x = record { low = omega (arith, ints, w.0.x.low, w.1.x.high); high = omega (arith, ints, w.0.x.low, w.1.x.high) };
  y = record { low = omega (arith, ints, w.0.y.low, w.1.y.high); high = omega (arith, ints, w.0.y.low, w.1.y.high) };
}

-- the size of an offset by which a point stays safe is below the unit
pub radius_within : (unit n : ℕ) (p : Point) (z : ℤ) → IsSafeWidened unit (pos n) p → z ≡ pos n → IsWithin (2 * unit) z
radius_within unit n p z w e = record {
  low = omega (arith, ints, w.0.x.low, w.1.x.high);
  high = omega (arith, ints, w.0.x.low, w.1.x.high);
}
