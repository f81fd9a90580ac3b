-- Lemmas over numbers: coordinates of safe points lie in the range of their type.
use Rattle.std.proofs.Common.{◌≡◌, ℕ, ◌*◌, arith}
use Rattle.std.specs.Prelude.{ℤ, pos, ◌≤ℤ◌}
use Rattle.std.proofs.lemmas.Int.{ints}
use Rattle.mesh_plane.specs.Bounds.{IsWithin, IsSmall, IsSafe}
use Rattle.mesh_plane.specs.Plane.{Point, minus}
use Rattle.mesh_num.specs.Rectangle.{IsSafeWidened}

pub safe_fits : (unit : ℕ) (z : ℤ) → IsSmall unit z → IsWithin (2 * unit) z
safe_fits unit z s = record { low = omega (arith, ints, s.low, s.high); high = omega (arith, ints, s.low, s.high) }

-- what is as small as a safe coordinate lies in the range of its type
pub small_within : (unit : ℕ) (z r : ℤ) → z ≡ r → IsSmall unit r → IsWithin (2 * unit) z
small_within unit z r e s = rw e (safe_fits unit r s)

-- the vector between safe points is short
pub safe_difference : (unit : ℕ) (p q : Point) → IsSafe unit p → IsSafe unit q → IsSafe (2 * unit) (minus p q)
safe_difference unit p q h k = record {
  x = record { low = omega (arith, ints, h.x.low, k.x.high); high = omega (arith, ints, h.x.high, k.x.low) };
  y = record { low = omega (arith, ints, h.y.low, k.y.high); high = omega (arith, ints, h.y.high, k.y.low) };
}

-- a point that stays safe is safe
pub stays_safe : (unit : ℕ) (padding : ℤ) (p : Point) → pos 0 ≤ℤ padding → IsSafeWidened unit padding p → IsSafe unit p
stays_safe unit padding p some h = record {
  x = record {
    low = omega (arith, ints, some, h.0.x.low);
    high = omega (arith, ints, some, h.1.x.high);
  };
  y = record {
    low = omega (arith, ints, some, h.0.y.low);
    high = omega (arith, ints, some, h.1.y.high);
  };
}
