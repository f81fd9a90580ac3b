-- Lemmas over whole numbers: sizes of directions and of their products.
use Rattle.std.proofs.Common.{◌≡◌, ℕ, ◌*◌, ◌^◌, ◌≤◌, arith}
use Rattle.std.specs.Prelude.{ℤ, unsigned_abs}
use Rattle.std.proofs.Math.Nat.{mul-le-mul}
use Rattle.std.proofs.lemmas.Int.{ints}
use Rattle.mesh_plane.specs.Bounds.{IsSafe, IsWithin}
use Rattle.mesh_plane.specs.Plane.{Point}
use Rattle.mesh_num.specs.Direction.{IsShort}
use Rattle.mesh_num.proofs.Scaling.{short_bounded}

-- a direction's components are below twice the unit
pub short_safe : (unit : ℕ) (n : Point) → 2 ^ 14 ≤ unit → IsShort unit n → IsSafe (2 * unit) n
short_safe unit n l s =
    let b = short_bounded unit n s in
    record {
      x = record { low = omega (arith, ints, b.0, l); high = omega (arith, ints, b.0, l) };
      y = record { low = omega (arith, ints, b.1, l); high = omega (arith, ints, b.1, l) };
    }

-- what the wide type holds
pub wide_size : (half unit : ℕ) (z r : ℤ) → half ≡ 8 * unit * unit → unit ≤ 2 ^ 30 → IsWithin half z → r ≡ z → unsigned_abs r ≤ 2 ^ 63
wide_size half unit z r e l w f =
    let p : unit * unit ≤ 2 ^ 30 * 2 ^ 30 = mul-le-mul l l in
    rw f (omega (arith, ints, w.low, w.high))
