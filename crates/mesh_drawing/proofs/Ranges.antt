-- Lemmas over whole numbers: what fits a coordinate, and what stays in range.
use Rattle.std.proofs.Common.{◌≡◌, ℕ, ◌+◌, ◌*◌, ◌<◌, ◌≤◌, arith}
use Rattle.std.specs.Prelude.{◌↔◌, IsTrue, nat_lt, ℤ, ◌+ℤ◌, ◌-ℤ◌, unsigned_abs}
use Rattle.std.proofs.lemmas.Int.{ints}
use borrow.Author.Tests.{ltb-true, lt-ltb}
use Rattle.std.proofs.Math.Nat.{mul-le-mul}
use Rattle.mesh_plane.specs.Bounds.{IsSmall, IsWithin}

-- what fits a coordinate fits its wide type
pub within_wide : (u h : ℕ) (z : ℤ) → h ≡ 8 * u * u → 1 ≤ u → IsWithin (2 * u) z → IsWithin h z
within_wide u h z e l w =
    let p : 1 * u ≤ u * u = mul-le-mul l (omega arith) in
    record { low = omega (arith, ints, w.low); high = omega (arith, ints, w.high) }

-- a coordinate has room exactly where its size and that of the padding together stay below the unit
pub room_left : (unit size reach end : ℕ) (padding coordinate : ℤ) → size ≡ unsigned_abs coordinate → reach ≡ unsigned_abs padding → end ≡ unit →
    IsTrue (nat_lt (size + reach) end) ↔ IsSmall unit (coordinate -ℤ padding) × IsSmall unit (coordinate +ℤ padding)
room_left unit size reach end padding coordinate s r e = (there, back)
  where
    there : IsTrue (nat_lt (size + reach) end) → IsSmall unit (coordinate -ℤ padding) × IsSmall unit (coordinate +ℤ padding)
    there t =
        let below : size + reach < unit = omega (arith, e, ltb-true (size + reach) end t) in (
          record { low = omega (arith, ints, s, r, below); high = omega (arith, ints, s, r, below) },
          record { low = omega (arith, ints, s, r, below); high = omega (arith, ints, s, r, below) },
        )

    back : IsSmall unit (coordinate -ℤ padding) × IsSmall unit (coordinate +ℤ padding) → IsTrue (nat_lt (size + reach) end)
    back room = lt-ltb (size + reach) end (omega (arith, ints, s, r, e, room.0.low, room.0.high, room.1.low, room.1.high))
