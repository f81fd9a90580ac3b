-- Lemmas over points: what the steps of joins need to know of a corner.
use Rattle.std.proofs.Common.{◌≡◌, Bool, true, false, ◌∙◌, ℕ, ◌*◌, ◌<◌, ◌≤◌, ap, sym, arith}
use Rattle.std.specs.Prelude.{ℤ, pos, negsuc, ◌*ℤ◌, ◌≤ℤ◌, ◌&&◌, int_le, unsigned_abs}
use Rattle.std.proofs.lemmas.Int.{ints}
use Rattle.mesh_plane.specs.Bounds.{IsSafe}
use Rattle.mesh_plane.specs.Plane.{Point, plus, minus, right_quarter}
use Rattle.mesh_plane.proofs.Whole.{one_mul}
use Rattle.mesh_num.specs.Rectangle.{IsSafeWidened}
use Rattle.mesh_num.specs.Direction.{IsShort, scaled_direction}
use Rattle.mesh_num.proofs.Scaling.{scaled_direction_bounded}
use Rattle.mesh_arc.specs.declared.arc.ArcDirection.{ArcDirection}
use Rattle.mesh_arc.specs.declared.arc.ArcDirection.TheVariants.{Clockwise, Counterclockwise}
use Rattle.mesh_join.specs.Joints.{IsWithinPadding, contact}

-- a point within the padding of a corner that stays safe is safe
pub within_safe : (unit : ℕ) (padding : ℤ) (v p : Point) → IsSafeWidened unit padding v → IsWithinPadding padding v p → IsSafe unit p
within_safe unit padding v p s w = record {
  x = record { low = omega (arith, ints, s.0.x.low, w.west); high = omega (arith, ints, s.1.x.high, w.east) };
  y = record { low = omega (arith, ints, s.0.y.low, w.south); high = omega (arith, ints, s.1.y.high, w.north) };
}

-- a point moved by no more than the padding of a center that stays safe is safe
pub moved_safe : (unit : ℕ) (r : ℤ) (c v : Point) → IsSafeWidened unit (pos (unsigned_abs r)) c → unsigned_abs v.0 ≤ unsigned_abs r →
    unsigned_abs v.1 ≤ unsigned_abs r → IsSafe unit (plus c v)
moved_safe unit r c v s x y = record {
  x = record { low = omega (arith, ints, s.0.x.low, x); high = omega (arith, ints, s.1.x.high, x) };
  y = record { low = omega (arith, ints, s.0.y.low, y); high = omega (arith, ints, s.1.y.high, y) };
}

-- the test of the sense of a turn
pub left_ahead : (t : ℤ) → int_le (pos 0) t ≡ int_le (pos 0) (pos 1 *ℤ t)
left_ahead t = ap (int_le (pos 0)) (sym (one_mul t))

pub right_ahead : (t : ℤ) → int_le t (pos 0) ≡ int_le (pos 0) (negsuc 0 *ℤ t)
right_ahead t = grind (arith, ints)

-- a point beside a corner is within a padding that covers how far it is away
right_within : (padding : ℤ) (v s : Point) → pos (unsigned_abs s.0) ≤ℤ padding → pos (unsigned_abs s.1) ≤ℤ padding → IsWithinPadding padding v (plus v (right_quarter s))
right_within padding v s x y = record { west = omega (arith, ints); south = omega (arith, ints); east = omega (arith, ints); north = omega (arith, ints) }

left_within : (padding : ℤ) (v s : Point) → pos (unsigned_abs s.0) ≤ℤ padding → pos (unsigned_abs s.1) ≤ℤ padding → IsWithinPadding padding v (minus v (right_quarter s))
left_within padding v s x y = record { west = omega (arith, ints); south = omega (arith, ints); east = omega (arith, ints); north = omega (arith, ints) }

-- so the contact points are
pub contact_within : (unit : ℕ) (padding radius : ℤ) (sense : ArcDirection) (v n : Point) → 0 < unit → IsShort unit n → pos (unsigned_abs radius) ≤ℤ padding →
    IsWithinPadding padding v (contact unit radius sense v n)
contact_within unit padding radius sense v n some short covers = by sense
  where
    b : (unsigned_abs (scaled_direction unit radius n).0 ≤ unsigned_abs radius) × (unsigned_abs (scaled_direction unit radius n).1 ≤ unsigned_abs radius)
    b = scaled_direction_bounded unit radius n some short

    within : (m : ℕ) → m ≤ unsigned_abs radius → pos m ≤ℤ padding
    within m l = omega (arith, ints)

    by : (sense : ArcDirection) → IsWithinPadding padding v (contact unit radius sense v n)
    by Counterclockwise = right_within padding v (scaled_direction unit radius n) (within _ b.0) (within _ b.1)
    by Clockwise = left_within padding v (scaled_direction unit radius n) (within _ b.0) (within _ b.1)

-- a point within the padding of a corner that stays safe makes a short vector with it
pub near_difference : (unit : ℕ) (padding : ℤ) (v p : Point) → IsSafeWidened unit padding v → IsWithinPadding padding v p → IsSafe (2 * unit) (minus p v)
near_difference unit padding v p s w = record {
  x = record { low = omega (arith, ints, s.0.x.low, s.1.x.high, w.west); high = omega (arith, ints, s.0.x.low, s.1.x.high, w.east) };
  y = record { low = omega (arith, ints, s.0.y.low, s.1.y.high, w.south); high = omega (arith, ints, s.0.y.low, s.1.y.high, w.north) };
}

-- the second of two tests counts where the first holds
pub both_ahead : (first second a b : Bool) → first ≡ a → first ≡ true → second ≡ b → second ≡ (a && b)
both_ahead first second a b e h k = k ∙ ap (λ (x : Bool). x && b) (sym h ∙ e)

pub none_ahead : (first a b : Bool) → first ≡ a → first ≡ false → first ≡ (a && b)
none_ahead first a b e h = h ∙ ap (λ (x : Bool). x && b) (sym h ∙ e)
