-- Directions: vectors brought to the length `unit`, each component cut towards 0, and their multiples by a radius.
use Rattle.std.specs.Prelude.{ℕ, ◌≡◌, ◌-◌, ◌*◌, ◌≤◌, ℤ, pos, ◌*ℤ◌, ◌≤ℤ◌, ◌<ℤ◌, unsigned_abs}
use Rattle.mesh_plane.specs.Plane.{Point, opposite, cross, dot, length_sq}
use Rattle.mesh_plane.specs.Rounding.{rounded}
use Rattle.mesh_plane.specs.Signs.{HasSignOf}

-- `j / unit` is at most the share of a component of size `size` in a vector with the squared length `square`
abbrev pub IsShare : ℕ → ℕ → ℕ → ℕ → Type 0
IsShare unit square size j = j * j * square ≤ unit * unit * (size * size)

-- `k` is the component in a direction that belongs to the component `x` of a vector with the squared length `square`:
-- the greatest whole number whose share of `unit` is at most that of `x`, with the sign of `x`
pub record IsPart (unit square : ℕ) (x k : ℤ) : Type 0 where
  pub sign : HasSignOf x k
  pub within : IsShare unit square (unsigned_abs x) (unsigned_abs k)
  pub greatest : (j : ℕ) → IsShare unit square (unsigned_abs x) j → j ≤ unsigned_abs k

-- `n` is the direction of the vector `v`; only a vector other than 0 has one
pub record IsDirection (unit : ℕ) (v n : Point) : Type 0 where
  pub x : IsPart unit (length_sq v) v.0 n.0
  pub y : IsPart unit (length_sq v) v.1 n.1

-- a direction is at most `unit` long
abbrev pub IsShort : ℕ → Point → Type 0
IsShort unit n = length_sq n ≤ unit * unit

-- a direction that lost at most 2 of its length
abbrev pub IsFresh : ℕ → Point → Type 0
IsFresh unit n = (unit - 2) * (unit - 2) ≤ length_sq n

-- a component of a direction times a radius
abbrev pub scaled : ℕ → ℤ → ℤ → ℤ
scaled unit radius part = rounded (part *ℤ radius) unit

-- a direction times a radius
abbrev pub scaled_direction : ℕ → ℤ → Point → Point
scaled_direction unit radius n = (scaled unit radius n.0, scaled unit radius n.1)

-- the opposite vector has the opposite direction; `n` is the direction of `v`
abbrev pub KeepsOpposites : ℕ → Point → Point → Type 0
KeepsOpposites unit v n = (m : Point) → IsDirection unit (opposite v) m → m ≡ opposite n

-- `m` is the direction of the opposite of each vector with the direction `n`
abbrev pub TurnsRound : ℕ → Point → Point → Type 0
TurnsRound unit n m = (v : Point) → IsDirection unit v n → IsDirection unit (opposite v) m

-- a parallel vector that looks the same way has the same direction; `n` is the direction of `v`
abbrev pub SameWay : ℕ → Point → Point → Type 0
SameWay unit v n = (w m : Point) → IsDirection unit w m → cross v w ≡ pos 0 → pos 0 <ℤ dot v w → n ≡ m

-- a turn to the left, by at most half a turn, is not turned to the right, though it may vanish; `n` is the direction
-- of `v`
abbrev pub KeepsTurns : ℕ → Point → Point → Type 0
KeepsTurns unit v n = (w m : Point) → IsDirection unit w m → pos 0 ≤ℤ cross v w → pos 0 ≤ℤ cross n m

-- nor is it between directions times one radius; `s` is the direction `n` times the radius
abbrev pub KeepsScaledTurns : ℕ → ℤ → Point → Point → Type 0
KeepsScaledTurns unit radius n s =
    (v w m : Point) → IsDirection unit v n → IsDirection unit w m → pos 0 ≤ℤ cross v w
    → pos 0 ≤ℤ cross s (scaled_direction unit radius m)
