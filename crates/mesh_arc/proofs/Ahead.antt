-- Lemmas over points: what lies ahead, from what the code computes.
use Rattle.std.proofs.Common.{◌≡◌, Bool, true, arith}
use Rattle.std.specs.Prelude.{ℤ, pos, negsuc, ◌-ℤ◌, ◌*ℤ◌, int_le, int_lt}
use Rattle.std.proofs.lemmas.Int.{ints}
use Rattle.mesh_plane.specs.Plane.{Point, cross, dot}
use Rattle.mesh_arc.specs.Arcs.{ahead, is_within}
use Rattle.mesh_arc.specs.declared.arc.ArcDirection.{ArcDirection}
use Rattle.mesh_arc.specs.declared.arc.ArcDirection.TheVariants.{Clockwise}

negated : (z : ℤ) → pos 0 -ℤ z ≡ negsuc 0 *ℤ z
negated z = omega (arith, ints)

pub ahead_clockwise : (sense : ArcDirection) (v w : Point) (z : ℤ) → sense ≡ Clockwise → z ≡ cross v w
    → pos 0 -ℤ z ≡ ahead sense v w
ahead_clockwise sense v w z e f = rw (e, f) (negated (cross v w))

pub within_flat : (flat : Bool) (sense : ArcDirection) (bound v w : Point) (a d : ℤ) → a ≡ ahead sense v w
    → d ≡ dot v w
    → int_le (pos 0) a ≡ true → int_lt (pos 0) d ≡ true → flat ≡ int_le (a *ℤ bound.1) (d *ℤ bound.0)
    → flat ≡ is_within sense bound v w
within_flat flat sense bound v w a d e f ahead_of before h = rw (← e, ← f, ahead_of, before) h
