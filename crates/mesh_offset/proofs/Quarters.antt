-- Lemmas over points: vectors turned by a quarter turn alike.
use Rattle.std.proofs.Common.{◌≡◌, arith}
use Rattle.mesh_plane.specs.Plane.{Point, plus, cross, turn, right_quarter}
use Rattle.mesh_plane.proofs.Whole.{linear, multiplied}

-- they turn round a point as the vectors do
pub quarters_turn : (v s t : Point) → turn v (plus v (right_quarter s)) (plus v (right_quarter t)) ≡ cross s t
quarters_turn v s t = simp multiplied (omega (arith, linear))
