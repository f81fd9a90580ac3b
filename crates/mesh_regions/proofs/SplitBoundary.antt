-- Lemmas over points and lists: the boundary of split segments winds once round what is filled, and is balanced.
use Rattle.std.specs.Prelude.{ℤ, pos}
use Rattle.std.proofs.Common.{◌≡◌, ℕ, ◌<◌, List, Bool, false, arith}
use Rattle.std.proofs.lemmas.Int.{ints}
use Rattle.mesh_plane.specs.Plane.{Point, Edge}
use Rattle.mesh_plane.specs.Winding.{winding, IsBalanced}
use Rattle.mesh_lattice.specs.Boundary.{IsBoundary}
use Rattle.mesh_lattice.proofs.Keys.{keys, keys_are}
use Rattle.mesh_regions.specs.SideLaws.{AreSplit}
use Rattle.mesh_regions.proofs.LineWindings.{Setting}
use Rattle.mesh_regions.specs.BoundaryLaws.{once}
use Rattle.mesh_regions.proofs.BoundaryFill.{fill_is}
use Rattle.mesh_regions.proofs.BoundaryBalance.{boundary_is_balanced}

setting_of : (es : List Edge) → AreSplit es → Setting es (keys es)
setting_of es split = record { balanced = split.balanced; clean = split.clean; proper = split.proper; keys = keys_are es split.proper }

pub boundary_winds : (es bs : List Edge) (fill : ℤ → Bool) → AreSplit es → fill (pos 0) ≡ false → IsBoundary es fill bs → (m : ℕ) → 0 < m → (q : Point) → winding m q bs ≡ once fill (winding m q es)
boundary_winds es bs fill split empty is m some q = fill_is es (keys es) bs fill (setting_of es split) is empty (pos m) q (omega (arith, ints))

pub boundary_balances : (es bs : List Edge) (fill : ℤ → Bool) → AreSplit es → fill (pos 0) ≡ false → IsBoundary es fill bs → IsBalanced bs
boundary_balances es bs fill split empty is = boundary_is_balanced es (keys es) bs fill (setting_of es split) is empty
