-- The segments at a vertex, by the directions in which they leave it. Each edge here is directed away from the vertex.
use Rattle.std.specs.Prelude.{◌≡◌, ◌⊎◌, Bool, true, cond, ◌&&◌, ◌||◌, not, List, ℤ, pos, ◌-ℤ◌, ◌<ℤ◌, int_lt}
use Rattle.mesh_plane.specs.Plane.{Edge, turn}
use Rattle.mesh_plane.specs.Winding.{same_point, sum_of}
use Rattle.mesh_lattice.specs.Boundary.{rises}
use Rattle.mesh_lattice.specs.Counted.{bit}
use Rattle.mesh_lattice.specs.Split.{back, occurs}

-- of two edges that leave one point, the first comes before the second, counterclockwise from the east: those that rise
-- come before those that do not, and of two alike the one that has the other on its left; so an edge to the east is the
-- last
abbrev pub comes_before : Edge → Edge → Bool
comes_before e s =
    cond (rises e)
    (not (rises s) || int_lt (pos 0) (turn e.0 e.1 s.1))
    (not (rises s) && int_lt (pos 0) (turn e.0 e.1 s.1))

-- an edge leaves the point where `s` starts, before `s`
abbrev pub leaves_before : Edge → Edge → Bool
leaves_before s e = same_point s.0 e.0 && comes_before e s

-- how many edges leave the point where `s` starts before `s`, less how many come in there
abbrev pub net_before : Edge → List Edge → ℤ
net_before s es = sum_of (λ (e : Edge). bit (leaves_before s e) -ℤ bit (leaves_before s (back e))) es

-- the second of two edges that leave one point points to the left of the first
abbrev pub IsToLeft : Edge → Edge → Type 0
IsToLeft e f = pos 0 <ℤ turn e.0 e.1 f.1

-- three edges that leave one point follow each other counterclockwise: of the turns from the first to the second, on to
-- the third and back to the first, two at least are to the left
abbrev pub AreCounterclockwise : Edge → Edge → Edge → Type 0
AreCounterclockwise e f g =
    (IsToLeft e f × IsToLeft f g) ⊎ ((IsToLeft f g × IsToLeft g e) ⊎ (IsToLeft g e × IsToLeft e f))

-- two segments leave one point and no other leaves it between them, counterclockwise from the first to the second:
-- each other one comes after the second and before the first again; where there is no other, the two may be one
pub record AreNeighbours (es : List Edge) (s t : Edge) : Type 0 where
  pub first : occurs s es ≡ true
  pub second : occurs t es ≡ true
  pub one_start : s.0 ≡ t.0
  pub others : (f : Edge) → occurs f es ≡ true → f.0 ≡ s.0 → ((f ≡ s) ⊎ (f ≡ t)) ⊎ AreCounterclockwise t f s
