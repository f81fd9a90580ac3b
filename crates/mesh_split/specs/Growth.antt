-- Which segments wait after others were split.
use Rattle.std.specs.Prelude.{◌⊎◌, List, [], ◌∷◌, pos, ◌<ℤ◌}
use Rattle.mesh_plane.specs.Plane.{Point, Edge}
use Rattle.mesh_lattice.specs.Counted.{Counted}
use Rattle.mesh_store.specs.Cells.{StandsIn}
use Rattle.mesh_store.specs.Steps.{exactly}
use Rattle.mesh_store.specs.Witnesses.{forward}

-- a segment waits, with its ends in this order
abbrev pub Waits : Edge → List Counted → Type 0
Waits e todo = pos 0 <ℤ exactly e todo

-- what waits now waited before or is one of these
abbrev pub Grows : List Counted → List Counted → List Edge → Type 0
Grows old new es = (x : Edge) → Waits x new → Waits x old ⊎ StandsIn x es

-- the pieces of two segments that are split at a point, the lesser end first
abbrev pub pieces_of : Edge → Edge × Point → List Edge
pieces_of e m = forward (e.0, m.1) ∷ forward (m.1, e.1) ∷ forward (m.0.0, m.1) ∷ forward (m.1, m.0.1) ∷ []
