-- Edges with what judging them takes.
use Rattle.std.specs.Prelude.{◌≡◌, ◌*◌, ◌^◌, ◌-ℤ◌, pos}
use Rattle.mesh_plane.specs.Bounds.{IsSafe, IsSmall}
use Rattle.mesh_plane.specs.Plane.{Edge, minus, turn}
use Rattle.mesh_lattice.specs.Split.{IsInside}
use Rattle.mesh_meeting.specs.Small.{HasSmallEnds}
use Rattle.mesh_pairs.specs.declared.pairs.BothSides.{BothSides}
use Rattle.mesh_pairs.specs.declared.pairs.Line.{Line}
use Rattle.mesh_pairs.specs.Laws.{spread}

-- an edge with small ends, the way along it, and the turn of what lies 16 units beside it
pub record IsLine (l : Line) : Type 0 where
  pub small : HasSmallEnds l.ends
  pub size : IsSafe (2 ^ 31) l.along
  pub along : l.along ≡ minus l.ends.1 l.ends.0
  pub limit : l.limit ≡ pos (16 * spread l.ends)
  pub limited : IsSmall (2 ^ 40) l.limit

-- how far the ends of two edges lie beside each other's lines
pub record AreSidesOf (e f : Edge) (s : BothSides) : Type 0 where
  pub second : s.second ≡ (turn e.0 e.1 f.0, turn e.0 e.1 f.1)
  pub first : s.first ≡ (turn f.0 f.1 e.0, turn f.0 f.1 e.1)
  pub whole : IsSmall (2 ^ 63) (s.first.0 -ℤ s.first.1)

-- no end of one of two edges lies inside the other
pub record HaveNoEndInside (e f : Edge) : Type 0 where
  pub starts : IsInside e f.0 → ⊥
  pub ends : IsInside e f.1 → ⊥
  pub begins : IsInside f e.0 → ⊥
  pub stops : IsInside f e.1 → ⊥
