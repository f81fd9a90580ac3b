-- Drawings that lie apart: each is made of pieces, and each piece keeps to a box.
use Rattle.std.specs.Prelude.{ℕ, ◌⊎◌, List, ℤ, pos, ◌*ℤ◌, ◌≤ℤ◌, ◌<ℤ◌}
use Rattle.std.specs.List.{All, AllPairs, flat_map}
use Rattle.mesh_plane.specs.Plane.{Point, Edge}
use Rattle.mesh_plane.specs.Winding.{IsBalanced}

-- an upright rectangle of points, its sides included
pub record Box : Type 0 where
  pub west : ℤ
  pub east : ℤ
  pub south : ℤ
  pub north : ℤ

pub record IsWithin (box : Box) (p : Point) : Type 0 where
  pub by_west : box.west ≤ℤ p.0
  pub by_east : p.0 ≤ℤ box.east
  pub by_south : box.south ≤ℤ p.1
  pub by_north : p.1 ≤ℤ box.north

-- a box on the grid that is `m` times finer
abbrev pub finer_box : ℕ → Box → Box
finer_box m b = record {
  west = pos m *ℤ b.west;
  east = pos m *ℤ b.east;
  south = pos m *ℤ b.south;
  north = pos m *ℤ b.north;
}

-- a box lies wholly to the west of another, or to the south of it
abbrev pub IsWestOf : Box → Box → Type 0
IsWestOf b c = b.east <ℤ c.west

abbrev pub IsSouthOf : Box → Box → Type 0
IsSouthOf b c = b.north <ℤ c.south

-- two boxes share no point: one lies wholly to one side of the other
abbrev pub AreBoxesApart : Box → Box → Type 0
AreBoxesApart b c = (IsWestOf b c ⊎ IsWestOf c b) ⊎ (IsSouthOf b c ⊎ IsSouthOf c b)

-- both ends of an edge lie in the box, and so the edge does
abbrev pub LiesInBox : Box → Edge → Type 0
LiesInBox box e = IsWithin box e.0 × IsWithin box e.1

-- edges and a box
pub record Piece : Type 0 where
  pub box : Box
  pub edges : List Edge

-- the edges are balanced, as those of closed paths are, and each lies in the box
pub record IsBoxed (piece : Piece) : Type 0 where
  pub balanced : IsBalanced piece.edges
  pub within : All (LiesInBox piece.box) piece.edges

-- all edges of some pieces
abbrev pub edges_in : List Piece → List Edge
edges_in pieces = flat_map (λ (piece : Piece). piece.edges) pieces

-- each box of the one list is apart from each of the other
abbrev pub ArePiecesApart : List Piece → List Piece → Type 0
ArePiecesApart first second = All (λ (p : Piece). All (λ (q : Piece). AreBoxesApart p.box q.box) second) first

-- two lists of such pieces, apart from each other; within a list boxes may meet
pub record LieApart (first second : List Piece) : Type 0 where
  pub first_boxed : All IsBoxed first
  pub second_boxed : All IsBoxed second
  pub apart : ArePiecesApart first second

-- components of a drawing: pieces whose boxes are apart from each other
pub record AreComponents (pieces : List Piece) : Type 0 where
  pub boxed : All IsBoxed pieces
  pub apart : AllPairs (λ (p q : Piece). AreBoxesApart p.box q.box) pieces

-- ---- ways out

-- the way straight on to one side passes none of the pieces' boxes, wherever in the box it starts
abbrev pub IsOpenEast : List Piece → Box → Type 0
IsOpenEast ps b = All (λ (p : Piece). IsWestOf p.box b ⊎ (IsSouthOf p.box b ⊎ IsSouthOf b p.box)) ps

abbrev pub IsOpenWest : List Piece → Box → Type 0
IsOpenWest ps b = All (λ (p : Piece). IsWestOf b p.box ⊎ (IsSouthOf p.box b ⊎ IsSouthOf b p.box)) ps

abbrev pub IsOpenNorth : List Piece → Box → Type 0
IsOpenNorth ps b = All (λ (p : Piece). IsSouthOf p.box b ⊎ (IsWestOf p.box b ⊎ IsWestOf b p.box)) ps

abbrev pub IsOpenSouth : List Piece → Box → Type 0
IsOpenSouth ps b = All (λ (p : Piece). IsSouthOf b p.box ⊎ (IsWestOf p.box b ⊎ IsWestOf b p.box)) ps

abbrev pub IsOpen : List Piece → Box → Type 0
IsOpen ps b = (IsOpenEast ps b ⊎ IsOpenWest ps b) ⊎ (IsOpenNorth ps b ⊎ IsOpenSouth ps b)

-- each box of either list has a way out past the boxes of the other
pub record AreOpen (first second : List Piece) : Type 0 where
  pub by_first : All (λ (p : Piece). IsOpen second p.box) first
  pub by_second : All (λ (q : Piece). IsOpen first q.box) second
