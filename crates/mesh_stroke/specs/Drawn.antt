-- What is promised of the edges of a stroke.
use Rattle.std.specs.Prelude.{ℕ, ◌≡◌, Bool, ◌&&◌, ◌||◌, IsTrue, List, pos, count_by}
use Rattle.std.specs.List.{All}
use Rattle.mesh_plane.specs.Plane.{Point, Edge}
use Rattle.mesh_plane.specs.Winding.{IsBalanced, IsBit, boundary, winding, holds}
use Rattle.mesh_lattice.specs.Reach.{AreEdgesSafe}
use Rattle.mesh_offset.specs.Padding.{AreEndsNear}
use Rattle.mesh_offset.specs.Pieces.{WindAsPieces}
use Rattle.mesh_stroke.specs.Caps.{drawn_cap, is_stock}
use Rattle.mesh_stroke.specs.Strokes.{stroke_pieces}
use Rattle.mesh_stroke.specs.Styles.{StrokeStyle, stroke_padding}

-- no custom cap is drawn: the path is closed, or both caps that are drawn are stock ones
abbrev pub HasStockCaps : StrokeStyle → Bool → Type 0
HasStockCaps style closed =
    IsTrue (closed || (is_stock (drawn_cap style.side style.start) && is_stock (drawn_cap style.side style.end)))

-- at each point of each grid each piece winds 0 times or once
abbrev pub PiecesWindOnce : List (List Point) → Type 0
PiecesWindOnce pieces =
    (m : ℕ) (q : Point) → All (λ (piece : List Point). IsBit (winding m q (boundary piece))) pieces

-- at each point of each grid the edges wind once for each piece that holds the point
abbrev pub WindsAsManyPieces : List (List Point) → List Edge → Type 0
WindsAsManyPieces pieces es = (m : ℕ) (q : Point) → winding m q es ≡ pos (count_by (holds m q) pieces)

-- edges that are drawn as the stroke of the path through these points, which stay safe where they move by its padding
pub record AreStroked (unit : ℕ) (style : StrokeStyle) (closed : Bool) (points : List Point) (es : List Edge)
    : Type 0 where
  -- they close up: as many of them end in a point as start there
  pub balanced : IsBalanced es
  -- they stay near the path
  pub near : AreEndsNear (stroke_padding style) points es
  -- and in the safe range
  pub safe : AreEdgesSafe unit es
  -- they wind as the pieces of the stroke together
  pub sum : WindAsPieces (stroke_pieces unit style closed points) es
  -- but for custom caps no piece is turned round
  pub pieces : HasStockCaps style closed → PiecesWindOnce (stroke_pieces unit style closed points)
  -- so they wind as often as there are pieces that hold the point
  pub count : HasStockCaps style closed → WindsAsManyPieces (stroke_pieces unit style closed points) es
